use Rattle.std.proofs.Common.{ℕ, ◌≤◌, ◌-◌}
use Rattle.generations_rule.specs.Place.{Place}
use Rattle.square_store.specs.Store.{IsGrown}
use Rattle.generation_engine.specs.EngineLeaf.{leaf_grid}
use Rattle.macrocell_universes.specs.Middles.{AreAbout, StandAt}
use Rattle.macrocell_universes.proofs.widening.widened.Given as goal

abbrev pub invariant-loop-about : goal.invariant-loop-about
invariant-loop-about l =
    IsGrown leaf_grid 8 l.fn.store l.store × (StandAt l.store l.about × (((f : Place → ℕ) → AreAbout f l.fn.store l.fn.parts → AreAbout f l.store l.about) × (l.about.level ≤ 29)))

abbrev pub decreases-loop-about : goal.decreases-loop-about
decreases-loop-about l = 30 - l.about.level
