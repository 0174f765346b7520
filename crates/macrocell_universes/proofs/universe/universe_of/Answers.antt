use Rattle.std.proofs.Common.{◌≡◌, ◌∙◌, ℕ, refl, ap, sym, subst}
use Rattle.generations_rule.specs.Place.{Place}
use Rattle.square_store.specs.Squares.{Draws, Held}
use Rattle.generation_engine.specs.declared.leaf_kind.EngineLeaf.{EngineLeaf}
use Rattle.generation_engine.specs.EngineLeaf.{leaf_grid}
use Rattle.generation_engine.specs.Universe.{EngineValue, states_of}
use Rattle.macrocell_text.specs.Maps.{map_of_root, map_of_squares}
use Rattle.macrocell_text.specs.Readings.{macrocell_told}
use Rattle.macrocell_text.proofs.FoundLists.{told}
use Rattle.macrocell_universes.specs.Middles.{grid_in_universe}
use Rattle.macrocell_universes.specs.Numbered.{square_of}
use Rattle.macrocell_universes.specs.Refusals.{IsRefused}
use Rattle.macrocell_universes.proofs.Built.{below_same, built_engine, plane_same, refused_same, universe_states, want_refused}
use Rattle.macrocell_universes.proofs.universe.universe_of.Goals as goal

pub returns-clause-engine : goal.returns-clause-engine
returns-clause-engine c =
    let f = map_of_root (square_of c.entries-entries.result.now c.root_of-root.result) in
    let e : EngineValue = record { rule = c.args.rule.now; store = c.into_store.result; root = c.in_ok-part.part; generation = 0 } in
    let drawn = subst (λ (s : Held EngineLeaf). Draws leaf_grid 8 s 30 (grid_in_universe f) c.in_ok-part.part) (sym c.into_store.ensures) c.in_ok-part.ensures.root in
    built_engine e f drawn c.in_ok-in_universe.ensures.plane c.in_ok-in_universe.ensures.below refl

pub returns-clause-states : goal.returns-clause-states
returns-clause-states c = λ p.
    let f = map_of_root (square_of c.entries-entries.result.now c.root_of-root.result) in
    let e : EngineValue = record { rule = c.args.rule.now; store = c.into_store.result; root = c.in_ok-part.part; generation = 0 } in
    let drawn = subst (λ (s : Held EngineLeaf). Draws leaf_grid 8 s 30 (grid_in_universe f) c.in_ok-part.part) (sym c.into_store.ensures) c.in_ok-part.ensures.root in
    universe_states e f drawn c.in_ok-in_universe.ensures.plane p ∙ c.root_of-root.ensures.map p ∙ ap (λ s. map_of_squares s p) c.entries-entries.ensures.told
