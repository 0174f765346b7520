-- Universes and lists of cells that are kept from one export to the next.
use Rattle.std.specs.Prelude.{◌≡◌, ℕ}
use Rattle.generations_rule.specs.Place.{Place}
use Rattle.generations_rule.specs.Rule.{GenerationsRule}
use Rattle.generations_rule.specs.Evolution.{at}
use Rattle.generation_engine.specs.Running.{IsEvolutionOf}
use Rattle.generation_engine.specs.Universe.{EngineValue}
use Rattle.generation_engine.specs.Walk.{AreCellsOf}
use Rattle.export.specs.declared.by_tiles.Listed.{Listed}

-- the universe has the rule, and shows what that made of a map of states in as many generations as it has run
pub record IsRunOf (r : GenerationsRule) (f : Place → ℕ) (e : EngineValue) : Type 0 where
  pub rule : e.rule ≡ r
  pub shows : IsEvolutionOf f e

-- the cells are those that the rule made of a map of states in as many generations as they are told to be of
abbrev pub IsListedOf : GenerationsRule → (Place → ℕ) → Listed → Type 0
IsListedOf r f listed = AreCellsOf (at r f listed.generation) listed.cells.items
