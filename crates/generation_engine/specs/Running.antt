-- Generations of a universe.
use Rattle.std.specs.Prelude.{◌≡◌, ℕ, ◌+◌, ◌^◌, ◌≤◌}
use Rattle.generations_rule.specs.Place.{Place}
use Rattle.generations_rule.specs.Evolution.{at}
use Rattle.square_store.specs.Squares.{IsAt}
use Rattle.generation_engine.specs.Universe.{EngineValue, AreSameStates, IsEngine, population_of, states_of}
use Rattle.generation_engine.specs.Kept.{RuledSquares}

-- the universe with this root, at a generation
abbrev pub universe : RuledSquares → ℕ → ℕ → EngineValue
universe s root generation = record { rule = s.rule; store = s.store; root = root; generation = generation }

-- the root q is that of the universe g generations later, at whatever generation it was
pub record IsRun (old new : RuledSquares) (g root q : ℕ) : Type 0 where
  pub stands : IsAt new.store 30 q
  pub engine : (n : ℕ) → IsEngine (universe old root n) → n + g ≤ 2 ^ 29 → IsEngine (universe new q (n + g))
  pub states : (n : ℕ) → IsEngine (universe old root n) → n + g ≤ 2 ^ 29 → AreSameStates (states_of (universe new q (n + g))) (at old.rule (states_of (universe old root n)) g)

-- what a caller sees of an engine's cells is as it was
pub record HasSameCells (old new : EngineValue) : Type 0 where
  pub states : AreSameStates (states_of new) (states_of old)
  pub population : population_of new ≡ population_of old
  pub generation : new.generation ≡ old.generation

-- the engine shows what the rule made of f in as many generations as it has run
abbrev pub IsEvolutionOf : (Place → ℕ) → EngineValue → Type 0
IsEvolutionOf f e = AreSameStates (states_of e) (at e.rule f e.generation)
