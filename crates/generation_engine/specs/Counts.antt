-- How many cells of a square are not dead, and such counts that are noted.
use Rattle.std.specs.Prelude.{◌≡◌, ℕ, Some}
use Rattle.bitplane_kernel.specs.Population.{population}
use Rattle.square_store.specs.Squares.{Held, side_at, IsAt, grid_at}
use Rattle.stamped_tree.specs.Copy.{Copies, copy_of}
use Rattle.generation_engine.specs.declared.leaf_kind.EngineLeaf.{EngineLeaf}
use Rattle.generation_engine.specs.EngineLeaf.{leaf_grid}

-- how many cells of the square of level k at p are not dead
abbrev pub population_at : Held EngineLeaf → ℕ → ℕ → ℕ
population_at s k p = population (side_at 8 k) (λ u v. (grid_at leaf_grid 8 s k p u v).state)

-- each count that is noted of a part is that of its square
pub record AreCounted (s : Held EngineLeaf) (counts : Copies) : Type 0 where
  pub each : (p n : ℕ) → copy_of counts p ≡ Some n → (k : ℕ) → IsAt s k p → n ≡ population_at s k p
