-- Squares of a plane, brought into the store of an engine.
use Rattle.std.specs.Prelude.{◌≡◌, ℕ, ◌+◌, ◌-◌, cond, length, Some, eqb, ◌&&◌, nat_le, nat_lt, if◌then◌else◌}
use Rattle.square_store.specs.Grid.{Grid, blank_grid}
use Rattle.square_store.specs.Squares.{Held, side_at, IsAt, grid_at, Draws}
use Rattle.square_store.specs.Store.{IsStore}
use Rattle.stamped_tree.specs.Copy.{Copies, copy_of}
use Rattle.stamped_tree.specs.declared.leaf_kind.PlaneLeaf.{PlaneLeaf}
use Rattle.stamped_tree.specs.LeafKind.{plane_grid}
use Rattle.stamped_tree.specs.Plane.{StampedPlane}
use Rattle.generation_engine.specs.declared.leaf_kind.EngineLeaf.{EngineLeaf}
use Rattle.generation_engine.specs.EngineLeaf.{leaf_grid, states_on, IsEngineLeaf}

-- the states of the square of level k at a part of a plane's store, without their stamps
abbrev pub states_of_square : Held PlaneLeaf → ℕ → ℕ → Grid
states_of_square s k a = states_on (grid_at plane_grid 8 s k a)

-- the square at b in the one store has the states of that at a in the other, for every level
pub record IsBrought (source : Held PlaneLeaf) (target : Held EngineLeaf) (a b : ℕ) : Type 0 where
  pub draws : (k : ℕ) → IsAt source k a → Draws leaf_grid 8 target k (states_on (grid_at plane_grid 8 source k a)) b

-- each part that was noted was brought to the part that is noted beside it
pub record AreBrought (source : Held PlaneLeaf) (target : Held EngineLeaf) (copies : Copies) : Type 0 where
  pub each : (a b : ℕ) → copy_of copies a ≡ Some b → IsBrought source target a b

-- a part was noted
pub record IsBroughtNoted (old new : Copies) (a b : ℕ) : Type 0 where
  pub found : (q : ℕ) → copy_of new q ≡ cond (eqb a q) (Some b) (copy_of old q)

-- the store holds as many squares as it has room for
abbrev pub IsStoreFull : Held EngineLeaf → Type 0
IsStoreFull s = length s.squares ≡ s.room

-- ---- squares and what they are cut into

-- a square of side 2 n in the middle of one of side 4 n, all dead round it
abbrev pub centred : ℕ → Grid → Grid
centred n f u v =
    if (nat_le n u && nat_lt u (n + n + n)) && (nat_le n v && nat_lt v (n + n + n)) then f (u - n) (v - n) else blank_grid 0 u v

-- a plane's states in the middle of a universe, by the universe's columns and rows
abbrev pub plane_in_universe : StampedPlane → Grid
plane_in_universe p = centred (side_at 8 28) (centred (side_at 8 27) (states_on (grid_at plane_grid 8 p.store 28 p.root)))

-- ---- room

-- a store draws the square of a plane's states, the dead square of twice its side with that in its middle, and the universe
pub record DrawsUniverse (s : Held EngineLeaf) (p : StampedPlane) : Type 0 where
  pub plane : (a : ℕ) × Draws leaf_grid 8 s 28 (states_of_square p.store 28 p.root) a
  pub wider : (a : ℕ) × Draws leaf_grid 8 s 29 (centred (side_at 8 27) (states_of_square p.store 28 p.root)) a
  pub whole : (a : ℕ) × Draws leaf_grid 8 s 30 (plane_in_universe p) a

-- no store with room for so many squares draws the universe of a plane's states, with the two squares that stand on its way
abbrev pub IsTooSmallFor : ℕ → StampedPlane → Type 0
IsTooSmallFor room p = (s : Held EngineLeaf) → IsStore leaf_grid 8 IsEngineLeaf s → s.room ≡ room → DrawsUniverse s p → ⊥
