-- Copies of squares from one store into another.
use Rattle.std.specs.Prelude.{◌≡◌, ◌⊎◌, ℕ, ◌+◌, ◌<◌, ◌≤◌, cond, slice_index_or, List, length, Option, Some, is_some, if◌then◌else◌, eqb}
use Rattle.std.specs.List.{IsDistinct}
use Rattle.std.specs.Map.{keys_of, lookup}
use Rattle.square_store.specs.Squares.{Held, IsAt, grid_at, Draws}
use Rattle.square_store.specs.Store.{IsHeld}
use Rattle.stamped_tree.specs.declared.leaf_kind.PlaneLeaf.{PlaneLeaf}
use Rattle.stamped_tree.specs.LeafKind.{plane_grid}

-- each part that was copied, and its copy
abbrev pub Copies : Type 0
Copies = List (ℕ × ℕ)

abbrev pub copy_of : Copies → ℕ → Option ℕ
copy_of copies a = lookup (eqb a) copies

-- the square at b in the one store is that at a in the other, for every level
pub record IsCopy (source target : Held PlaneLeaf) (a b : ℕ) : Type 0 where
  pub held : IsHeld source a
  pub draws : (k : ℕ) → IsAt source k a → Draws plane_grid 8 target k (grid_at plane_grid 8 source k a) b

-- the copies that were made are copies, and one store has no more squares than these
pub record AreCopies (source target : Held PlaneLeaf) (copies : Copies) : Type 0 where
  pub room : target.room ≡ source.room
  pub few : length target.squares ≤ length copies
  pub once : IsDistinct eqb (keys_of copies)
  pub each : (a b : ℕ) → copy_of copies a ≡ Some b → IsCopy source target a b

-- a copy was noted
pub record IsNoted (old new : Copies) (a b : ℕ) : Type 0 where
  pub found : (q : ℕ) → copy_of new q ≡ cond (eqb a q) (Some b) (copy_of old q)
  pub count : length new ≡ length old + (if is_some (copy_of old a) then 0 else 1)
  pub once : IsDistinct eqb (keys_of new)

-- four parts of the one store are copies of four of the other
abbrev pub AreAllCopies : (source target : Held PlaneLeaf) → List ℕ → List ℕ → Type 0
AreAllCopies source target parts copied = (i : ℕ) → i < 4 → IsCopy source target (slice_index_or parts i 0) (slice_index_or copied i 0)

-- ---- what a store holds more than before

-- the square at p, or nothing
abbrev pub AddsAtMost : (old new : Held PlaneLeaf) → ℕ → Type 0
AddsAtMost old new p = (q : ℕ) → IsHeld new q → IsHeld old q ⊎ (q ≡ p)
