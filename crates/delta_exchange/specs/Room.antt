-- What the reading of a square makes of a store, and when a store has no room for one.
use Rattle.std.specs.Prelude.{◌≡◌, ◌+◌, ◌≤◌, ℕ, zero, suc, pos, length, Result, Err, IfOk, OnOk}
use Rattle.generations_rule.specs.Place.{Place, moved}
use Rattle.stamped_writes.specs.Write.{Writes}
use Rattle.square_store.specs.Seen.{IsBlankAt}
use Rattle.square_store.specs.Grid.{Grid, blank_grid, quartered}
use Rattle.square_store.specs.Squares.{Held, side_at, Draws}
use Rattle.square_store.specs.Store.{IsGrown, IsStore, IsFullFor}
use Rattle.square_store.specs.Pieces.{AddsPiecesOfGrid}
use Rattle.stamped_tree.specs.declared.leaf_kind.PlaneLeaf.{PlaneLeaf}
use Rattle.stamped_tree.specs.LeafKind.{plane_grid, IsPlaneLeaf}
use Rattle.stamped_tree.specs.Plane.{grid_of_leaf}
use Rattle.stamped_tree.specs.Tree.{Tree, Blank, Leaf, Four, plane_corner}
use Rattle.delta_exchange.specs.declared.fault.ReadFault.{ReadFault}
use Rattle.delta_exchange.specs.declared.fault.ReadFault.TheVariants.{StoreFull}
use Rattle.delta_exchange.specs.declared.square_reading.ReadSquare.{ReadSquare}

-- the writes of a tree, so many levels above a leaf, by column and row
unfoldable pub tree_grid : ℕ → Tree → Grid
tree_grid zero (Blank t) = blank_grid t
tree_grid zero (Leaf writes) = grid_of_leaf writes
tree_grid zero (Four nw ne sw se) = blank_grid 0
tree_grid (suc k) (Blank t) = blank_grid t
tree_grid (suc k) (Leaf writes) = blank_grid 0
tree_grid (suc k) (Four nw ne sw se) = quartered (side_at 8 k) (tree_grid k nw) (tree_grid k ne) (tree_grid k sw) (tree_grid k se)

-- A square with the writes of f was read, or refused: the store has grown by squares that it is cut into, and by no other, and where room is wanted it is full and lacks the square.
pub record IsReadInto (result : Result ReadSquare ReadFault) (old new : Held PlaneLeaf) (k : ℕ) (f : Grid) : Type 0 where
  pub grown : IsGrown plane_grid 8 old new
  pub drawn : IfOk result (λ square. Draws plane_grid 8 new k f square.part)
  pub pieces : AddsPiecesOfGrid plane_grid 8 old new k f
  pub full : result ≡ Err StoreFull → IsStore plane_grid 8 IsPlaneLeaf new → IsFullFor plane_grid 8 new k f

-- Room was wanted for what the square of level k with the writes of f is cut into: the store has grown by such squares, and by no other, and is full, and lacks the square.
pub record IsFilledFor (old new : Held PlaneLeaf) (k : ℕ) (f : Grid) : Type 0 where
  pub grown : IsGrown plane_grid 8 old new
  pub pieces : AddsPiecesOfGrid plane_grid 8 old new k f
  pub full : IsStore plane_grid 8 IsPlaneLeaf new → IsFullFor plane_grid 8 new k f

-- What is read adds few squares: where so many bytes were left before and are left now, at most as many as the bytes that were read; and where room is wanted, no more than that had been left.
pub record AddsFew {A : Type 0} (result : Result A ReadFault) (old new : Held PlaneLeaf) (before now : ℕ) : Type 0 where
  pub few : OnOk result (length new.squares + now ≤ length old.squares + before)
  pub full : result ≡ Err StoreFull → old.room ≤ length old.squares + before

-- the square of a map from a corner, by column and row
abbrev pub square_of : Writes → Place → Grid
square_of p corner u v = p (moved corner (pos u) (pos v))

-- no store with room for so many squares that has the blank of stamp 0 has the square of a whole plane with the writes of f
abbrev pub IsTooLargeFor : ℕ → Grid → Type 0
IsTooLargeFor nodes f = (s : Held PlaneLeaf) (a b : ℕ) → IsStore plane_grid 8 IsPlaneLeaf s → s.room ≡ nodes → IsBlankAt plane_grid 8 s 0 a → Draws plane_grid 8 s 28 f b → ⊥

-- no such store has the square of a map
abbrev pub IsMapTooLargeFor : ℕ → Writes → Type 0
IsMapTooLargeFor nodes p = IsTooLargeFor nodes (square_of p plane_corner)
