-- Leaves of a plane, by columns and rows.
use Rattle.std.specs.Prelude.{◌≡◌, ℕ, ◌+◌, ◌*◌, ◌/◌, ◌%◌, ◌<◌, ◌≤◌, true, List, length}
use Rattle.std.proofs.Common.{arith, ap, ◌∙◌, sym, get_or}
use Rattle.std.proofs.lemmas.List.{ext_get_or}
use Rattle.stamped_writes.specs.declared.write.Write.{Write}
use Rattle.stamped_writes.specs.Write.{unwritten}
use Rattle.leaf_merge_lanes.specs.Leaf.{write_on_leaf}
use Rattle.leaf_merge_lanes.specs.Same.{is_same, same_Decides}
use Rattle.square_store.specs.Grid.{Grid, AreSameWithin}
use Rattle.stamped_tree.specs.declared.leaf_kind.PlaneLeaf.{PlaneLeaf}
use Rattle.stamped_tree.specs.declared.leaf_kind.StampBounds.{StampBounds}

-- the write in a column and a row: row by row
abbrev pub plane_grid : PlaneLeaf → Grid
plane_grid l u v = write_on_leaf l.leaf (8 * v + u)

-- a leaf has 64 writes
abbrev pub IsPlaneLeaf : PlaneLeaf → Type 0
IsPlaneLeaf l = length l.leaf ≡ 64

-- bounds of the stamps in n columns and rows, which some of them reach
pub record AreStampBounds (n : ℕ) (f : Grid) (b : StampBounds) : Type 0 where
  pub above : (u v : ℕ) → u < n → v < n → b.least ≤ (f u v).stamp
  pub below : (u v : ℕ) → u < n → v < n → (f u v).stamp ≤ b.greatest
  pub least : (u : ℕ) × ((v : ℕ) × (u < n) × (v < n) × (b.least ≡ (f u v).stamp))
  pub greatest : (u : ℕ) × ((v : ℕ) × (u < n) × (v < n) × (b.greatest ≡ (f u v).stamp))

leaf_of : List Write → PlaneLeaf
leaf_of writes = record { leaf = writes }

-- the test of leaves is exact
pub plane_same : (a b : PlaneLeaf) → is_same a.leaf b.leaf ≡ true → a ≡ b
unfolding leaf_of
plane_same a b h = ap leaf_of ((same_Decides a.leaf b.leaf).0 h)

at_index : (writes : List Write) (i : ℕ) → write_on_leaf writes (8 * (i / 8) + i % 8) ≡ get_or writes i unwritten
at_index writes i = let e : 8 * (i / 8) + i % 8 ≡ i = omega arith in ap (λ k. get_or writes k unwritten) e

-- the writes tell a leaf
pub plane_exact : (a b : PlaneLeaf) → IsPlaneLeaf a → IsPlaneLeaf b → AreSameWithin 8 (plane_grid a) (plane_grid b) → a ≡ b
unfolding leaf_of
plane_exact a b la lb same = ap leaf_of (ext_get_or unwritten a.leaf b.leaf (la ∙ sym lb) (λ i h.
    let u : i % 8 < 8 = omega arith in
    let v : i / 8 < 8 = omega (arith, la, h) in
    sym (at_index a.leaf i) ∙ same (i % 8) (i / 8) u v ∙ at_index b.leaf i))
