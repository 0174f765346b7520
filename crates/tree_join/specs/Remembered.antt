-- Squares that were gone through.
use Rattle.std.specs.Prelude.{◌≡◌, ℕ, ◌==◌, ◌&&◌, Bool, true, Some, eqb}
use Rattle.std.specs.HashMap.{HashMap, get}
use Rattle.std.specs.HashSet.{HashSet, contains}
use Rattle.square_store.specs.Squares.{Held}
use Rattle.stamped_tree.specs.Copy.{IsCopy}
use Rattle.stamped_tree.specs.declared.leaf_kind.PlaneLeaf.{PlaneLeaf}
use Rattle.tree_join.specs.Squares.{AreSameSquares, IsSquareJoin}
use Rattle.tree_join.specs.declared.remember.PartPair.{PartPair}

-- when two pairs of parts are one
abbrev pub is_part_pair : PartPair → PartPair → Bool
is_part_pair x y = (x.above == y.above) && ((x.here == y.here) && (x.there == y.there))

-- each join that is kept is one
pub record RemembersJoins {S : Type 0} (here there : Held PlaneLeaf) (joins : HashMap PartPair ℕ S) : Type 0 where
  pub each : (pair : PartPair) (p : ℕ) → get is_part_pair joins pair ≡ Some p → IsSquareJoin here there pair.above pair.here pair.there p

-- each copy that is kept is one
pub record RemembersCopies {S : Type 0} (here there : Held PlaneLeaf) (copies : HashMap ℕ ℕ S) : Type 0 where
  pub each : (a p : ℕ) → get eqb copies a ≡ Some p → IsCopy there here a p

-- each pair that is kept is of squares with the same writes
pub record RemembersSame {S : Type 0} (here there : Held PlaneLeaf) (kept : HashSet PartPair S) : Type 0 where
  pub each : (pair : PartPair) → contains is_part_pair kept pair ≡ true → AreSameSquares here there pair.above pair.here pair.there
