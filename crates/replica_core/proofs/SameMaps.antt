-- Two maps that read the same have one tree and one state text.
use Rattle.std.proofs.Common.{ℕ, zero, suc, ◌<◌, List, sym, ◌∙◌, subst}
use Rattle.std.specs.Prelude.{IsTrue}
use Rattle.generations_rule.specs.Place.{Place}
use Rattle.generations_rule.specs.Rule.{GenerationsRule}
use Rattle.edit_stamps.specs.PlaneMap.{is_plane_write}
use Rattle.stamped_writes.specs.Write.{Writes, AreSame}
use Rattle.stamped_tree.specs.Tree.{Tree, Blank, Leaf, Four, IsMixed, IsTreeOf, east, plane_corner, side, south, south_east}
use Rattle.delta_exchange.specs.State.{IsTellableMap}
use Rattle.delta_exchange.specs.StateText.{IsStateText}

same_mixed : (p q : Writes) (corner : Place) (n : ℕ) → AreSame p q → IsMixed p corner n → IsMixed q corner n
same_mixed p q corner n same mixed t blank = mixed t (λ c inside. same c ∙ blank c inside)

same_tree : (p q : Writes) (above : ℕ) (corner : Place) (tree : Tree) → AreSame p q → IsTreeOf p above corner tree → IsTreeOf q above corner tree
same_tree p q above corner (Blank t) same is = λ c inside. sym (same c) ∙ is c inside
same_tree p q zero corner (Leaf writes) same is = (
  same_mixed p q corner (side 0) same is.0,
  record { count = is.1.count; each = λ column row inside within d. is.1.each column row inside within d ∙ same _ },
)
same_tree p q (suc above) corner (Four nw ne sw se) same is = (
  same_mixed p q corner (side (suc above)) same is.0,
  same_tree p q above corner nw same is.1,
  same_tree p q above (east (side above) corner) ne same is.2,
  same_tree p q above (south (side above) corner) sw same is.3,
  same_tree p q above (south_east (side above) corner) se same is.4,
)
same_tree p q zero corner (Four nw ne sw se) same is = absurd is
same_tree p q (suc above) corner (Leaf writes) same is = absurd is

pub same_text : (rule : GenerationsRule) (p q : Writes) (text : List ℕ) → AreSame p q → IsStateText rule p text → IsStateText rule q text
same_text rule p q text same is = record { tree = is.tree; of_map = same_tree p q 28 plane_corner is.tree same is.of_map; few = is.few; spelt = is.spelt }

pub same_tellable : (states : ℕ) (p q : Writes) → AreSame p q → IsTellableMap states p → IsTellableMap states q
same_tellable states p q same is = record {
  below = λ c. subst (λ w. w.state < states) (same c) (is.below c);
  stamped = λ c. subst (λ w. IsTrue (is_plane_write w)) (same c) (is.stamped c);
  inside = λ c out. sym (same c) ∙ is.inside c out;
}
