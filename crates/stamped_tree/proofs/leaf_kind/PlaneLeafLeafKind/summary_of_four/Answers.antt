use Rattle.stamped_tree.proofs.Bounds.{bounds_four}
use Rattle.stamped_tree.proofs.leaf_kind.PlaneLeafLeafKind.summary_of_four.Goals as goal

pub returns : goal.returns
returns c = λ n a b d e some hw hx hy hz. rw (c.least_of.ensures, c.greatest_of.ensures) (bounds_four n a b d e _ _ _ _ hw hx hy hz)
