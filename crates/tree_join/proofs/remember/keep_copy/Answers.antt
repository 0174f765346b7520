use Rattle.std.proofs.Common.{eqb, eqb-true}
use Rattle.stamped_tree.specs.Copy.{IsCopy}
use Rattle.tree_join.proofs.Keeping.{kept_more}
use Rattle.tree_join.proofs.remember.keep_copy.Goals as goal

pub returns-in-Ok-clause-copies : goal.returns-in-Ok-clause-copies
returns-in-Ok-clause-copies c = record {
  each = λ q p e. kept_more eqb eqb-true (λ k w. IsCopy c.args.other.now.store c.args.plane.now.store k w) c.args.there q c.args.copy p _ _ (c.in-Ok.ensures.updates.0 q) e c.requires.copied (c.requires.copies.each q p);
}
