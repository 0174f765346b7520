use Rattle.std.proofs.Common.{◌∙◌, sym}
use Rattle.tree_join.proofs.Keeping.{some_right}
use Rattle.tree_join.proofs.remember.join_made.Goals as goal

pub returns : goal.returns
returns c = some_right c.copied.result _ (λ p e. c.requires.each c.args.pair.now p (sym (c.copied.ensures ∙ c.get.ensures.value) ∙ e))
