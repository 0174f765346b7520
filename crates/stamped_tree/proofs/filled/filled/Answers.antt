use Rattle.std.proofs.Common.{◌∙◌, sym}
use Rattle.stamped_tree.proofs.Overwriting.{some_right}
use Rattle.stamped_tree.proofs.filled.filled.Goals as goal

pub returns : goal.returns
returns c = some_right c.copied.result _ (λ p e. c.requires.each c.args.key.now p (sym (c.copied.ensures ∙ c.get.ensures.value) ∙ e))
