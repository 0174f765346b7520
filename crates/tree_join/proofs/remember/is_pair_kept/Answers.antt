use Rattle.std.proofs.Common.{◌∙◌, sym}
use Rattle.tree_join.proofs.remember.is_pair_kept.Goals as goal

pub returns : goal.returns
returns c = λ h. c.requires.each c.args.pair.now (sym c.contains.ensures ∙ h)
