use Rattle.std.proofs.Common.{arith}
use Rattle.genedit_words.proofs.words.generation.Goals as goal

pub count_if_given-requires : goal.count_if_given-requires
count_if_given-requires c = (536870912, omega arith, c.requires)
