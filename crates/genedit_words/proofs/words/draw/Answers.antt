use Rattle.std.proofs.Common.{codes, arith}
use Rattle.clap.specs.Matches.{found_of}
use Rattle.clap.specs.Walk.{rows_of}
use Rattle.genedit_words.proofs.NumberLaws.{is_wider}
use Rattle.genedit_words.proofs.words.draw.Goals as goal

pub number-requires : goal.number-requires
number-requires c = is_wider 65 65535 (codes "replica") (rows_of (found_of c.args.words.now)) (omega arith) c.requires.replica

pub returns-clause-range : goal.returns-clause-range
returns-clause-range c = c.number.ensures.within 65 65535 (omega arith) c.requires.replica
