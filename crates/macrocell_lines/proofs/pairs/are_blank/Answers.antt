use Rattle.square_store.proofs.Places.{at_within}
use Rattle.macrocell_lines.proofs.PairSquares.{pair_dead}
use Rattle.macrocell_lines.proofs.pairs.are_blank.Goals as goal

pub returns-in-Blank-Blank : goal.returns-in-Blank-Blank
returns-in-Blank-Blank c = λ _. pair_dead c.args.store.now c.args.pair c.in-Blank-Blank.field-0-0 c.in-Blank-Blank.field-0-1 c.in-Blank-Blank.ensures c.in-Blank-Blank.ensures'

pub square-requires : goal.square-requires
square-requires c = at_within c.args.store.now c.args.pair.level c.args.pair.upper c.requires.upper

pub square-requires-2 : goal.square-requires-2
square-requires-2 c = at_within c.args.store.now c.args.pair.level c.args.pair.lower c.requires.lower
