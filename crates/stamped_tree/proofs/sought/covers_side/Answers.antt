use Rattle.std.proofs.Common.{arith}
use Rattle.std.proofs.lemmas.Int.{ints}
use Rattle.stamped_tree.proofs.sought.covers_side.Goals as goal

pub returns-then-from-coordinate_of : goal.returns-then-from-coordinate_of
returns-then-from-coordinate_of c = grind (arith, ints)
