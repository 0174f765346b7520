use Rattle.std.proofs.Common.{sym}
use Rattle.stamped_tree.proofs.Morton.{apart}
use Rattle.stamped_tree.proofs.cells.morton_code.Goals as goal

pub returns : goal.returns
returns c = rw (c.spread.ensures.value, c.spread-2.ensures.value) (sym (apart 31 c.args.column c.args.row))
