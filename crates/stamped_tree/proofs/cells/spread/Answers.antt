use Rattle.std.proofs.Common.{sym, arith}
use Rattle.stamped_tree.proofs.Morton.{four_bytes}
use Rattle.stamped_tree.proofs.cells.spread.Goals as goal

pub returns-clause-value : goal.returns-clause-value
returns-clause-value c = rw (c.spread_byte.ensures.value, c.spread_byte-2.ensures.value, c.spread_byte-3.ensures.value, c.spread_byte-4.ensures.value) (sym (four_bytes c.args.coordinate))

pub returns-clause-most : goal.returns-clause-most
returns-clause-most c =
    let a = c.spread_byte.ensures.most in
    let b = c.spread_byte-2.ensures.most in
    let d = c.spread_byte-3.ensures.most in
    let e = c.spread_byte-4.ensures.most in
    omega (arith, a, b, d, e)
