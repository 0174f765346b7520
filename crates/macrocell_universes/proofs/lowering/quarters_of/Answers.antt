use Rattle.std.proofs.Common.{arith}
use Rattle.macrocell_universes.proofs.LoweredRows.{pair_quarters}
use Rattle.macrocell_universes.proofs.lowering.quarters_of.Goals as goal

pub unreachable-requires : goal.unreachable-requires
unreachable-requires c = (let e = c.in-Rows.ensures.0 in omega (arith, e, c.requires.level))
