use Rattle.std.proofs.Common.{◌<◌, arith}
use Rattle.generation_engine.proofs.Spots.{in_middle_more}
use Rattle.generation_engine.proofs.gathered.GatheredCells.push.Goals as goal

pub invariant_of-self-2 : goal.invariant_of-self-2
invariant_of-self-2 c =
    let column : c.args.cell.column < 4294967296 = omega arith in
    let row : c.args.cell.row < 4294967296 = omega arith in
    rw (c.in_ok-push.ensures.items, c.placed_cell.ensures) (in_middle_more c.self.inside.cells.items c.args.cell column row c.self.invariant)
