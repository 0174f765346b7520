use Rattle.std.proofs.Common.{arith}
use Rattle.generation_engine.specs.Universe.{states_in_writes}
use Rattle.stamped_tree.specs.Plane.{map_of}
use Rattle.export.proofs.ExportLaws.{cells_below}
use Rattle.export.proofs.exporting.limit_cells.Goals as goal

pub returns-then-len-limit-clause-cells : goal.returns-then-len-limit-clause-cells
returns-then-len-limit-clause-cells c = record {
  few = omega (arith, c.if-len-limit.true, c.len.ensures, c.requires.counted.count);
  are_cells = c.requires.counted.are_cells;
  below = cells_below c.args.rule.now (states_in_writes (map_of c.args.plane.now)) c.args.listed.now.generation c.args.listed.now.cells.items c.states-states.ensures.rule c.requires.states c.requires.counted.are_cells;
}
