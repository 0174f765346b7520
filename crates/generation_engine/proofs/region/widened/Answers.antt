use Rattle.generation_engine.proofs.Extents.{widened_at}
use Rattle.generation_engine.proofs.region.widened.Goals as goal

pub returns : goal.returns
returns c = rw (c.in-Some.is, c.min.ensures, c.max.ensures, c.min-2.ensures, c.max-2.ensures, c.from-column.ensures, c.from-row.ensures) (widened_at c.args.column c.args.row c.in-Some.found)
