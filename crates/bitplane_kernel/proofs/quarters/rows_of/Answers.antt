use Rattle.bitplane_kernel.proofs.QuarterLemmas.{has_rows}
use Rattle.bitplane_kernel.proofs.quarters.rows_of.Goals as goal

pub returns : goal.returns
returns c =
    has_rows c.args.north c.args.south c.bytes_of.result c.widened.result
    c.bytes_of.ensures.north c.bytes_of.ensures.south c.widened.ensures.value c.widened.ensures.below
