use Rattle.bitplane_kernel.proofs.QuarterLemmas.{middle_bits}
use Rattle.bitplane_kernel.proofs.quarters.middle.Goals as goal

pub returns : goal.returns
returns c =
    middle_bits c.args.plane c.middle_rows.result c.middle_columns.result c.narrowed.result c.number_of.result
    c.middle_rows.ensures c.middle_columns.ensures c.narrowed.ensures c.number_of.ensures
