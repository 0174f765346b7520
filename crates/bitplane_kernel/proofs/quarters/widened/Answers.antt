use Rattle.std.proofs.Common.{◌<◌, length, arith}
use Rattle.std.proofs.lemmas.Simd.{Each1-get_or}
use Rattle.std.specs.Int.{w8}
use mir.Val.{Fits}
use Rattle.bitplane_kernel.proofs.QuarterLemmas.{same_row}
use Rattle.bitplane_kernel.proofs.quarters.widened.Goals as goal

pub returns-clause-value : goal.returns-clause-value
returns-clause-value c = λ y h. same_row c.args.bytes y (omega (arith, c.fits-bytes.0))

pub returns-clause-below : goal.returns-clause-below
returns-clause-below c = λ y h.
    let within : y < length c.args.bytes = omega (arith, c.fits-bytes.0) in
    rw (same_row c.args.bytes y within) (Each1-get_or (Fits w8) c.args.bytes y 0 within c.fits-bytes.1).fits
