use Rattle.std.specs.Prelude.{min, bit_and}
use Rattle.std.proofs.lemmas.Nat.Bits.{bit_at_and}
use Rattle.bitplane_kernel.proofs.BitLemmas.{zipped}
use Rattle.bitplane_kernel.proofs.bits.and.Goals as goal

pub returns : goal.returns
returns c = zipped bit_and min bit_at_and c.args.a c.args.b c.fits-a.0 c.fits-b.0
