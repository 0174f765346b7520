use Rattle.std.specs.Prelude.{max, bit_or}
use Rattle.std.proofs.lemmas.Nat.Bits.{bit_at_or}
use Rattle.bitplane_kernel.proofs.BitLemmas.{zipped}
use Rattle.bitplane_kernel.proofs.bits.or.Goals as goal

pub returns : goal.returns
returns c = zipped bit_or max bit_at_or c.args.a c.args.b c.fits-a.0 c.fits-b.0
