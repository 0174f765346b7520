use Rattle.std.proofs.Common.{◌+◌, ◌%◌}
use Rattle.std.specs.Prelude.{bit_xor}
use Rattle.std.proofs.lemmas.Nat.Bits.{bit_at_xor}
use Rattle.bitplane_kernel.proofs.BitLemmas.{zipped}
use Rattle.bitplane_kernel.proofs.bits.xor.Goals as goal

pub returns : goal.returns
returns c = zipped bit_xor (λ a b. (a + b) % 2) bit_at_xor c.args.a c.args.b c.fits-a.0 c.fits-b.0
