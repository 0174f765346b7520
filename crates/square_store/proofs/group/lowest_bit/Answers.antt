use Rattle.std.proofs.Common.{refl}
use Rattle.indexmap.proofs.IndexTableLemmas.Bits.{bit_trailing_zeros}
use Rattle.square_store.proofs.group.lowest_bit.Goals as goal

pub returns : goal.returns
returns c = record { value = refl; set = bit_trailing_zeros 32 c.args.bits c.requires c.ranges.bits.fits }
