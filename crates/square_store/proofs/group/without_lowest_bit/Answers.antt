use Rattle.std.proofs.Common.{◌-◌, arith}
use Rattle.std.proofs.lemmas.Nat.{and_le_r}
use Rattle.indexmap.proofs.IndexTableLemmas.Bits.{bits_from_and, bit_remove_lowest}
use Rattle.square_store.proofs.group.without_lowest_bit.Goals as goal

pub returns : goal.returns
returns c =
    let b = c.args.bits in
    record {
      less = omega (arith, and_le_r b (b - 1), c.requires);
      only = λ k h. (bits_from_and b (b - 1) k h).0;
      others = λ k. bit_remove_lowest 32 b k c.requires c.ranges.bits.fits;
    }
