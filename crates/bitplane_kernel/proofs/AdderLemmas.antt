-- Sums of bits, as linear arithmetic.
use Rattle.std.proofs.Common.{◌≡◌, ℕ, ◌+◌, ◌*◌, ◌%◌, ◌<◌, List, arith}
use Rattle.std.specs.Prelude.{min, max}
use Rattle.std.proofs.lemmas.Nat.Bits.{bit_at-lt}
use Rattle.std.specs.Prelude.{slice_index}
use Rattle.bitplane_kernel.specs.Planes.{bit, HasBits, IsSum, IsHalfSum}

pub bit_lt : (v : List ℕ) (x y : ℕ) → bit v x y < 2
unfolding bit
bit_lt v x y = bit_at-lt (slice_index v y) x

half : (a b : ℕ) → a < 2 → b < 2 → (a + b) % 2 + 2 * min a b ≡ a + b
half a b h k = omega arith

pub half_sum : (low high a b : List ℕ) → HasBits low (λ x y. (bit a x y + bit b x y) % 2) → HasBits high (λ x y. min (bit a x y) (bit b x y)) → IsHalfSum low high a b
half_sum low high a b l h = record {
  sum = λ x y hx hy.
      let one = l.bits x y hx hy in
      let two = h.bits x y hx hy in
      omega (arith, half (bit a x y) (bit b x y) (bit_lt a x y) (bit_lt b x y));
}

-- of two carries one at most is set
pub full_sum : (low high a b c ab carry carry' : List ℕ) → IsHalfSum ab carry a b → IsHalfSum low carry' ab c → HasBits high (λ x y. max (bit carry x y) (bit carry' x y)) → IsSum low high a b c
full_sum low high a b c ab carry carry' first second both = record {
  sum = λ x y hx hy.
      let one = first.sum x y hx hy in
      let two = second.sum x y hx hy in
      let three = both.bits x y hx hy in
      omega (arith, bit_lt a x y, bit_lt b x y, bit_lt c x y, bit_lt ab x y, bit_lt carry x y, bit_lt carry' x y, bit_lt low x y);
}
