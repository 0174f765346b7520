-- What an operation on the lanes of a plane does to its bits.
use Rattle.std.proofs.Common.{◌≡◌, ℕ, ◌+◌, ◌-◌, ◌*◌, ◌^◌, ◌/◌, ◌%◌, ◌<◌, List, length, get_or, sym, ◌∙◌, ap, arith, map, add-one, add-zero}
use Rattle.std.specs.Prelude.{replicate}
use Rattle.std.specs.Int.{bit_at, w64}
use Rattle.std.specs.Simd.Lanes.{zip2, Each1}
use Rattle.std.proofs.lemmas.Nat.Bits.{bit_at_not, bit_at-zero, bit_at_ones, bit_at_cat_high, bit_at_cat_low, bit_at-suc}
use Rattle.std.proofs.lemmas.Simd.{get_or-zip2, get_or-replicate, Each1-get_or}
use Rattle.std.proofs.lemmas.List.{get_or-map}
use mir.Val.{Fits}
use Rattle.bitplane_kernel.proofs.ReadLemmas.{bit_is}
use Rattle.tile_steps.specs.Rows.{bit, HasBits}

-- an operation on two planes, by its law on two bits
pub zipped : (f g : ℕ → ℕ → ℕ) → ((a b i : ℕ) → bit_at (f a b) i ≡ g (bit_at a i) (bit_at b i)) → (xs ys : List ℕ) → length xs ≡ 4 → length ys ≡ 4
    → HasBits (zip2 f xs ys) (λ x y. g (bit xs x y) (bit ys x y))
zipped f g law xs ys wide high = record {
  bits = λ x y h k.
      bit_is (zip2 f xs ys) x y ∙ ap (λ n. bit_at n x) (get_or-zip2 f xs ys y 0 0 0 (omega arith) (omega arith)) ∙ law (get_or xs y 0) (get_or ys y 0) x
      ∙ sym (λ i. g (bit_is xs x y i) (bit_is ys x y i));
}

pub inverted : (xs : List ℕ) → length xs ≡ 4 → Each1 (Fits w64) xs → HasBits (map (λ n. 2 ^ 64 - 1 - n) xs) (λ x y. 1 - bit xs x y)
inverted xs wide fits = record {
  bits = λ x y h k.
      let lane : Fits w64 (get_or xs y 0) = Each1-get_or (Fits w64) xs y 0 (omega arith) fits in
      bit_is (map (λ n. 2 ^ 64 - 1 - n) xs) x y ∙ ap (λ n. bit_at n x) (get_or-map (λ n. 2 ^ 64 - 1 - n) xs y 0 0 (omega arith)) ∙ bit_at_not w64 (get_or xs y 0) x lane.fits h
      ∙ ap (λ b. 1 - b) (sym (bit_is xs x y));
}

pub splat_none : HasBits (replicate 4 0) (λ x y. 0)
splat_none = record { bits = λ x y h k. bit_is (replicate 4 0) x y ∙ ap (λ n. bit_at n x) (get_or-replicate 4 y 0 0 k) ∙ bit_at-zero x }

pub splat_all : HasBits (replicate 4 18446744073709551615) (λ x y. 1)
splat_all = record { bits = λ x y h k. bit_is (replicate 4 18446744073709551615) x y ∙ ap (λ n. bit_at n x) (get_or-replicate 4 y 18446744073709551615 0 k) ∙ bit_at_ones 64 x h }

-- ---- columns

-- the bits of a number that is shifted up by one within 64 bits
shifted_up : (a x : ℕ) → x < 63 → bit_at (a * 2 ^ 1 % 2 ^ 64) (x + 1) ≡ bit_at a x
shifted_up a x h =
    let whole : a * 2 ^ 1 / 2 ^ 64 * 2 ^ 64 + a * 2 ^ 1 % 2 ^ 64 ≡ a * 2 ^ 1 = omega arith in
    sym (ap (λ n. bit_at n (x + 1)) (sym whole) ∙ bit_at_cat_low (a * 2 ^ 1 / 2 ^ 64) 64 (a * 2 ^ 1 % 2 ^ 64) (x + 1) (omega arith))
    ∙ ap (λ n. bit_at n (x + 1)) (sym (add-zero (a * 2 ^ 1)))
    ∙ bit_at_cat_high a 1 0 (x + 1) (omega arith) (omega arith)
    ∙ ap (bit_at a) (let back : x + 1 - 1 ≡ x = omega arith in back)

shifted_down : (a x : ℕ) → bit_at (a / 2 ^ 1) x ≡ bit_at a (x + 1)
shifted_down a x = rw add-one (sym (bit_at-suc a x))

pub columns_right : (xs : List ℕ) (x y : ℕ) → length xs ≡ 4 → x < 63 → y < 4 → bit (zip2 (λ a b. a * 2 ^ b % 2 ^ 64) xs (replicate 4 1)) (x + 1) y ≡ bit xs x y
columns_right xs x y wide h k =
    bit_is (zip2 (λ a b. a * 2 ^ b % 2 ^ 64) xs (replicate 4 1)) (x + 1) y
    ∙ ap (λ n. bit_at n (x + 1)) (get_or-zip2 (λ a b. a * 2 ^ b % 2 ^ 64) xs (replicate 4 1) y 0 0 0 (omega arith) k
    ∙ ap (λ b. get_or xs y 0 * 2 ^ b % 2 ^ 64) (get_or-replicate 4 y 1 0 k))
    ∙ shifted_up (get_or xs y 0) x h ∙ sym (bit_is xs x y)

pub columns_left : (xs : List ℕ) (x y : ℕ) → length xs ≡ 4 → y < 4 → bit (zip2 (λ a b. a / 2 ^ b) xs (replicate 4 1)) x y ≡ bit xs (x + 1) y
columns_left xs x y wide k =
    bit_is (zip2 (λ a b. a / 2 ^ b) xs (replicate 4 1)) x y
    ∙ ap (λ n. bit_at n x) (get_or-zip2 (λ a b. a / 2 ^ b) xs (replicate 4 1) y 0 0 0 (omega arith) k
    ∙ ap (λ b. get_or xs y 0 / 2 ^ b) (get_or-replicate 4 y 1 0 k))
    ∙ shifted_down (get_or xs y 0) x ∙ sym (bit_is xs (x + 1) y)
