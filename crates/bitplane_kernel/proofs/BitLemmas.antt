-- What an operation on the lanes of a plane does to its bits.
use Rattle.std.proofs.Common.{◌≡◌, ℕ, ◌+◌, ◌-◌, ◌*◌, ◌^◌, ◌/◌, ◌%◌, ◌<◌, List, [], ◌∷◌, ◌++◌, length, get_or, sym, ◌∙◌, ap, arith, map, add-one, zero-add, add-zero, add_comm}
use Rattle.std.specs.Prelude.{replicate}
use Rattle.std.specs.Int.{bit_at, w16}
use Rattle.std.specs.List.{range_with_len}
use Rattle.std.specs.Simd.Lanes.{zip2, pick_l, Each1}
use Rattle.std.proofs.lemmas.Nat.Bits.{bit_at_not, bit_at-zero, bit_at_ones, bit_at_cat_high, bit_at_cat_low, bit_at-suc}
use Rattle.std.proofs.lemmas.Simd.{get_or-zip2, get_or-replicate, Each1-get_or}
use Rattle.std.proofs.lemmas.List.{get_or-map, get_or_append_left}
use Rattle.std.proofs.lemmas.List.FromFn.{get_or-range_with_len}
use mir.Val.{Fits}
use Rattle.bitplane_kernel.specs.Planes.{bit, HasBits}

-- an operation on two planes, by its law on two bits
pub zipped : (f g : ℕ → ℕ → ℕ) → ((a b i : ℕ) → bit_at (f a b) i ≡ g (bit_at a i) (bit_at b i)) → (xs ys : List ℕ) → length xs ≡ 16 → length ys ≡ 16
    → HasBits (zip2 f xs ys) (λ x y. g (bit xs x y) (bit ys x y))
unfolding bit
zipped f g law xs ys wide high = record {
  bits = λ x y h k. ap (λ n. bit_at n x) (get_or-zip2 f xs ys y 0 0 0 (omega arith) (omega arith)) ∙ law (get_or xs y 0) (get_or ys y 0) x;
}

pub inverted : (xs : List ℕ) → length xs ≡ 16 → Each1 (Fits w16) xs → HasBits (map (λ n. 2 ^ 16 - 1 - n) xs) (λ x y. 1 - bit xs x y)
unfolding bit
inverted xs wide fits = record {
  bits = λ x y h k.
      let lane : Fits w16 (get_or xs y 0) = Each1-get_or (Fits w16) xs y 0 (omega arith) fits in
      ap (λ n. bit_at n x) (get_or-map (λ n. 2 ^ 16 - 1 - n) xs y 0 0 (omega arith)) ∙ bit_at_not w16 (get_or xs y 0) x lane.fits h;
}

pub splat_none : HasBits (replicate 16 0) (λ x y. 0)
unfolding bit
splat_none = record { bits = λ x y h k. ap (λ n. bit_at n x) (get_or-replicate 16 y 0 0 k) ∙ bit_at-zero x }

pub splat_all : HasBits (replicate 16 65535) (λ x y. 1)
unfolding bit
splat_all = record { bits = λ x y h k. ap (λ n. bit_at n x) (get_or-replicate 16 y 65535 0 k) ∙ bit_at_ones 16 x h }

-- ---- rows

-- lane y of a vector that was picked from another is the other's lane at that position
pub picked : (xs : List ℕ) (ks : List ℕ) (y k : ℕ) → y < length ks → get_or ks y 0 ≡ k → k < length xs → get_or (pick_l 0 (xs ++ xs) ks) y 0 ≡ get_or xs k 0
picked xs ks y k within is low =
    get_or-map (λ j. get_or (xs ++ xs) j 0) ks y 0 0 within ∙ ap (λ j. get_or (xs ++ xs) j 0) is ∙ get_or_append_left xs xs 0 k low

pub rows_down : (xs : List ℕ) (x y : ℕ) → length xs ≡ 16 → y < 15 → bit (pick_l 0 (xs ++ xs) (15 ∷ range_with_len 0 15)) x (y + 1) ≡ bit xs x y
unfolding bit
rows_down xs x y wide h =
    ap (λ n. bit_at n x) (picked xs (15 ∷ range_with_len 0 15) (y + 1) y (omega arith)
    (ap (λ j. get_or (15 ∷ range_with_len 0 15) j 0) (add-one y) ∙ get_or-range_with_len 0 15 y 0 h ∙ zero-add y) (omega arith))

pub rows_up : (xs : List ℕ) (x y : ℕ) → length xs ≡ 16 → y < 15 → bit (pick_l 0 (xs ++ xs) (range_with_len 1 15 ++ 0 ∷ [])) x y ≡ bit xs x (y + 1)
unfolding bit
rows_up xs x y wide h =
    ap (λ n. bit_at n x) (picked xs (range_with_len 1 15 ++ 0 ∷ []) y (y + 1) (omega arith)
    (get_or_append_left (range_with_len 1 15) (0 ∷ []) 0 y h ∙ get_or-range_with_len 1 15 y 0 h ∙ add_comm 1 y) (omega arith))

-- ---- columns

-- the bits of a number that is shifted up by one within 16 bits
shifted_up : (a x : ℕ) → x < 15 → bit_at (a * 2 ^ 1 % 2 ^ 16) (x + 1) ≡ bit_at a x
shifted_up a x h =
    let whole : a * 2 ^ 1 / 2 ^ 16 * 2 ^ 16 + a * 2 ^ 1 % 2 ^ 16 ≡ a * 2 ^ 1 = omega arith in
    sym (ap (λ n. bit_at n (x + 1)) (sym whole) ∙ bit_at_cat_low (a * 2 ^ 1 / 2 ^ 16) 16 (a * 2 ^ 1 % 2 ^ 16) (x + 1) (omega arith))
    ∙ ap (λ n. bit_at n (x + 1)) (sym (add-zero (a * 2 ^ 1)))
    ∙ bit_at_cat_high a 1 0 (x + 1) (omega arith) (omega arith)
    ∙ ap (bit_at a) (let back : x + 1 - 1 ≡ x = omega arith in back)

shifted_down : (a x : ℕ) → bit_at (a / 2 ^ 1) x ≡ bit_at a (x + 1)
shifted_down a x = rw add-one (sym (bit_at-suc a x))

pub columns_right : (xs : List ℕ) (x y : ℕ) → length xs ≡ 16 → x < 15 → y < 16 → bit (zip2 (λ a b. a * 2 ^ b % 2 ^ 16) xs (replicate 16 1)) (x + 1) y ≡ bit xs x y
unfolding bit
columns_right xs x y wide h k =
    ap (λ n. bit_at n (x + 1)) (get_or-zip2 (λ a b. a * 2 ^ b % 2 ^ 16) xs (replicate 16 1) y 0 0 0 (omega arith) k
    ∙ ap (λ b. get_or xs y 0 * 2 ^ b % 2 ^ 16) (get_or-replicate 16 y 1 0 k))
    ∙ shifted_up (get_or xs y 0) x h

pub columns_left : (xs : List ℕ) (x y : ℕ) → length xs ≡ 16 → y < 16 → bit (zip2 (λ a b. a / 2 ^ b) xs (replicate 16 1)) x y ≡ bit xs (x + 1) y
unfolding bit
columns_left xs x y wide k =
    ap (λ n. bit_at n x) (get_or-zip2 (λ a b. a / 2 ^ b) xs (replicate 16 1) y 0 0 0 (omega arith) k
    ∙ ap (λ b. get_or xs y 0 / 2 ^ b) (get_or-replicate 16 y 1 0 k))
    ∙ shifted_down (get_or xs y 0) x
