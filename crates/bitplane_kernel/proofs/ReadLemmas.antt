-- A state, read digit by digit from the lowest on.
use Rattle.std.proofs.Common.{◌≡◌, ℕ, ◌+◌, ◌*◌, ◌^◌, ◌%◌, ◌/◌, ◌<◌, ◌≤◌, List, arith, refl, sym, ◌∙◌, ap, lit<, get_or, Fits, w8, add-one}
use Rattle.std.specs.Prelude.{bit_and}
use Rattle.std.specs.Int.{bit_at}
use Rattle.std.proofs.Math.Nat.{pow-suc, pow-le-pow_right, mod-eq_of_lt}
use Rattle.std.proofs.lemmas.Nat.Bits.{shr_and_one, bit_at-lt}
use Rattle.bitplane_kernel.specs.Planes.{bit, number}
use Rattle.bitplane_kernel.specs.Digits.{number_lt, number_more}

room : (p : ℕ) → p < 8 → 2 ^ p + 2 ^ p ≤ 256
room p h =
    let most : 2 ^ (p + 1) ≤ 2 ^ 8 = pow-le-pow_right (lit< tt) (let e : p + 1 ≤ 8 = omega arith in e) in
    let twice : 2 ^ (p + 1) ≡ 2 ^ p * 2 = ap (λ k. 2 ^ k) (add-one p) ∙ pow-suc 2 p in
    omega arith

pub worth : (p : ℕ) → p < 8 → 1 * 2 ^ p % 256 ≡ 2 ^ p
worth p h =
    let most = room p h in
    let some : 0 < 2 ^ p = number_lt_some p in
    ap (λ k. k % 256) (let e : 1 * 2 ^ p ≡ 2 ^ p = omega arith in e) ∙ mod-eq_of_lt (let e : 2 ^ p < 256 = omega arith in e)
  where
    number_lt_some : (n : ℕ) → 0 < 2 ^ n
    number_lt_some n = omega (arith, number_lt n (λ _. 0) (λ p' h'. lit< tt))

pub digit_fits : (p s : ℕ) (f : ℕ → ℕ) → p < 8 → s ≡ number p f → ((q : ℕ) → q < p → f q < 2) → Fits w8 (s + 1 * 2 ^ p % 256)
digit_fits p s f h is digits =
    let most = room p h in
    let low = number_lt p f digits in
    record { fits = rw (worth p h) (omega arith) }

pub digit_set : (p s : ℕ) (f : ℕ → ℕ) → p < 8 → s ≡ number p f → f p ≡ 1 → s + 1 * 2 ^ p % 256 ≡ number (p + 1) f
digit_set p s f h is set = rw (worth p h, number_more p f, set, is) (let e : number p f + 2 ^ p ≡ number p f + 2 ^ p * 1 = omega arith in e)

pub digit_clear : (p s : ℕ) (f : ℕ → ℕ) → s ≡ number p f → f p ≡ 0 → s ≡ number (p + 1) f
digit_clear p s f is clear = rw (number_more p f, clear, is) (let e : number p f ≡ number p f + 2 ^ p * 0 = omega arith in e)

-- what the test of a digit tells
pub tested_set : (n i : ℕ) → bit_and (n / 2 ^ i) 1 ≡ 1 → bit_at n i ≡ 1
tested_set n i is = sym (shr_and_one n i) ∙ is

pub tested_clear : (n i : ℕ) → (bit_and (n / 2 ^ i) 1 ≡ 1 → ⊥) → bit_at n i ≡ 0
tested_clear n i not =
    let small = bit_at-lt n i in
    let digit = shr_and_one n i in
    omega (arith, not)

pub bit_is : (v : List ℕ) (x y : ℕ) → bit v x y ≡ bit_at (get_or v y 0) x
unfolding bit
bit_is v x y = refl
