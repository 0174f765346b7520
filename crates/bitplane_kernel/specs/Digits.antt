-- Numbers by their binary digits.
use Rattle.std.proofs.Common.{◌≡◌, ℕ, zero, suc, ◌+◌, ◌-◌, ◌*◌, ◌^◌, ◌/◌, ◌%◌, ◌<◌, List, length, map, get_or, inl, inr, refl, sym, ◌∙◌, ap, arith, lit<, add-one, add-zero, add-suc, zero-add}
use Rattle.std.specs.Int.{bit_at}
use Rattle.std.specs.List.{range_with_len}
use Rattle.std.proofs.Math.Nat.{pow-suc}
use Rattle.std.proofs.lemmas.Bool.Decides.{eqb_tells}
use Rattle.std.proofs.lemmas.List.{get_or-map, length-map}
use Rattle.std.proofs.lemmas.List.FromFn.{get_or-range_with_len, length-range_with_len}
use Rattle.std.proofs.lemmas.Nat.{mod-pow-add, pow-add}
use Rattle.std.proofs.lemmas.Nat.Bits.{bit_at_cat_high, bit_at_cat_low, bit_at_lowest}
use Rattle.bitplane_kernel.specs.Planes.{number, state_at_bit, leaf_states}

-- a digit is 0 or 1
pub by_digit : (P : ℕ → Type 0) (d : ℕ) → d < 2 → P 0 → P 1 → P d
by_digit P zero h z o = z
by_digit P (suc zero) h z o = o
by_digit P (suc (suc d)) h z o = absurd (omega arith)

pub number_none : (f : ℕ → ℕ) → number 0 f ≡ 0
unfolding number
number_none f = refl

pub number_more : (n : ℕ) (f : ℕ → ℕ) → number (n + 1) f ≡ number n f + 2 ^ n * f n
unfolding number
number_more n f = ap (λ k. number k f) (add-one n)

pub number_one : (f : ℕ → ℕ) → number 1 f ≡ f 0
unfolding number
number_one f = omega arith

-- it depends on the n digits alone
pub number_same : (n : ℕ) (f g : ℕ → ℕ) → ((p : ℕ) → p < n → f p ≡ g p) → number n f ≡ number n g
unfolding number
number_same zero f g same = refl
number_same (suc n) f g same =
    let low : number n f ≡ number n g = number_same n f g (λ p h. same p (omega arith)) in
    let own : f n ≡ g n = same n (omega arith) in
    cc

pub number_lt : (n : ℕ) (f : ℕ → ℕ) → ((p : ℕ) → p < n → f p < 2) → number n f < 2 ^ n
unfolding number
number_lt zero f digits = lit< tt
number_lt (suc n) f digits =
    let low = number_lt n f (λ p h. digits p (omega arith)) in
    let P : ℕ → Type 0 = λ d. number n f + 2 ^ n * d < 2 ^ suc n in
    let worth = pow-suc 2 n in
    by_digit P (f n) (digits n (omega arith)) (omega arith) (omega arith)

-- the k lowest digits, and the others
pub number_split : (k m : ℕ) (f : ℕ → ℕ) → number (k + m) f ≡ number k f + 2 ^ k * number m (λ p. f (k + p))
unfolding number
number_split k zero f = ap (λ n. number n f) (add-zero k) ∙ (let e : number k f ≡ number k f + 2 ^ k * 0 = omega arith in e)
number_split k (suc m) f =
    let low : number (k + m) f ≡ number k f + 2 ^ k * number m (λ p. f (k + p)) = number_split k m f in
    ap (λ n. number n f) (add-suc k m)
    ∙ rw (pow-add 2 k m, low) (omega arith)

-- the lowest digits of a number make its remainder
pub number_of_digits : (n s : ℕ) → number n (bit_at s) ≡ s % 2 ^ n
unfolding number
number_of_digits zero s = omega arith
number_of_digits (suc n) s =
    let low = number_of_digits n s in
    let place : suc n ≡ 1 + n = omega arith in
    let whole : s % 2 ^ suc n ≡ s / 2 ^ n % 2 * 2 ^ n + s % 2 ^ n = ap (λ k. s % 2 ^ k) place ∙ mod-pow-add s 1 n in
    omega arith

-- digit p of a number that is made of digits
pub digit_of_number : (n p : ℕ) (f : ℕ → ℕ) → p < n → ((q : ℕ) → q < n → f q < 2) → bit_at (number n f) p ≡ f p
unfolding number
digit_of_number zero p f h digits = absurd (omega arith)
digit_of_number (suc n) p f h digits =
    let low : number n f < 2 ^ n = number_lt n f (λ q k. digits q (omega arith)) in
    let order : number n f + 2 ^ n * f n ≡ f n * 2 ^ n + number n f = omega arith in
    elim (eqb_tells p n) [
      | inl same ↦
          let own : n - n ≡ 0 = omega arith in
          let small = digits n (omega arith) in
          let digit : f n % 2 ≡ f n = omega arith in
          ap (λ q. bit_at (number n f + 2 ^ n * f n) q) same.1 ∙ ap (λ k. bit_at k n) order ∙ bit_at_cat_high (f n) n (number n f) n low (omega arith)
          ∙ ap (bit_at (f n)) own ∙ bit_at_lowest (f n) ∙ digit ∙ sym (ap f same.1)
      | inr other ↦
          let below : p < n = omega (arith, other.1) in
          ap (λ k. bit_at k p) order ∙ bit_at_cat_low (f n) n (number n f) p below ∙ digit_of_number n p f below (λ q k. digits q (omega arith))
    ]

-- ---- tables of values

-- an element of a table of the first n values
pub tabled : (f : ℕ → ℕ) (n i : ℕ) → i < n → get_or (map f (range_with_len 0 n)) i 0 ≡ f i
tabled f n i h =
    get_or-map f (range_with_len 0 n) i 0 0 (omega (arith, length-range_with_len 0 n)) ∙ ap f (get_or-range_with_len 0 n i 0 h ∙ zero-add i)

pub table_length : (f : ℕ → ℕ) (n : ℕ) → length (map f (range_with_len 0 n)) ≡ n
table_length f n = length-map (range_with_len 0 n) f ∙ length-range_with_len 0 n

pub leaf_read : (planes : List ℕ) (i : ℕ) → i < 64 → get_or (leaf_states planes) i 0 ≡ state_at_bit planes i
unfolding leaf_states
leaf_read planes i h = tabled (state_at_bit planes) 64 i h

pub leaf_length : (planes : List ℕ) → length (leaf_states planes) ≡ 64
unfolding leaf_states
leaf_length planes = table_length (state_at_bit planes) 64
