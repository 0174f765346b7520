-- Leaves as keys, and how many of their cells are not dead.
use Rattle.std.proofs.Common.{◌≡◌, ℕ, zero, suc, ◌+◌, ◌*◌, ◌/◌, ◌%◌, ◌^◌, ◌<◌, ◌≤◌, Bool, true, false, List, length, replicate, get_or, max, refl, sym, ◌∙◌, ap, subst, arith, lit<, add_comm, add-one}
use Rattle.std.specs.Prelude.{◌↔◌, IsTrue, bit_or, count_ones, slice_index, ◌==◌, if◌then◌else◌}
use Rattle.std.specs.Int.{bit_at}
use Rattle.std.proofs.Math.Nat.{pow-suc}
use Rattle.std.proofs.lemmas.Bool.Decides.{same_from_decides, nat_tests}
use Rattle.std.proofs.lemmas.List.{ext_get_or, get_or-replicate, length-replicate}
use Rattle.std.proofs.lemmas.Nat.{ones-le, ones_cat, shr-shr, shr_below, zero_from_ones}
use Rattle.std.proofs.lemmas.Nat.Bits.{bit_at-lt, bit_at-zero, bit_at_or, same_from_bits_below}
use Rattle.bitplane_kernel.specs.Planes.{number, state_at_bit, leaf_states}
use Rattle.bitplane_kernel.specs.Population.{sum_from, one_unless_dead, population, AreDead}
use Rattle.bitplane_kernel.specs.Same.{ArePlanes, planes_of, planes_back, is_same, same_Decides}
use Rattle.bitplane_kernel.specs.Square.{state_at}
use Rattle.bitplane_kernel.specs.Digits.{by_digit, number_lt, number_same, number_more, digit_of_number, leaf_read}

-- the planes of the states that a leaf stands for
pub planes_in : (planes states : List ℕ) → ArePlanes planes → leaf_states planes ≡ states → planes_of states ≡ planes
planes_in planes states are e = ap planes_of (sym e) ∙ planes_back planes are

-- planes are the same exactly where the states are
pub eq_of_planes : (r : Bool) (p q a b : List ℕ) → (IsTrue r ↔ (p ≡ q)) → ArePlanes p → ArePlanes q → leaf_states p ≡ a → leaf_states q ≡ b → r ≡ is_same a b
eq_of_planes r p q a b tells are_p are_q e f = same_from_decides r (is_same a b) (
  λ h. sym e ∙ ap leaf_states (tells.0 h) ∙ f,
  λ h. tells.1 (sym (planes_in p a are_p e) ∙ ap planes_of h ∙ planes_in q b are_q f),
) (same_Decides a b)

number_zero : (n : ℕ) → number n (λ _. 0) ≡ 0
unfolding number
number_zero zero = refl
number_zero (suc n) = let low = number_zero n in omega (arith, low)

pub dead_planes : (r : Bool) (p a : List ℕ) → (IsTrue r ↔ (p ≡ replicate 8 0)) → ArePlanes p → leaf_states p ≡ a → IsTrue r ↔ AreDead a
dead_planes r p a tells are e = (
  λ h i k. ap (λ l. get_or l i 0) (sym e) ∙ leaf_read p i k
      ∙ number_same 8 (λ q. bit_at (get_or p q 0) i) (λ _. 0) (λ q l. ap (λ z. bit_at (get_or z q 0) i) (tells.0 h) ∙ ap (λ z. bit_at z i) (get_or-replicate {A = ℕ} 8 q 0 0 l) ∙ bit_at-zero i)
      ∙ number_zero 8,
  λ dead. tells.1 (all_zero dead),
)
  where
    none : (dead : AreDead a) (q i : ℕ) → q < 8 → i < 64 → bit_at (get_or p q 0) i ≡ 0
    none dead q i hq hi =
        sym (ap (λ s. bit_at s q) (leaf_read p i hi) ∙ digit_of_number 8 q (λ z. bit_at (get_or p z 0) i) hq (λ z l. bit_at-lt _ _))
        ∙ ap (λ l. bit_at (get_or l i 0) q) e ∙ ap (λ s. bit_at s q) (dead i hi) ∙ bit_at-zero q

    all_zero : AreDead a → p ≡ replicate 8 0
    all_zero dead = ext_get_or 0 p (replicate 8 0) (are.count ∙ sym (length-replicate {A = ℕ} 8 0)) (λ q h.
        let within : q < 8 = omega (arith, are.count, h) in
        zero_from_bits (get_or p q 0) (are.fits q within) (λ i l. none dead q i within l) ∙ sym (get_or-replicate {A = ℕ} 8 q 0 0 within))
      where
        zero_from_bits : (n : ℕ) → n < 2 ^ 64 → ((i : ℕ) → i < 64 → bit_at n i ≡ 0) → n ≡ 0
        zero_from_bits n small bits = same_from_bits_below 64 n 0 small (lit< tt) (λ i l. bits i l ∙ sym (bit_at-zero i))

-- ---- how many cells are not dead

ones_none : count_ones 0 ≡ 0
ones_none = let h = ones-le 0 0 (lit< tt) in omega (arith, h)

ones_single : count_ones 1 ≡ 1
ones_single = least (count_ones 1) (ones-le 1 1 (lit< tt)) (λ e. (let z = zero_from_ones 1 e in omega (arith, z)))
  where
    least : (m : ℕ) → m ≤ 1 → (m ≡ 0 → ⊥) → m ≡ 1
    least zero h none = absurd (none refl)
    least (suc m) h none = omega (arith, h)

-- a binary digit has as many ones as it is worth
ones_digit : (d : ℕ) → d < 2 → count_ones d ≡ d
ones_digit d h = by_digit (λ d. count_ones d ≡ d) d h ones_none ones_single

-- the ones of the digits from s on
ones_from : (n k s : ℕ) → n < 2 ^ (s + k) → count_ones (n / 2 ^ s) ≡ sum_from s k (bit_at n)
unfolding sum_from
ones_from n zero s small =
    let least : n / 2 ^ s < 2 ^ 0 = shr_below n 0 s (subst (λ k. n < 2 ^ k) (add_comm s 0) small) in
    let none : n / 2 ^ s ≡ 0 = omega (arith, least) in
    ap count_ones none ∙ ones_digit 0 (lit< tt)
ones_from n (suc k) s small =
    let high : n / 2 ^ s / 2 ≡ n / 2 ^ suc s = shr-shr n s 1 ∙ ap (λ j. n / 2 ^ j) (add-one s) in
    let parts : n / 2 ^ s ≡ n / 2 ^ s / 2 * 2 ^ 1 + n / 2 ^ s % 2 = omega arith in
    let digit : n / 2 ^ s % 2 < 2 = omega arith in
    let sides : s + suc k ≡ suc s + k = omega arith in
    let below = ones_from n k (suc s) (subst (λ j. n < 2 ^ j) sides small) in
    let first = ones_digit (n / 2 ^ s % 2) digit in
    let split = ones_cat 1 (n / 2 ^ s / 2) (n / 2 ^ s % 2) digit in
    ap count_ones parts ∙ split ∙ (λ i. count_ones (high i) + first i) ∙ (λ i. below i + bit_at n s) ∙ add_comm _ (bit_at n s)

pub ones_of_digits : (n : ℕ) → n < 2 ^ 64 → count_ones n ≡ sum_from 0 64 (bit_at n)
ones_of_digits n small = let whole : n / 2 ^ 0 ≡ n = omega arith in ap count_ones (sym whole) ∙ ones_from n 64 0 small

sum_same : (s n : ℕ) (f g : ℕ → ℕ) → ((i : ℕ) → i < s + n → f i ≡ g i) → sum_from s n f ≡ sum_from s n g
unfolding sum_from
sum_same s zero f g same = refl
sum_same s (suc n) f g same =
    let own : f s ≡ g s = same s (omega arith) in
    let rest : sum_from (suc s) n f ≡ sum_from (suc s) n g = sum_same (suc s) n f g (λ i h. same i (omega (arith, h))) in
    λ i. own i + rest i

-- row by row
pub sum_of_rows : (f : ℕ → ℕ) → sum_from 0 64 f ≡ sum_from 0 8 (λ y. sum_from 0 8 (λ x. f (8 * y + x)))
unfolding sum_from
sum_of_rows f = omega arith

-- a state with one digit more is dead where it was and the digit is 0
pub more_alive : (n : ℕ) (f : ℕ → ℕ) → f n < 2 → one_unless_dead (number (n + 1) f) ≡ max (one_unless_dead (number n f)) (f n)
more_alive n f small = ap one_unless_dead (number_more n f) ∙ by_digit (λ d. one_unless_dead (number n f + 2 ^ n * d) ≡ max (one_unless_dead (number n f)) d) (f n) small none one
  where
    worth : 0 < 2 ^ n
    worth = let h = number_lt n (λ _. 0) (λ p l. lit< tt) in omega (arith, h)

    none : one_unless_dead (number n f + 2 ^ n * 0) ≡ max (one_unless_dead (number n f)) 0
    none = grind (arith, nat_tests)

    one : one_unless_dead (number n f + 2 ^ n * 1) ≡ max (one_unless_dead (number n f)) 1
    one = let h = worth in grind (arith, nat_tests, h)

-- the cells that are set in any plane are those that are not dead
pub population_of_planes : (any : ℕ) (p a : List ℕ) → any < 2 ^ 64 → ((i : ℕ) → i < 64 → bit_at any i ≡ one_unless_dead (number 8 (λ q. bit_at (get_or p q 0) i))) → leaf_states p ≡ a → count_ones any ≡ population 8 (state_at 8 a)
population_of_planes any p a small set e =
    ones_of_digits any small
    ∙ sum_same 0 64 (bit_at any) (λ i. one_unless_dead (get_or a i 0)) (λ i h. set i (omega (arith, h)) ∙ ap one_unless_dead (sym (leaf_read p i (omega (arith, h)))) ∙ ap (λ l. one_unless_dead (get_or l i 0)) e)
    ∙ sum_of_rows (λ i. one_unless_dead (get_or a i 0))
