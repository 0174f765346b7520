-- The three laws of a map's evolution.
use Rattle.std.proofs.Common.{◌≡◌, ℕ, zero, suc, ◌+◌, List, [], ◌∷◌, refl, sym, ◌∙◌, ap, arith, add-zero, add-suc, ℤ, pos, negsuc, ◌≤ℤ◌, ◌<◌, if◌then◌else◌, Bool, true, false, ◌%◌}
use Rattle.std.specs.Prelude.{count_by, ◌==◌}
use Rattle.std.proofs.lemmas.Int.{ints}
use Rattle.generations_rule.specs.Place.{Place, moved, IsWithin}
use Rattle.generations_rule.specs.Rule.{GenerationsRule, IsRule, has, next_state}
use Rattle.generations_rule.specs.Evolution.{at, live_around, RunsCompose, IsLocal, StaysEmpty, StaysInRange}

pub runs_compose : RunsCompose
runs_compose r f a zero c = ap (λ n. at r f n c) (sym (add-zero a))
runs_compose r f a (suc b) c =
    (λ i. next_state r (runs_compose r f a b c i) (live_around (λ d. runs_compose r f a b d i) c))
    ∙ ap (λ n. at r f n c) (sym (add-suc a b))

-- a step to a neighbour
record IsStep (n : ℤ) : Type 0 where
  least : negsuc 0 ≤ℤ n
  most : n ≤ℤ pos 1

back : IsStep (negsuc 0)
back = record { least = omega (arith, ints); most = omega (arith, ints) }

still : IsStep (pos 0)
still = record { least = omega (arith, ints); most = omega (arith, ints) }

ahead : IsStep (pos 1)
ahead = record { least = omega (arith, ints); most = omega (arith, ints) }

-- what is within g of a neighbour is within g + 1
nearer : (g : ℕ) (c d : Place) (dx dy : ℤ) → IsStep dx → IsStep dy → IsWithin g (moved c dx dy) d → IsWithin (suc g) c d
nearer g c d dx dy x y h = record {
  left = omega (arith, ints, h.left, x.least);
  right = omega (arith, ints, h.right, x.most);
  above = omega (arith, ints, h.above, y.least);
  below = omega (arith, ints, h.below, y.most);
}

wider : (g : ℕ) (c d : Place) → IsWithin g c d → IsWithin (suc g) c d
wider g c d h = record { left = omega (arith, ints, h.left); right = omega (arith, ints, h.right); above = omega (arith, ints, h.above); below = omega (arith, ints, h.below) }

tally : List ℕ → ℕ
tally states = count_by (λ s. s == 1) states

pub is_local : IsLocal
unfolding tally
is_local r f h zero c same = same c (record { left = omega (arith, ints); right = omega (arith, ints); above = omega (arith, ints); below = omega (arith, ints) })
is_local r f h (suc g) c same =
    let one : (dx dy : ℤ) → IsStep dx → IsStep dy → at r f g (moved c dx dy) ≡ at r h g (moved c dx dy) =
    λ dx dy x y. is_local r f h g (moved c dx dy) (λ d near. same d (nearer g c d dx dy x y near)) in
    let own : at r f g c ≡ at r h g c = is_local r f h g c (λ d near. same d (wider g c d near)) in
    λ i. next_state r (own i) (tally (
    one (negsuc 0) (negsuc 0) back back i ∷ one (pos 0) (negsuc 0) still back i ∷ one (pos 1) (negsuc 0) ahead back i
    ∷ one (negsuc 0) (pos 0) back still i ∷ one (pos 1) (pos 0) ahead still i
    ∷ one (negsuc 0) (pos 1) back ahead i ∷ one (pos 0) (pos 1) still ahead i ∷ one (pos 1) (pos 1) ahead ahead i ∷ []))

empty_stays : (r : GenerationsRule) (g : ℕ) (c : Place) → IsRule r → at r (λ _. 0) g c ≡ 0
empty_stays r zero c ok = refl
empty_stays r (suc g) c ok =
    (λ i. next_state r (empty_stays r g c ok i) (live_around (λ d. empty_stays r g d ok i) c)) ∙ ap (λ b. if b then 1 else 0) ok.no_birth_on_none

pub stays_empty : StaysEmpty
stays_empty r f g c ok none = is_local r f (λ _. 0) g c none ∙ empty_stays r g c ok

-- a choice of two states below n
chosen_lt : (b : Bool) (x y n : ℕ) → x < n → y < n → (if b then x else y) < n
chosen_lt true x y n left right = left
chosen_lt false x y n left right = right

next_in_range : (r : GenerationsRule) (s n : ℕ) → IsRule r → next_state r s n < r.states
next_in_range r s n ok =
    let one : 1 < r.states = omega (arith, ok.least) in
    let none : 0 < r.states = omega (arith, ok.least) in
    let aged : (k : ℕ) → k % r.states < r.states = λ k. omega arith in
    chosen_lt (s == 0) _ _ _ (chosen_lt (has r.birth n) 1 0 _ one none)
    (chosen_lt (s == 1) _ _ _ (chosen_lt (has r.survival n) 1 (2 % r.states) _ one (aged 2)) (aged (s + 1)))

pub stays_in_range : StaysInRange
stays_in_range r f zero c ok h = h c
stays_in_range r f (suc g) c ok h = next_in_range r (at r f g c) (live_around (at r f g) c) ok
