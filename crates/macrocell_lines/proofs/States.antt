-- Squares and the states that they have.
use Rattle.std.proofs.Common.{◌≡◌, ℕ, zero, suc, ◌+◌, ◌-◌, ◌*◌, ◌/◌, ◌%◌, ◌^◌, ◌<◌, ◌≤◌, arith, Bool, true, false, List, length, get_or, refl, sym, ap, subst, ◌∙◌, pow-suc, inl, inr}
use Rattle.std.specs.Prelude.{if◌then◌else◌, nat_lt}
use Rattle.std.proofs.lemmas.Bool.{and_parts, and_from, cases_lt, eqb-true, eq-eqb}
use Rattle.std.proofs.lemmas.List.FromFn.{get_or-map-range_with_len, length-map-range_with_len}
use Rattle.std.proofs.lemmas.List.{ext_get_or}
use Rattle.square_store.proofs.Quarters.{lt_true, lt_false}
use Rattle.bitplane_kernel.specs.Square.{state_at}
use Rattle.macrocell_lines.specs.Squares.{StateSquare, Cell, Four, is_dead, level_of, seen_from, square_of, state_in}
use Rattle.macrocell_lines.specs.Lines.{states_of}
use Rattle.macrocell_lines.specs.Listing.{IsSquare}

pub double : (k : ℕ) → 2 ^ suc k ≡ 2 ^ k + 2 ^ k
double k = pow-suc 2 k ∙ twice (2 ^ k)
  where
    twice : (n : ℕ) → n * 2 ≡ n + n
    twice n = omega arith

-- squares of states that agree are one
pub same_square : (k : ℕ) (f g : ℕ → ℕ → ℕ) → ((u v : ℕ) → u < 2 ^ k → v < 2 ^ k → f u v ≡ g u v) → square_of k f ≡ square_of k g
unfolding square_of
same_square zero f g h = ap Cell (h 0 0 (omega arith) (omega arith))
same_square (suc k) f g h =
    let two = double k in
    let a = same_square k f g (λ u v hu hv. h u v (omega (arith, hu, two)) (omega (arith, hv, two))) in
    let b = same_square k (seen_from (2 ^ k) 0 f) (seen_from (2 ^ k) 0 g) (λ u v hu hv. h (2 ^ k + u) (0 + v) (omega (arith, hu, two)) (omega (arith, hv, two))) in
    let c = same_square k (seen_from 0 (2 ^ k) f) (seen_from 0 (2 ^ k) g) (λ u v hu hv. h (0 + u) (2 ^ k + v) (omega (arith, hu, two)) (omega (arith, hv, two))) in
    let d = same_square k (seen_from (2 ^ k) (2 ^ k) f) (seen_from (2 ^ k) (2 ^ k) g) (λ u v hu hv. h (2 ^ k + u) (2 ^ k + v) (omega (arith, hu, two)) (omega (arith, hv, two))) in
    λ i. Four (a i) (b i) (c i) (d i)

pub is_square : (k : ℕ) (f : ℕ → ℕ → ℕ) → IsSquare k (square_of k f)
unfolding square_of
is_square zero f = tt
is_square (suc k) f = (is_square k f, (is_square k (seen_from (2 ^ k) 0 f), (is_square k (seen_from 0 (2 ^ k) f), is_square k (seen_from (2 ^ k) (2 ^ k) f))))

pub level_is : (k : ℕ) (q : StateSquare) → IsSquare k q → level_of q ≡ k
level_is zero (Cell s) h = refl
level_is zero (Four a b c d) h = absurd h
level_is (suc k) (Cell s) h = absurd h
level_is (suc k) (Four a b c d) h = ap suc (level_is k a h.0)

-- ---- the states of four squares put together

module _ (n : ℕ) (f g h i : ℕ → ℕ → ℕ) (u v : ℕ) where
  abbrev pub put : ℕ
  put = if nat_lt v n then (if nat_lt u n then f u v else g (u - n) v) else (if nat_lt u n then h u (v - n) else i (u - n) (v - n))

  pub put_nw : u < n → v < n → put ≡ f u v
  put_nw p q = rw (lt_true u n p, lt_true v n q) refl

  pub put_ne : n ≤ u → v < n → put ≡ g (u - n) v
  put_ne p q = rw (lt_false u n p, lt_true v n q) refl

  pub put_sw : u < n → n ≤ v → put ≡ h u (v - n)
  put_sw p q = rw (lt_true u n p, lt_false v n q) refl

  pub put_se : n ≤ u → n ≤ v → put ≡ i (u - n) (v - n)
  put_se p q = rw (lt_false u n p, lt_false v n q) refl

-- what holds of each of four squares' states holds of theirs
pub put_each : (n : ℕ) (P : ℕ → ℕ → ℕ → Type 0) (f g h i : ℕ → ℕ → ℕ)
    → ((u v : ℕ) → u < n → v < n → P u v (f u v)) → ((u v : ℕ) → n ≤ u → u < n + n → v < n → P u v (g (u - n) v))
    → ((u v : ℕ) → u < n → n ≤ v → v < n + n → P u v (h u (v - n))) → ((u v : ℕ) → n ≤ u → u < n + n → n ≤ v → v < n + n → P u v (i (u - n) (v - n)))
    → (u v : ℕ) → u < n + n → v < n + n → P u v (put n f g h i u v)
put_each n P f g h i pf pg ph pi u v hu hv = elim (cases_lt v n) [
  | inl top ↦ elim (cases_lt u n) [
    | inl left ↦ subst (P u v) (sym (put_nw n f g h i u v left top)) (pf u v left top)
    | inr right ↦ subst (P u v) (sym (put_ne n f g h i u v right top)) (pg u v right hu top)
  ]
  | inr bottom ↦ elim (cases_lt u n) [
    | inl left ↦ subst (P u v) (sym (put_sw n f g h i u v left bottom)) (ph u v left bottom hv)
    | inr right ↦ subst (P u v) (sym (put_se n f g h i u v right bottom)) (pi u v right hu bottom hv)
  ]
]

-- the states of a square by columns and rows, from its own
pub state_back : (k : ℕ) (f : ℕ → ℕ → ℕ) (u v : ℕ) → u < 2 ^ k → v < 2 ^ k → state_in (square_of k f) u v ≡ f u v
unfolding square_of
state_back zero f u v hu hv = let a : 0 ≡ u = omega (arith, hu) in let b : 0 ≡ v = omega (arith, hv) in λ i. f (a i) (b i)
state_back (suc k) f u v hu hv =
    let n = 2 ^ k in
    let two = double k in
    let level : 2 ^ level_of (square_of k f) ≡ n = ap (λ m. 2 ^ m) (level_is k (square_of k f) (is_square k f)) in
    ap (λ m. put m (state_in (square_of k f)) (state_in (square_of k (seen_from n 0 f))) (state_in (square_of k (seen_from 0 n f))) (state_in (square_of k (seen_from n n f))) u v) level
    ∙ put_each n (λ x y s. s ≡ f x y) (state_in (square_of k f)) (state_in (square_of k (seen_from n 0 f))) (state_in (square_of k (seen_from 0 n f))) (state_in (square_of k (seen_from n n f)))
    (λ x y hx hy. state_back k f x y hx hy)
    (λ x y right hx hy. let e : n + (x - n) ≡ x = omega (arith, right) in let z : 0 + y ≡ y = omega arith in state_back k (seen_from n 0 f) (x - n) y (omega (arith, right, hx)) hy ∙ (λ i. f (e i) (z i)))
    (λ x y hx bottom hy. let e : n + (y - n) ≡ y = omega (arith, bottom) in let z : 0 + x ≡ x = omega arith in state_back k (seen_from 0 n f) x (y - n) hx (omega (arith, bottom, hy)) ∙ (λ i. f (z i) (e i)))
    (λ x y right hx bottom hy. let e : n + (x - n) ≡ x = omega (arith, right) in let d : n + (y - n) ≡ y = omega (arith, bottom) in state_back k (seen_from n n f) (x - n) (y - n) (omega (arith, right, hx)) (omega (arith, bottom, hy)) ∙ (λ i. f (e i) (d i)))
    u v (omega (arith, hu, two)) (omega (arith, hv, two))

-- a square is that of its states
pub square_back : (k : ℕ) (q : StateSquare) → IsSquare k q → square_of k (state_in q) ≡ q
unfolding square_of
square_back zero (Cell s) h = refl
square_back zero (Four a b c d) h = absurd h
square_back (suc k) (Cell s) h = absurd h
square_back (suc k) (Four a b c d) h =
    let n = 2 ^ k in
    let level : 2 ^ level_of a ≡ n = ap (λ m. 2 ^ m) (level_is k a h.0) in
    let is : (u v : ℕ) → state_in (Four a b c d) u v ≡ put n (state_in a) (state_in b) (state_in c) (state_in d) u v =
    λ u v. ap (λ m. put m (state_in a) (state_in b) (state_in c) (state_in d) u v) level in
    let ea = same_square k (state_in (Four a b c d)) (state_in a) (λ u v hu hv. is u v ∙ put_nw n (state_in a) (state_in b) (state_in c) (state_in d) u v hu hv) ∙ square_back k a h.0 in
    let eb = same_square k (seen_from n 0 (state_in (Four a b c d))) (state_in b) (λ u v hu hv. let e : n + u - n ≡ u = omega arith in let z : 0 + v ≡ v = omega arith in
    is (n + u) (0 + v) ∙ put_ne n (state_in a) (state_in b) (state_in c) (state_in d) (n + u) (0 + v) (omega arith) (omega (arith, hv)) ∙ (λ i. state_in b (e i) (z i))) ∙ square_back k b h.1.0 in
    let ec = same_square k (seen_from 0 n (state_in (Four a b c d))) (state_in c) (λ u v hu hv. let e : n + v - n ≡ v = omega arith in let z : 0 + u ≡ u = omega arith in
    is (0 + u) (n + v) ∙ put_sw n (state_in a) (state_in b) (state_in c) (state_in d) (0 + u) (n + v) (omega (arith, hu)) (omega arith) ∙ (λ i. state_in c (z i) (e i))) ∙ square_back k c h.1.1.0 in
    let ed = same_square k (seen_from n n (state_in (Four a b c d))) (state_in d) (λ u v hu hv. let e : n + u - n ≡ u = omega arith in let z : n + v - n ≡ v = omega arith in
    is (n + u) (n + v) ∙ put_se n (state_in a) (state_in b) (state_in c) (state_in d) (n + u) (n + v) (omega arith) (omega arith) ∙ (λ i. state_in d (e i) (z i))) ∙ square_back k d h.1.1.1 in
    λ i. Four (ea i) (eb i) (ec i) (ed i)

-- ---- squares without a state but 0

pub dead_state : (q : StateSquare) → is_dead q ≡ true → (u v : ℕ) → state_in q u v ≡ 0
dead_state (Cell s) h u v = eqb-true s 0 h
dead_state (Four a b c d) h u v =
    let x = and_parts (is_dead a) _ h in
    let y = and_parts (is_dead b) _ x.1 in
    let z = and_parts (is_dead c) (is_dead d) y.1 in
    go (2 ^ level_of a) (dead_state a x.0) (dead_state b y.0) (dead_state c z.0) (dead_state d z.1)
  where
    go : (n : ℕ) → ((u v : ℕ) → state_in a u v ≡ 0) → ((u v : ℕ) → state_in b u v ≡ 0) → ((u v : ℕ) → state_in c u v ≡ 0) → ((u v : ℕ) → state_in d u v ≡ 0)
        → put n (state_in a) (state_in b) (state_in c) (state_in d) u v ≡ 0
    go n ha hb hc hd = by (nat_lt v n) (nat_lt u n)
      where
        by : (s t : Bool) → (if s then (if t then state_in a u v else state_in b (u - n) v) else (if t then state_in c u (v - n) else state_in d (u - n) (v - n))) ≡ 0
        by true true = ha u v
        by true false = hb (u - n) v
        by false true = hc u (v - n)
        by false false = hd (u - n) (v - n)

pub dead_square : (k : ℕ) (f : ℕ → ℕ → ℕ) → ((u v : ℕ) → f u v ≡ 0) → is_dead (square_of k f) ≡ true
unfolding square_of
dead_square zero f h = eq-eqb _ _ (h 0 0)
dead_square (suc k) f h = and_from _ _ (dead_square k f h) (and_from _ _ (dead_square k (seen_from (2 ^ k) 0 f) (λ u v. h (2 ^ k + u) (0 + v))) (and_from _ _ (dead_square k (seen_from 0 (2 ^ k) f) (λ u v. h (0 + u) (2 ^ k + v))) (dead_square k (seen_from (2 ^ k) (2 ^ k) f) (λ u v. h (2 ^ k + u) (2 ^ k + v)))))

-- two such of one level are one
pub dead_same : (k : ℕ) (p q : StateSquare) → IsSquare k p → IsSquare k q → is_dead p ≡ true → is_dead q ≡ true → p ≡ q
dead_same k p q hp hq dp dq = sym (square_back k p hp) ∙ same_square k (state_in p) (state_in q) (λ u v hu hv. dead_state p dp u v ∙ sym (dead_state q dq u v)) ∙ square_back k q hq

-- ---- squares of level 3, by their states

pub state_listed : (q : StateSquare) (i : ℕ) → i < 64 → get_or (states_of q) i 0 ≡ state_in q (i % 8) (i / 8)
state_listed q i h = get_or-map-range_with_len (λ j. state_in q (j % 8) (j / 8)) 0 64 i i 0 h (omega arith)

pub state_at_of : (q : StateSquare) (u v : ℕ) → u < 8 → v < 8 → state_at 8 (states_of q) u v ≡ state_in q u v
state_at_of q u v hu hv =
    let i = 8 * v + u in
    let x : i % 8 ≡ u = omega (arith, hu) in
    let y : i / 8 ≡ v = omega (arith, hu) in
    state_listed q i (omega (arith, hu, hv)) ∙ (λ j. state_in q (x j) (y j))

-- they tell it
pub states_tell : (p q : StateSquare) → IsSquare 3 p → IsSquare 3 q → states_of p ≡ states_of q → p ≡ q
states_tell p q hp hq e =
    sym (square_back 3 p hp)
    ∙ same_square 3 (state_in p) (state_in q) (λ u v hu hv. sym (state_at_of p u v hu hv) ∙ ap (λ l. state_at 8 l u v) e ∙ state_at_of q u v hu hv)
    ∙ square_back 3 q hq

-- and are those that it was made of
pub states_back : (states : List ℕ) → length states ≡ 64 → states_of (square_of 3 (state_at 8 states)) ≡ states
states_back states long = ext_get_or 0 _ states (length-map-range_with_len (λ j. state_in (square_of 3 (state_at 8 states)) (j % 8) (j / 8)) 0 64 ∙ sym long) (λ i h.
    let within : i < 64 = omega (arith, h, length-map-range_with_len (λ j. state_in (square_of 3 (state_at 8 states)) (j % 8) (j / 8)) 0 64) in
    let e : 8 * (i / 8) + i % 8 ≡ i = omega arith in
    state_listed (square_of 3 (state_at 8 states)) i within ∙ state_back 3 (state_at 8 states) (i % 8) (i / 8) (omega arith) (omega (arith, within)) ∙ ap (λ j. get_or states j 0) e)
