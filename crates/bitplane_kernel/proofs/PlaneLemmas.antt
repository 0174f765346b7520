-- Operations on several planes of a block.
use Rattle.std.proofs.Common.{◌≡◌, ℕ, ◌+◌, ◌-◌, ◌*◌, ◌<◌, ◌≤◌, ◌^◌, ◌%◌, length, get_or-set_same, get_or-set_other, length-set, add-one, arith, refl, inl, inr, ◌∙◌, sym, ap, subst, List, []}
use Rattle.std.specs.Prelude.{min, slice_set}
use Rattle.std.specs.Int.{bit_at}
use Rattle.std.proofs.Math.Nat.{pow-suc}
use Rattle.std.proofs.lemmas.Nat.{mod-mul-add}
use Rattle.std.proofs.lemmas.Bool.Decides.{eqb_tells}
use Rattle.std.proofs.lemmas.Nat.Bits.{bit_at-lt}
use Rattle.bitplane_kernel.specs.declared.planes.BitPlane.{BitPlane}
use Rattle.bitplane_kernel.specs.Planes.{bit, HasBits, state_in, plane_at, IsHalfSum, IsSumOfStates}
use Rattle.bitplane_kernel.proofs.AdderLemmas.{bit_lt}
use Rattle.bitplane_kernel.specs.Digits.{by_digit, number_lt, number_none, number_more, number_same, number_of_digits}
use Rattle.bitplane_kernel.proofs.CountLemmas.{by_two_digits, mark, mark_same, mark_other}

-- a plane marks where its digit is 1, and its complement where it is 0
pub marks_one : (v : List ℕ) (d : ℕ) → d ≡ 1 → HasBits v (λ x y. mark (bit v x y) d)
marks_one v d is = record {
  bits = λ x y hx hy. by_digit (λ b. b ≡ mark b 1) (bit v x y) (bit_lt v x y) refl refl ∙ ap (mark (bit v x y)) (sym is);
}

pub marks_none : (v no_v : List ℕ) (d : ℕ) → d ≡ 0 → HasBits no_v (λ x y. 1 - bit v x y) → HasBits no_v (λ x y. mark (bit v x y) d)
marks_none v no_v d is h = record {
  bits = λ x y hx hy. h.bits x y hx hy ∙ by_digit (λ b. 1 - b ≡ mark b 0) (bit v x y) (bit_lt v x y) refl refl ∙ ap (mark (bit v x y)) (sym is);
}

-- ---- a number against the states

pub states_lt : (n : ℕ) (planes : List BitPlane) (x y : ℕ) → state_in n planes x y < 2 ^ n
states_lt n planes x y = number_lt n (λ p. bit (plane_at planes p) x y) (λ p h. bit_lt (plane_at planes p) x y)

-- numbers are the same where their lowest digits and their others are
apart : (w a a' b b' : ℕ) → a < w → a' < w → b < 2 → b' < 2 → (b ≡ b' → ⊥) → a + w * b ≡ a' + w * b' → ⊥
apart w a a' b b' ha ha' hb hb' =
    by_two_digits (λ d d'. (d ≡ d' → ⊥) → a + w * d ≡ a' + w * d' → ⊥) b b' hb hb'
    (λ n e. n refl) (λ n e. omega (arith, e)) (λ n e. omega (arith, e)) (λ n e. n refl)

split_mark : (w a a' b b' : ℕ) → a < w → a' < w → b < 2 → b' < 2 → min (mark a a') (mark b b') ≡ mark (a + w * b) (a' + w * b')
split_mark w a a' b b' ha ha' hb hb' = elim (eqb_tells b b') [
  | inl same ↦ elim (eqb_tells a a') [
    | inl low ↦
        let both : a + w * b ≡ a' + w * b' = ap (λ d. a + w * d) same.1 ∙ ap (λ k. k + w * b') low.1 in
        rw (mark_same b b' same.1, mark_same a a' low.1, mark_same (a + w * b) (a' + w * b') both) refl
    | inr low ↦
        let other : a + w * b ≡ a' + w * b' → ⊥ = λ e. low.1 (let e' = rw same.1 at e in omega (arith, e')) in
        rw (mark_same b b' same.1, mark_other a a' low.1, mark_other (a + w * b) (a' + w * b') other) refl
  ]
  | inr other ↦
      rw (mark_other b b' other.1, mark_other (a + w * b) (a' + w * b') (apart w a a' b b' ha ha' hb hb' other.1))
      (let e : min (mark a a') 0 ≡ 0 = omega arith in e)
]

pub equal_none : (planes : List BitPlane) (number : ℕ) (cells : List ℕ) → HasBits cells (λ x y. 1) → HasBits cells (λ x y. mark (state_in 0 planes x y) (number % 2 ^ 0))
equal_none planes n cells h = record {
  bits = λ x y hx hy. h.bits x y hx hy ∙ sym (mark_same (state_in 0 planes x y) (n % 2 ^ 0) (number_none (λ p. bit (plane_at planes p) x y) ∙ (let e : 0 ≡ n % 2 ^ 0 = omega arith in e)));
}

pub equal_more : (p : ℕ) (planes : List BitPlane) (n : ℕ) (cells digit new : List ℕ)
    → HasBits cells (λ x y. mark (state_in p planes x y) (n % 2 ^ p)) → HasBits digit (λ x y. mark (bit (plane_at planes p) x y) (bit_at n p))
    → HasBits new (λ x y. min (bit cells x y) (bit digit x y))
    → HasBits new (λ x y. mark (state_in (p + 1) planes x y) (n % 2 ^ (p + 1)))
equal_more p planes n cells digit new so_far own both = record {
  bits = λ x y hx hy.
      let low : n % 2 ^ p < 2 ^ p = omega (arith, states_lt p planes x y) in
      let digits : n % 2 ^ (p + 1) ≡ n % 2 ^ p + 2 ^ p * bit_at n p =
      sym (number_of_digits (p + 1) n) ∙ number_more p (bit_at n) ∙ ap (λ k. k + 2 ^ p * bit_at n p) (number_of_digits p n) in
      both.bits x y hx hy ∙ rw (so_far.bits x y hx hy, own.bits x y hx hy)
      (rw (number_more p (λ q. bit (plane_at planes q) x y), digits)
      (split_mark (2 ^ p) (state_in p planes x y) (n % 2 ^ p) (bit (plane_at planes p) x y) (bit_at n p) (states_lt p planes x y) low (bit_lt (plane_at planes p) x y) (bit_at-lt n p)));
}

-- ---- changes, plane by plane

-- one was added in the planes below n, and the carry is still to be added
pub record AddedBelow (n : ℕ) (old : List BitPlane) (cells : List ℕ) (new : List BitPlane) (carry : List ℕ) : Type 0 where
  pub len : length new ≡ length old
  pub sum : (x y : ℕ) → x < 16 → y < 16 → state_in n new x y + 2 ^ n * bit carry x y ≡ state_in n old x y + bit cells x y
  pub rest : (p : ℕ) → n ≤ p → plane_at new p ≡ plane_at old p

-- the planes below n were made 0 at these cells
pub record ClearedBelow (n : ℕ) (old : List BitPlane) (cells : List ℕ) (new : List BitPlane) : Type 0 where
  pub len : length new ≡ length old
  pub cleared : (p x y : ℕ) → p < n → x < 16 → y < 16 → bit (plane_at new p) x y ≡ min (bit (plane_at old p) x y) (1 - bit cells x y)
  pub rest : (p : ℕ) → n ≤ p → plane_at new p ≡ plane_at old p

pub plane_set_same : (planes : List BitPlane) (p : ℕ) (v : List ℕ) → p < length planes → plane_at (slice_set planes p (record { rows = v })) p ≡ v
plane_set_same planes p v h = ap (λ plane. plane.rows) (get_or-set_same planes p (record { rows = v }) (record { rows = [] }) h)

pub plane_set_other : (planes : List BitPlane) (p q : ℕ) (v : List ℕ) → (q ≡ p → ⊥) → plane_at (slice_set planes p (record { rows = v })) q ≡ plane_at planes q
plane_set_other planes p q v other = ap (λ plane. plane.rows) (get_or-set_other planes p q (record { rows = v }) (record { rows = [] }) other)

pub added_none : (planes : List BitPlane) (cells : List ℕ) → AddedBelow 0 planes cells planes cells
added_none planes cells = record {
  len = refl;
  sum = λ x y hx hy. omega arith;
  rest = λ p h. refl;
}

pub added_more : (n : ℕ) (old : List BitPlane) (cells : List ℕ) (new : List BitPlane) (carry low high : List ℕ) → n < length old
    → AddedBelow n old cells new carry → IsHalfSum low high (plane_at new n) carry
    → AddedBelow (n + 1) old cells (slice_set new n (record { rows = low })) high
added_more n old cells new carry low high within so_far one =
    let set_now : List BitPlane = slice_set new n (record { rows = low }) in
    let room : n < length new = omega (arith, so_far.len) in
    record {
      len = length-set new n (record { rows = low }) ∙ so_far.len;
      sum = λ x y hx hy.
          let own : plane_at set_now n ≡ low = plane_set_same new n low room in
          let same : state_in n set_now x y ≡ state_in n new x y = number_same n (λ p. bit (plane_at set_now p) x y) (λ p. bit (plane_at new p) x y)
          (λ p h. ap (λ v. bit v x y) (plane_set_other new n p low (λ e. omega (arith, e)))) in
          let here : bit (plane_at new n) x y ≡ bit (plane_at old n) x y = ap (λ v. bit v x y) (so_far.rest n (omega arith)) in
          let digits = one.sum x y hx hy in
          let before = so_far.sum x y hx hy in
          let worth : 2 ^ (n + 1) ≡ 2 ^ n * 2 = ap (λ k. 2 ^ k) (add-one n) ∙ pow-suc 2 n in
          rw (number_more n (λ p. bit (plane_at set_now p) x y), number_more n (λ p. bit (plane_at old p) x y), own, same, worth)
          (carried (2 ^ n) (state_in n new x y) (state_in n old x y) (bit low x y) (bit high x y) (bit (plane_at old n) x y) (bit carry x y) (bit cells x y) (digits ∙ ap (λ k. k + bit carry x y) here) before);
      rest = λ p h. plane_set_other new n p low (λ e. omega (arith, e)) ∙ so_far.rest p (omega arith);
    }
  where
    carried : (w new old low high own carry cell : ℕ) → low + 2 * high ≡ own + carry → new + w * carry ≡ old + cell → new + w * low + w * 2 * high ≡ old + w * own + cell
    carried w new old low high own carry cell digits before =
        let scaled : w * (low + 2 * high) ≡ w * (own + carry) = ap (λ k. w * k) digits in
        omega (arith, scaled, before)

pub added_all : (n m : ℕ) (old : List BitPlane) (cells : List ℕ) (new : List BitPlane) (carry : List ℕ) → m ≡ n → AddedBelow m old cells new carry → IsSumOfStates n old cells new
added_all n m old cells new carry is added = record {
  sum = λ x y hx hy.
      let before : state_in n new x y + 2 ^ n * bit carry x y ≡ state_in n old x y + bit cells x y = subst (λ k. state_in k new x y + 2 ^ k * bit carry x y ≡ state_in k old x y + bit cells x y) is (added.sum x y hx hy) in
      let whole : bit carry x y * 2 ^ n + state_in n new x y ≡ state_in n old x y + bit cells x y = omega arith in
      sym (ap (λ k. k % 2 ^ n) (sym whole) ∙ mod-mul-add (bit carry x y) (2 ^ n) (state_in n new x y) (states_lt n new x y));
  rest = λ p h. added.rest p (omega arith);
}

pub cleared_none : (planes : List BitPlane) (cells : List ℕ) → ClearedBelow 0 planes cells planes
cleared_none planes cells = record {
  len = refl;
  cleared = λ p x y small hx hy. absurd (omega arith);
  rest = λ p h. refl;
}

pub cleared_more : (n : ℕ) (old : List BitPlane) (cells others : List ℕ) (new : List BitPlane) (v : List ℕ) → n < length old
    → ClearedBelow n old cells new → HasBits others (λ x y. 1 - bit cells x y) → HasBits v (λ x y. min (bit (plane_at new n) x y) (bit others x y))
    → ClearedBelow (n + 1) old cells (slice_set new n (record { rows = v }))
cleared_more n old cells others new v within so_far not both =
    let room : n < length new = omega (arith, so_far.len) in
    record {
      len = length-set new n (record { rows = v }) ∙ so_far.len;
      cleared = λ p x y small hx hy. elim (eqb_tells p n) [
        | inl same ↦
            ap (λ q. bit (plane_at (slice_set new n (record { rows = v })) q) x y) same.1 ∙ ap (λ u. bit u x y) (plane_set_same new n v room)
            ∙ both.bits x y hx hy ∙ rw (not.bits x y hx hy, so_far.rest n (omega arith), same.1) refl
        | inr other ↦ ap (λ u. bit u x y) (plane_set_other new n p v other.1) ∙ so_far.cleared p x y (omega (arith, other.1)) hx hy
      ];
      rest = λ p h. plane_set_other new n p v (λ e. omega (arith, e)) ∙ so_far.rest p (omega arith);
    }
