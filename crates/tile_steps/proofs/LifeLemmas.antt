-- Conway's Life, by few operations.
use Rattle.std.proofs.Common.{◌≡◌, ℕ, ◌+◌, ◌-◌, ◌*◌, ◌%◌, ◌<◌, ◌≤◌, List, length, refl, inl, inr, sym, ◌∙◌, ap, subst, arith, Bool, true, false}
use Rattle.std.specs.Prelude.{min, max, ◌==◌, ◌||◌, if◌then◌else◌, slice_set}
use Rattle.std.proofs.lemmas.Bool.Decides.{eqb_tells}
use Rattle.generations_rule.specs.Rule.{GenerationsRule, has, next_state}
use Rattle.bitplane_kernel.specs.Digits.{by_digit, number_one}
use Rattle.bitplane_kernel.specs.Step.{one_if_live}
use Rattle.tile_steps.specs.declared.planes.RowPlane.{RowPlane}
use Rattle.tile_steps.specs.declared.adders.Count.{Count}
use Rattle.tile_steps.specs.Count.{total, around_in}
use Rattle.tile_steps.specs.Life.{IsLife, life_bit}
use Rattle.tile_steps.specs.Rows.{bit, HasBits, plane_at, state_in}
use Rattle.tile_steps.specs.Steps.{live_by_rows, StepsRows}
use Rattle.tile_steps.proofs.AdderLemmas.{bit_lt}
use Rattle.tile_steps.proofs.PlaneLemmas.{plane_set_same}

-- the rule is Life's for the counts below n
pub record IsLifeBelow (r : GenerationsRule) (count : ℕ) : Type 0 where
  pub states : r.states ≡ 2
  pub survival : (n : ℕ) → n < count → has r.survival n ≡ (n == 2 || n == 3)
  pub birth : (n : ℕ) → n < count → has r.birth n ≡ (n == 3)

-- what the four digits of a count make of a cell
digits_law : (o t f e s n : ℕ) → o < 2 → t < 2 → f < 2 → e < 2 → s < 2 → o + 2 * t + 4 * f + 8 * e ≡ n → n ≤ 8 → min (min t (1 - f)) (max o s) ≡ life_bit s n
digits_law o t f e s n ho ht hf he hs is few = elim (eqb_tells n 3) [
  | inl three ↦ (let e' : min (min t (1 - f)) (max o s) ≡ 1 = omega (arith, three.1) in e') ∙ rw three.0 refl
  | inr other ↦ elim (eqb_tells n 2) [
    | inl two ↦ (let e' : min (min t (1 - f)) (max o s) ≡ s = omega (arith, two.1) in e') ∙ rw (other.0, two.0) refl
    | inr neither ↦ (let e' : min (min t (1 - f)) (max o s) ≡ 0 = omega (arith, other.1, neither.1) in e') ∙ rw (other.0, neither.0) refl
  ]
]

pub life_law : (above live below : List ℕ) (count : Count) (no_fours few some new : List ℕ)
    → ((x y : ℕ) → x < 62 → y < 4 → total count (x + 1) y ≡ around_in above live below x y)
    → HasBits no_fours (λ x y. 1 - bit count.fours x y) → HasBits few (λ x y. min (bit count.twos x y) (bit no_fours x y)) → HasBits some (λ x y. max (bit count.ones x y) (bit live x y))
    → HasBits new (λ x y. min (bit few x y) (bit some x y))
    → (x y : ℕ) → x < 62 → y < 4 → bit new (x + 1) y ≡ life_bit (bit live (x + 1) y) (around_in above live below x y)
life_law above live below count no_fours few some new counted n f s both x y hx hy =
    let right : x + 1 < 64 = omega arith in
    let most : around_in above live below x y ≤ 8 = omega (
      arith,
      bit_lt above x y,
      bit_lt above (x + 1) y,
      bit_lt above (x + 2) y,
      bit_lt live x y,
      bit_lt live (x + 2) y,
      bit_lt below x y,
      bit_lt below (x + 1) y,
      bit_lt below (x + 2) y,
    ) in
    both.bits (x + 1) y right hy ∙ rw (f.bits (x + 1) y right hy, s.bits (x + 1) y right hy, n.bits (x + 1) y right hy)
    (digits_law (bit count.ones (x + 1) y) (bit count.twos (x + 1) y) (bit count.fours (x + 1) y) (bit count.eights (x + 1) y) (bit live (x + 1) y) (around_in above live below x y)
    (bit_lt count.ones (x + 1) y) (bit_lt count.twos (x + 1) y) (bit_lt count.fours (x + 1) y) (bit_lt count.eights (x + 1) y) (bit_lt live (x + 1) y) (counted x y hx hy) most)

-- the rule's next state of a cell is that
next_life : (r : GenerationsRule) (s n : ℕ) → IsLife r → s < 2 → n ≤ 8 → life_bit s n ≡ next_state r s n
next_life r s n life hs few =
    by_digit (λ d. life_bit d n ≡ next_state r d n) s hs
    (dead (n == 3) (n == 2) (has r.birth n) (life.birth n few))
    (live (n == 3) (n == 2) (has r.survival n) (life.survival n few) (2 % r.states) (ap (λ k. 2 % k) life.states))
  where
    dead : (three two born : Bool) → born ≡ three → ◌≡◌ {A = ℕ} (if three then 1 else (if two then 0 else 0)) (if born then 1 else 0)
    dead true two born is = rw is refl
    dead false true born is = rw is refl
    dead false false born is = rw is refl

    live : (three two stays : Bool) → stays ≡ (two || three) → (aged : ℕ) → aged ≡ 0 → ◌≡◌ {A = ℕ} (if three then 1 else (if two then 1 else 0)) (if stays then 1 else aged)
    live true true stays is aged none = rw is refl
    live true false stays is aged none = rw is refl
    live false true stays is aged none = rw is refl
    live false false stays is aged none = rw (is, none) refl

pub life_steps : (n : ℕ) (r : GenerationsRule) (above below : List ℕ) (old : List RowPlane) (v : List ℕ) → n ≡ 1 → IsLife r → 0 < length old
    → ((x y : ℕ) → x < 62 → y < 4 → bit v (x + 1) y ≡ life_bit (bit (plane_at old 0) (x + 1) y) (around_in above (plane_at old 0) below x y))
    → StepsRows n r above old below (slice_set old 0 (record { rows = v }))
life_steps n r above below old v is life room steps = subst (λ k. StepsRows k r above old below (slice_set old 0 (record { rows = v }))) (sym is) (record {
  inner = λ x y hx hy states.
      let own : List ℕ = plane_at old 0 in
      let new : List RowPlane = slice_set old 0 (record { rows = v }) in
      let one : (u : ℕ) → state_in 1 old u y ≡ bit own u y = λ u. number_one (λ p. bit (plane_at old p) u y) in
      let alive : (u : ℕ) → bit own u y ≡ one_if_live (state_in 1 old u y) = λ u. by_digit (λ d. d ≡ one_if_live d) (bit own u y) (bit_lt own u y) refl refl ∙ ap one_if_live (sym (one u)) in
      let west = alive x in
      let east = alive (x + 2) in
      let count : around_in above own below x y ≡ live_by_rows 1 above old below x y = omega arith in
      let most : around_in above own below x y ≤ 8 = omega (
        arith,
        bit_lt above x y,
        bit_lt above (x + 1) y,
        bit_lt above (x + 2) y,
        bit_lt own x y,
        bit_lt own (x + 2) y,
        bit_lt below x y,
        bit_lt below (x + 1) y,
        bit_lt below (x + 2) y,
      ) in
      number_one (λ p. bit (plane_at new p) (x + 1) y) ∙ ap (λ u. bit u (x + 1) y) (plane_set_same old 0 v room) ∙ steps x y hx hy
      ∙ next_life r (bit own (x + 1) y) (around_in above own below x y) life (bit_lt own (x + 1) y) most
      ∙ (λ i. next_state r (sym (one (x + 1)) i) (count i));
})
