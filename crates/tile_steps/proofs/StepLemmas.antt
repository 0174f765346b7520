-- One generation of four rows, cell by cell.
use Rattle.std.proofs.Common.{◌≡◌, ℕ, zero, suc, ◌+◌, ◌-◌, ◌^◌, ◌%◌, ◌<◌, ◌≤◌, length, arith, refl, inl, inr, ◌∙◌, sym, ap, subst, List, add-one}
use Rattle.std.specs.Prelude.{min, max, ◌==◌, if◌then◌else◌, slice_set, Bool, true, false}
use Rattle.std.proofs.Math.Nat.{mod-eq_of_lt}
use Rattle.std.proofs.lemmas.Bool.Decides.{eqb_tells}
use Rattle.generations_rule.specs.Rule.{GenerationsRule, has, next_state}
use Rattle.bitplane_kernel.specs.Planes.{number}
use Rattle.bitplane_kernel.specs.Digits.{number_more, number_none, number_same}
use Rattle.bitplane_kernel.specs.Step.{ChangesAt, one_if_live}
use Rattle.bitplane_kernel.proofs.StepLemmas.{changes_at, first_digit, next_law, two_at_least}
use Rattle.tile_steps.specs.declared.planes.RowPlane.{RowPlane}
use Rattle.tile_steps.specs.declared.adders.Count.{Count}
use Rattle.tile_steps.specs.Rows.{bit, HasBits, state_in, plane_at, IsSumOfStates, IsCleared}
use Rattle.tile_steps.specs.Count.{total, around_in, MarksAt}
use Rattle.tile_steps.specs.Steps.{live_by_rows}
use Rattle.tile_steps.proofs.AdderLemmas.{bit_lt}
use Rattle.tile_steps.proofs.CountLemmas.{mark, mark_same, mark_other}
use Rattle.tile_steps.proofs.PlaneLemmas.{plane_set_same, plane_set_other}

-- a plane that marks where the planes hold k, as a mark of the state
pub state_mark : (n k : ℕ) (planes : List RowPlane) (cells : List ℕ) (x y : ℕ) → 1 ≤ n → k < 2 → x < 64 → y < 4
    → HasBits cells (λ u v. mark (state_in n planes u v) (k % 2 ^ n)) → bit cells x y ≡ mark (state_in n planes x y) k
state_mark n k planes cells x y some digit hx hy h =
    let two = two_at_least n some in
    let kept : k % 2 ^ n ≡ k = mod-eq_of_lt (let e : k < 2 ^ n = omega arith in e) in
    h.bits x y hx hy ∙ rw kept refl

number_zero : (n : ℕ) → number n (λ _. 0) ≡ 0
number_zero zero = number_none (λ _. 0)
number_zero (suc n) = let low : number n (λ _. 0) ≡ 0 = number_zero n in ap (λ k. number k (λ _. 0)) (sym (add-one n)) ∙ number_more n (λ _. 0) ∙ omega arith

-- where the cells are cleared nothing is left, and elsewhere all
pub cleared_state : (n : ℕ) (old new : List RowPlane) (cells : List ℕ) (x y k : ℕ) → x < 64 → y < 4 → IsCleared n old cells new → bit cells x y ≡ mark (state_in n old x y) k
    → state_in n new x y ≡ (if state_in n old x y == k then 0 else state_in n old x y)
cleared_state n old new cells x y k hx hy h is = elim (eqb_tells (state_in n old x y) k) [
  | inl same ↦
      let set : bit cells x y ≡ 1 = is ∙ mark_same (state_in n old x y) k same.1 in
      number_same n (λ p. bit (plane_at new p) x y) (λ _. 0) (λ p small. h.cleared p x y small hx hy ∙ rw set (let e : min (bit (plane_at old p) x y) 0 ≡ 0 = omega arith in e))
      ∙ number_zero n ∙ rw same.0 refl
  | inr other ↦
      let clear : bit cells x y ≡ 0 = is ∙ mark_other (state_in n old x y) k other.1 in
      number_same n (λ p. bit (plane_at new p) x y) (λ p. bit (plane_at old p) x y)
      (λ p small. h.cleared p x y small hx hy ∙ rw clear (let e : min (bit (plane_at old p) x y) 1 ≡ bit (plane_at old p) x y = omega (arith, bit_lt (plane_at old p) x y) in e))
      ∙ rw other.0 refl
]

-- only the lowest digit is another
number_first : (n : ℕ) (f g : ℕ → ℕ) → 1 ≤ n → ((p : ℕ) → 1 ≤ p → f p ≡ g p) → number n f + g 0 ≡ number n g + f 0
number_first n f g some same =
    let left = first_digit n f some in
    let right = first_digit n g some in
    let others : number (n - 1) (λ p. f (1 + p)) ≡ number (n - 1) (λ p. g (1 + p)) =
    number_same (n - 1) (λ p. f (1 + p)) (λ p. g (1 + p)) (λ p h. same (1 + p) (omega arith)) in
    omega arith

-- live cells are put where the state is 0
pub born_state : (n : ℕ) (old : List RowPlane) (v births : List ℕ) (x y : ℕ) → 1 ≤ n → x < 64 → y < 4 → 0 < length old
    → HasBits v (λ u w. max (bit (plane_at old 0) u w) (bit births u w)) → (bit births x y ≡ 1 → state_in n old x y ≡ 0)
    → state_in n (slice_set old 0 (record { rows = v })) x y ≡ (if bit births x y == 1 then 1 else state_in n old x y)
born_state n old v births x y some hx hy room h dead =
    let new : List RowPlane = slice_set old 0 (record { rows = v }) in
    let f : ℕ → ℕ = λ p. bit (plane_at new p) x y in
    let g : ℕ → ℕ = λ p. bit (plane_at old p) x y in
    let change : number n f + g 0 ≡ number n g + f 0 = number_first n f g some (λ p one. ap (λ u. bit u x y) (plane_set_other old 0 p v (λ e. omega (arith, e)))) in
    let first : f 0 ≡ max (g 0) (bit births x y) = ap (λ u. bit u x y) (plane_set_same old 0 v room) ∙ h.bits x y hx hy in
    elim (eqb_tells (bit births x y) 1) [
      | inl same ↦
          let none : number n g ≡ 0 = dead same.1 in
          let low : f 0 ≡ max (g 0) 1 = first ∙ ap (max (g 0)) same.1 in
          let parts = first_digit n g some in
          let is : number n f ≡ 1 = omega (arith, bit_lt (plane_at old 0) x y) in
          is ∙ rw same.0 refl
      | inr other ↦
          let no_birth : bit births x y ≡ 0 = omega (arith, bit_lt births x y, other.1) in
          let low : f 0 ≡ max (g 0) 0 = first ∙ ap (max (g 0)) no_birth in
          let is : number n f ≡ number n g = omega arith in
          is ∙ rw other.0 refl
    ]

none_left : (b : Bool) (m : ℕ) → m ≡ 0 → (if b then 0 else m) ≡ 0
none_left true m is = refl
none_left false m is = is

no_births : (r : GenerationsRule) (s n aging births : ℕ) → ChangesAt r s n aging births → births ≡ 1 → s + aging ≡ 0
no_births r s n aging births ch born = elim (eqb_tells s 0) [
  | inl dead ↦ let still : aging ≡ 0 = ch.ages ∙ rw dead.0 refl in omega (arith, dead.1)
  | inr other ↦ let none : births ≡ 0 = ch.births ∙ rw other.0 refl in absurd (omega arith)
]

pub made : (r : GenerationsRule) (n states : ℕ) (old mid clean : List RowPlane) (ages past births v : List ℕ)
    → 1 ≤ n → r.states ≤ 2 ^ n → states ≡ r.states → 0 < length clean
    → IsSumOfStates n old ages mid → HasBits past (λ x y. mark (state_in n mid x y) (states % 2 ^ n)) → IsCleared n mid past clean
    → HasBits v (λ x y. max (bit (plane_at clean 0) x y) (bit births x y))
    → (x y neighbours : ℕ) → x < 64 → y < 4 → state_in n old x y < r.states → ChangesAt r (state_in n old x y) neighbours (bit ages x y) (bit births x y)
    → state_in n (slice_set clean 0 (record { rows = v })) x y ≡ next_state r (state_in n old x y) neighbours
made r n states old mid clean ages past births v some enough is room added marks cleared born x y neighbours hx hy below ch =
    let sum : state_in n mid x y ≡ (state_in n old x y + bit ages x y) % 2 ^ n = added.sum x y hx hy in
    let at_most : state_in n clean x y ≡ (if state_in n mid x y == r.states % 2 ^ n then 0 else state_in n mid x y) =
    cleared_state n mid clean past x y (r.states % 2 ^ n) hx hy cleared (marks.bits x y hx hy ∙ ap (λ k. mark (state_in n mid x y) (k % 2 ^ n)) is) in
    let dead : bit births x y ≡ 1 → state_in n clean x y ≡ 0 = λ one.
    let none : state_in n mid x y ≡ 0 = sum ∙ ap (λ k. k % 2 ^ n) (no_births r _ neighbours _ _ ch one) ∙ mod-eq_of_lt (let e : 0 < 2 ^ n = omega arith in e) in
    at_most ∙ none_left (state_in n mid x y == r.states % 2 ^ n) (state_in n mid x y) none in
    born_state n clean v births x y some hx hy room born dead
    ∙ ap (λ k. if bit births x y == 1 then 1 else k) at_most
    ∙ next_law r (2 ^ n) (state_in n old x y) neighbours (bit ages x y) (bit births x y) (state_in n mid x y) enough below ch sum

pub found : (r : GenerationsRule) (n : ℕ) (planes : List RowPlane) (above below dead live survives stays born settled aging births : List ℕ) (count : Count) (exact : List (List ℕ))
    → 1 ≤ n
    → HasBits dead (λ x y. mark (state_in n planes x y) (0 % 2 ^ n)) → HasBits live (λ x y. mark (state_in n planes x y) (1 % 2 ^ n))
    → ((x y : ℕ) → x < 62 → y < 4 → total count (x + 1) y ≡ around_in above live below x y)
    → ((x y : ℕ) → x < 64 → y < 4 → MarksAt 9 exact x y (total count x y))
    → ((x y k : ℕ) → x < 64 → y < 4 → k ≤ 8 → MarksAt 9 exact x y k → bit survives x y ≡ (if has r.survival k then 1 else 0))
    → ((x y k : ℕ) → x < 64 → y < 4 → k ≤ 8 → MarksAt 9 exact x y k → bit born x y ≡ (if has r.birth k then 1 else 0))
    → HasBits stays (λ x y. min (bit live x y) (bit survives x y)) → HasBits settled (λ x y. max (bit dead x y) (bit stays x y))
    → HasBits aging (λ x y. 1 - bit settled x y) → HasBits births (λ x y. min (bit dead x y) (bit born x y))
    → (x y : ℕ) → x < 62 → y < 4
    → ChangesAt r (state_in n planes (x + 1) y) (live_by_rows n above planes below x y) (bit aging (x + 1) y) (bit births (x + 1) y)
found r n planes above below dead live survives stays born settled aging births count exact some d l counted marked sv bn st se ag bi x y hx hy =
    let one : (u : ℕ) → x ≤ u → u ≤ x + 2 → bit live u y ≡ one_if_live (state_in n planes u y) =
    λ u a b. state_mark n 1 planes live u y some (omega arith) (omega arith) hy l in
    let west = one x (omega arith) (omega arith) in
    let east = one (x + 2) (omega arith) (omega arith) in
    let near : around_in above live below x y ≡ live_by_rows n above planes below x y = omega arith in
    let count_is : total count (x + 1) y ≡ live_by_rows n above planes below x y = counted x y hx hy ∙ near in
    let right : x + 1 < 64 = omega arith in
    let marks : MarksAt 9 exact (x + 1) y (live_by_rows n above planes below x y) = subst (MarksAt 9 exact (x + 1) y) count_is (marked (x + 1) y right hy) in
    let few_live : live_by_rows n above planes below x y ≤ 8 = omega (
      arith,
      bit_lt above x y,
      bit_lt above (x + 1) y,
      bit_lt above (x + 2) y,
      bit_lt live x y,
      bit_lt live (x + 2) y,
      bit_lt below x y,
      bit_lt below (x + 1) y,
      bit_lt below (x + 2) y,
    ) in
    changes_at r (state_in n planes (x + 1) y) (live_by_rows n above planes below x y) _ _ _ _ _ _ _ _
    (state_mark n 0 planes dead (x + 1) y some (omega arith) right hy d)
    (state_mark n 1 planes live (x + 1) y some (omega arith) right hy l)
    (sv (x + 1) y (live_by_rows n above planes below x y) right hy few_live marks)
    (bn (x + 1) y (live_by_rows n above planes below x y) right hy few_live marks)
    (st.bits (x + 1) y right hy) (se.bits (x + 1) y right hy) (ag.bits (x + 1) y right hy) (bi.bits (x + 1) y right hy)
