-- One generation of the planes of a block, cell by cell.
use Rattle.std.proofs.Common.{◌≡◌, ℕ, zero, suc, ◌+◌, ◌-◌, ◌*◌, ◌^◌, ◌%◌, ◌<◌, ◌≤◌, length, arith, refl, inl, inr, ◌∙◌, sym, ap, subst, List, lit<, add-zero}
use Rattle.std.specs.Prelude.{min, max, ◌==◌, if◌then◌else◌, slice_set, Bool, true, false, eqb}
use Rattle.std.proofs.Math.Nat.{pow-suc, mod-eq_of_lt, mod_self}
use Rattle.std.proofs.lemmas.Bool.Decides.{eqb_tells}
use Rattle.std.proofs.lemmas.Bool.{eq-eqb, ne_eqb}
use Rattle.generations_rule.specs.Rule.{GenerationsRule, has, next_state}
use Rattle.bitplane_kernel.specs.declared.planes.BitPlane.{BitPlane}
use Rattle.bitplane_kernel.specs.Planes.{bit, number, HasBits, state_in, plane_at, IsSumOfStates, IsCleared}
use Rattle.bitplane_kernel.specs.declared.adders.Count.{Count}
use Rattle.bitplane_kernel.specs.Count.{total, around_in, MarksAt}
use Rattle.bitplane_kernel.specs.Step.{AreBelow, ChangesAt, live_in, one_if_live}
use Rattle.bitplane_kernel.proofs.AdderLemmas.{bit_lt}
use Rattle.bitplane_kernel.specs.Digits.{number_lt, number_one, number_same, number_split}
use Rattle.bitplane_kernel.proofs.CountLemmas.{mark, mark_same, mark_other}
use Rattle.bitplane_kernel.proofs.PlaneLemmas.{plane_set_same, plane_set_other}

-- ---- as many planes as the states need

no_multiple : (a b w : ℕ) → a + b * w < b → w ≡ 0
no_multiple a b zero h = refl
no_multiple a b (suc w) h = absurd (omega arith)

-- what the planes from n on hold
above : ℕ → List BitPlane → ℕ → ℕ → ℕ
above n planes x y = number (8 - n) (λ p. bit (plane_at planes (n + p)) x y)

whole_state : (n : ℕ) (planes : List BitPlane) (x y : ℕ) → n ≤ 8 → state_in 8 planes x y ≡ state_in n planes x y + 2 ^ n * above n planes x y
unfolding above
whole_state n planes x y h =
    let sides : n + (8 - n) ≡ 8 = omega arith in
    ap (λ k. state_in k planes x y) (sym sides) ∙ number_split n (8 - n) (λ p. bit (plane_at planes p) x y)

none_above : (n : ℕ) (planes : List BitPlane) (x y : ℕ) → n ≤ 8 → state_in 8 planes x y < 2 ^ n → above n planes x y ≡ 0
none_above n planes x y h small =
    let whole = whole_state n planes x y h in
    no_multiple (state_in n planes x y) (2 ^ n) (above n planes x y) (omega arith)

pub low_state : (n : ℕ) (planes : List BitPlane) (x y : ℕ) → n ≤ 8 → state_in 8 planes x y < 2 ^ n → state_in n planes x y ≡ state_in 8 planes x y
low_state n planes x y h small =
    let whole = whole_state n planes x y h in
    let none = none_above n planes x y h small in
    sym (whole ∙ rw none (let e : state_in n planes x y + 2 ^ n * 0 ≡ state_in n planes x y = omega arith in e))

same_above : (n : ℕ) (old new : List BitPlane) (x y : ℕ) → ((p : ℕ) → n ≤ p → plane_at new p ≡ plane_at old p) → above n new x y ≡ above n old x y
unfolding above
same_above n old new x y same =
    number_same (8 - n) (λ p. bit (plane_at new (n + p)) x y) (λ p. bit (plane_at old (n + p)) x y) (λ p h. ap (λ v. bit v x y) (same (n + p) (omega arith)))

-- where the planes from n on stay as they were, the new state is what the lowest n planes hold
pub low_state_after : (n : ℕ) (old new : List BitPlane) (x y : ℕ) → n ≤ 8 → state_in 8 old x y < 2 ^ n → ((p : ℕ) → n ≤ p → plane_at new p ≡ plane_at old p)
    → state_in 8 new x y ≡ state_in n new x y
low_state_after n old new x y h small same =
    let none : above n new x y ≡ 0 = same_above n old new x y same ∙ none_above n old x y h small in
    whole_state n new x y h ∙ rw none (let e : state_in n new x y + 2 ^ n * 0 ≡ state_in n new x y = omega arith in e)

pub two_at_least : (n : ℕ) → 1 ≤ n → 2 ≤ 2 ^ n
two_at_least zero h = absurd (omega arith)
two_at_least (suc n) h =
    let worth = pow-suc 2 n in
    let some : 0 < 2 ^ n = omega (arith, number_lt n (λ _. 0) (λ p h'. lit< tt)) in
    omega arith

-- ---- which cells change

-- a plane that marks where the lowest n planes hold k, as a mark of the state
pub state_mark : (n k : ℕ) (planes : List BitPlane) (cells : List ℕ) (x y : ℕ) → 1 ≤ n → n ≤ 8 → k < 2 → state_in 8 planes x y < 2 ^ n → x < 16 → y < 16
    → HasBits cells (λ u v. mark (state_in n planes u v) (k % 2 ^ n)) → bit cells x y ≡ mark (state_in 8 planes x y) k
state_mark n k planes cells x y some few digit small hx hy h =
    let two = two_at_least n some in
    let kept : k % 2 ^ n ≡ k = mod-eq_of_lt (let e : k < 2 ^ n = omega arith in e) in
    h.bits x y hx hy ∙ rw (low_state n planes x y few small, kept) refl

-- whether a cell ages, by whether it is dead, whether it is live and whether its count lets it survive
ages_law : (dead live survives : Bool) → 1 - max (if dead then 1 else 0) (min (if live then 1 else 0) (if survives then 1 else 0))
    ≡ (if dead then 0 else (if live then (if survives then 0 else 1) else 1))
ages_law true true true = refl
ages_law true true false = refl
ages_law true false true = refl
ages_law true false false = refl
ages_law false true true = refl
ages_law false true false = refl
ages_law false false true = refl
ages_law false false false = refl

births_law : (dead born : Bool) → min (if dead then 1 else 0) (if born then 1 else 0) ≡ (if dead then (if born then 1 else 0) else 0)
births_law true true = refl
births_law true false = refl
births_law false true = refl
births_law false false = refl

pub changes_at : (r : GenerationsRule) (s n : ℕ) (dead live survives born stays settled aging births : ℕ)
    → dead ≡ mark s 0 → live ≡ mark s 1 → survives ≡ (if has r.survival n then 1 else 0) → born ≡ (if has r.birth n then 1 else 0)
    → stays ≡ min live survives → settled ≡ max dead stays → aging ≡ 1 - settled → births ≡ min dead born → ChangesAt r s n aging births
changes_at r s n dead live survives born stays settled aging births d l sv b st se a bi = record {
  ages = a ∙ rw (se, st, d, l, sv) (ages_law (s == 0) (s == 1) (has r.survival n));
  births = bi ∙ rw (d, b) (births_law (s == 0) (has r.birth n));
}

-- ---- what the changes make of a cell

number_zero : (n : ℕ) → number n (λ _. 0) ≡ 0
unfolding number
number_zero zero = refl
number_zero (suc n) = let low : number n (λ _. 0) ≡ 0 = number_zero n in omega arith

-- where the cells are cleared nothing is left, and elsewhere all
pub cleared_state : (n : ℕ) (old new : List BitPlane) (cells : List ℕ) (x y k : ℕ) → x < 16 → y < 16 → IsCleared n old cells new → bit cells x y ≡ mark (state_in n old x y) k
    → state_in n new x y ≡ (if state_in n old x y == k then 0 else state_in n old x y)
cleared_state n old new cells x y k hx hy h is = elim (eqb_tells (state_in n old x y) k) [
  | inl same ↦
      let set : bit cells x y ≡ 1 = is ∙ mark_same (state_in n old x y) k same.1 in
      number_same n (λ p. bit (plane_at new p) x y) (λ _. 0) (λ p small. h.cleared p x y small hx hy ∙ rw set (let e : min (bit (plane_at old p) x y) 0 ≡ 0 = omega arith in e))
      ∙ number_zero n ∙ rw same.0 refl
  | inr other ↦
      let clear : bit cells x y ≡ 0 = is ∙ mark_other (state_in n old x y) k other.1 in
      number_same n (λ p. bit (plane_at new p) x y) (λ p. bit (plane_at old p) x y)
      (λ p small. h.cleared p x y small hx hy ∙ rw clear (let e : min (bit (plane_at old p) x y) 1 ≡ bit (plane_at old p) x y = omega (arith, bit_lt (plane_at old p) x y) in e))
      ∙ rw other.0 refl
]

-- the lowest digit, and the others
pub first_digit : (n : ℕ) (f : ℕ → ℕ) → 1 ≤ n → number n f ≡ f 0 + 2 * number (n - 1) (λ p. f (1 + p))
first_digit n f some =
    let sides : 1 + (n - 1) ≡ n = omega arith in
    ap (λ k. number k f) (sym sides) ∙ number_split 1 (n - 1) f ∙ ap (λ k. k + 2 ^ 1 * number (n - 1) (λ p. f (1 + p))) (number_one f)

-- only the lowest digit is another
number_first : (n : ℕ) (f g : ℕ → ℕ) → 1 ≤ n → ((p : ℕ) → 1 ≤ p → f p ≡ g p) → number n f + g 0 ≡ number n g + f 0
number_first n f g some same =
    let left = first_digit n f some in
    let right = first_digit n g some in
    let others : number (n - 1) (λ p. f (1 + p)) ≡ number (n - 1) (λ p. g (1 + p)) =
    number_same (n - 1) (λ p. f (1 + p)) (λ p. g (1 + p)) (λ p h. same (1 + p) (omega arith)) in
    omega arith

-- live cells are put where the state is 0
pub born_state : (n : ℕ) (old : List BitPlane) (v births : List ℕ) (x y : ℕ) → 1 ≤ n → x < 16 → y < 16 → 0 < length old
    → HasBits v (λ u w. max (bit (plane_at old 0) u w) (bit births u w)) → (bit births x y ≡ 1 → state_in n old x y ≡ 0)
    → state_in n (slice_set old 0 (record { rows = v })) x y ≡ (if bit births x y == 1 then 1 else state_in n old x y)
born_state n old v births x y some hx hy room h dead =
    let new : List BitPlane = slice_set old 0 (record { rows = v }) in
    let f : ℕ → ℕ = λ p. bit (plane_at new p) x y in
    let g : ℕ → ℕ = λ p. bit (plane_at old p) x y in
    let change : number n f + g 0 ≡ number n g + f 0 = number_first n f g some (λ p one. ap (λ u. bit u x y) (plane_set_other old 0 p v (λ e. omega (arith, e)))) in
    let first : f 0 ≡ max (g 0) (bit births x y) = ap (λ u. bit u x y) (plane_set_same old 0 v room) ∙ h.bits x y hx hy in
    elim (eqb_tells (bit births x y) 1) [
      | inl same ↦
          let none : number n g ≡ 0 = dead same.1 in
          let low : f 0 ≡ max (g 0) 1 = first ∙ ap (max (g 0)) same.1 in
          let parts = first_digit n g some in
          let is : number n f ≡ 1 = omega (arith, bit_lt (plane_at old 0) x y) in
          is ∙ rw same.0 refl
      | inr other ↦
          let no_birth : bit births x y ≡ 0 = omega (arith, bit_lt births x y, other.1) in
          let low : f 0 ≡ max (g 0) 0 = first ∙ ap (max (g 0)) no_birth in
          let is : number n f ≡ number n g = omega arith in
          is ∙ rw other.0 refl
    ]

-- ---- the step

-- a state that is below the number of states is none of the wrapped ones
kept : (c w s : ℕ) → s < c → c ≤ w → (if s % w == c % w then 0 else s % w) ≡ s
kept c w s h k =
    let small : s % w ≡ s = mod-eq_of_lt (let e : s < w = omega arith in e) in
    elim (eqb_tells w c) [
      | inl same ↦
          let none : c % w ≡ 0 = ap (λ m. c % m) same.1 ∙ mod_self c in
          elim (eqb_tells (s % w) (c % w)) [
            | inl wrapped ↦ rw wrapped.0 (sym (sym small ∙ wrapped.1 ∙ none))
            | inr other ↦ rw other.0 small
          ]
      | inr other ↦
          let most : c % w ≡ c = mod-eq_of_lt (let e : c < w = omega (arith, other.1) in e) in
          let apart : eqb (s % w) (c % w) ≡ false = ne_eqb (s % w) (c % w) (λ e. omega (arith, e, small, most)) in
          rw apart small
    ]

-- the last state is followed by 0
aged : (c w s : ℕ) → s < c → c ≤ w → (if (s + 1) % w == c % w then 0 else (s + 1) % w) ≡ (s + 1) % c
aged c w s h k = elim (eqb_tells (s + 1) c) [
  | inl last ↦ rw (last.1, eq-eqb (c % w) (c % w) refl) (sym (mod_self c))
  | inr other ↦
      let below : s + 1 < c = omega (arith, other.1) in
      kept c w (s + 1) below k ∙ sym (mod-eq_of_lt below)
]

dead_law : (b : Bool) (births rest : ℕ) → births ≡ (if b then 1 else 0) → rest ≡ 0 → (if births == 1 then 1 else rest) ≡ (if b then 1 else 0)
dead_law true births rest is none = rw is refl
dead_law false births rest is none = rw is none

live_law : (b : Bool) (aging rest stay age : ℕ) → aging ≡ (if b then 0 else 1) → (aging ≡ 0 → rest ≡ stay) → (aging ≡ 1 → rest ≡ age) → rest ≡ (if b then stay else age)
live_law true aging rest stay age is none one = none is
live_law false aging rest stay age is none one = one is

-- what the changes make of a state is the rule's next one
pub next_law : (r : GenerationsRule) (w s n aging births a : ℕ) → r.states ≤ w → s < r.states → ChangesAt r s n aging births → a ≡ (s + aging) % w
    → (if births == 1 then 1 else (if a == r.states % w then 0 else a)) ≡ next_state r s n
next_law r w s n aging births a enough below ch is =
    let rest : ℕ = if a == r.states % w then 0 else a in
    let stays : aging ≡ 0 → rest ≡ s = λ none.
    ap (λ k. if k == r.states % w then 0 else k) (is ∙ ap (λ k. k % w) (ap (λ k. s + k) none ∙ add-zero s)) ∙ kept r.states w s below enough in
    let ages : aging ≡ 1 → rest ≡ (s + 1) % r.states = λ one.
    ap (λ k. if k == r.states % w then 0 else k) (is ∙ ap (λ k. (s + k) % w) one) ∙ aged r.states w s below enough in
    elim (eqb_tells s 0) [
      | inl dead ↦
          dead_law (has r.birth n) births rest (ch.births ∙ rw dead.0 refl) (stays (ch.ages ∙ rw dead.0 refl) ∙ dead.1) ∙ rw dead.0 refl
      | inr other ↦
          let no_birth : births ≡ 0 = ch.births ∙ rw other.0 refl in
          ap (λ k. if k == 1 then 1 else rest) no_birth
          ∙ elim (eqb_tells s 1) [
            | inl live ↦
                live_law (has r.survival n) aging rest s ((s + 1) % r.states) (ch.ages ∙ rw (other.0, live.0) refl) stays ages
                ∙ rw (other.0, live.0, live.1) refl
            | inr old ↦ ages (ch.ages ∙ rw (other.0, old.0) refl) ∙ rw (other.0, old.0) refl
          ]
    ]

none_left : (b : Bool) (m : ℕ) → m ≡ 0 → (if b then 0 else m) ≡ 0
none_left true m is = refl
none_left false m is = is

no_births : (r : GenerationsRule) (s n aging births : ℕ) → ChangesAt r s n aging births → births ≡ 1 → s + aging ≡ 0
no_births r s n aging births ch born = elim (eqb_tells s 0) [
  | inl dead ↦ let still : aging ≡ 0 = ch.ages ∙ rw dead.0 refl in omega (arith, dead.1)
  | inr other ↦ let none : births ≡ 0 = ch.births ∙ rw other.0 refl in absurd (omega arith)
]

pub made : (r : GenerationsRule) (n states : ℕ) (old mid clean : List BitPlane) (ages past births v : List ℕ)
    → 1 ≤ n → n ≤ 8 → r.states ≤ 2 ^ n → states ≡ r.states → 0 < length clean
    → IsSumOfStates n old ages mid → HasBits past (λ x y. mark (state_in n mid x y) (states % 2 ^ n)) → IsCleared n mid past clean
    → HasBits v (λ x y. max (bit (plane_at clean 0) x y) (bit births x y))
    → (x y neighbours : ℕ) → x < 16 → y < 16 → state_in 8 old x y < r.states → ChangesAt r (state_in 8 old x y) neighbours (bit ages x y) (bit births x y)
    → state_in 8 (slice_set clean 0 (record { rows = v })) x y ≡ next_state r (state_in 8 old x y) neighbours
made r n states old mid clean ages past births v some few enough is room added marks cleared born x y neighbours hx hy below ch =
    let new : List BitPlane = slice_set clean 0 (record { rows = v }) in
    let small : state_in 8 old x y < 2 ^ n = omega arith in
    let rest : (p : ℕ) → n ≤ p → plane_at new p ≡ plane_at old p = λ p h.
    plane_set_other clean 0 p v (λ e. omega (arith, e)) ∙ cleared.rest p h ∙ added.rest p h in
    let sum : state_in n mid x y ≡ (state_in 8 old x y + bit ages x y) % 2 ^ n =
    added.sum x y hx hy ∙ ap (λ k. (k + bit ages x y) % 2 ^ n) (low_state n old x y few small) in
    let at_most : state_in n clean x y ≡ (if state_in n mid x y == r.states % 2 ^ n then 0 else state_in n mid x y) =
    cleared_state n mid clean past x y (r.states % 2 ^ n) hx hy cleared (marks.bits x y hx hy ∙ ap (λ k. mark (state_in n mid x y) (k % 2 ^ n)) is) in
    let dead : bit births x y ≡ 1 → state_in n clean x y ≡ 0 = λ one.
    let none : state_in n mid x y ≡ 0 = sum ∙ ap (λ k. k % 2 ^ n) (no_births r _ neighbours _ _ ch one) ∙ mod-eq_of_lt (let e : 0 < 2 ^ n = omega arith in e) in
    at_most ∙ none_left (state_in n mid x y == r.states % 2 ^ n) (state_in n mid x y) none in
    low_state_after n old new x y few small rest
    ∙ born_state n clean v births x y some hx hy room born dead
    ∙ ap (λ k. if bit births x y == 1 then 1 else k) at_most
    ∙ next_law r (2 ^ n) (state_in 8 old x y) neighbours (bit ages x y) (bit births x y) (state_in n mid x y) enough below ch sum

pub found : (r : GenerationsRule) (n : ℕ) (planes : List BitPlane) (dead live survives stays born settled aging births : List ℕ) (count : Count) (exact : List (List ℕ))
    → 1 ≤ n → n ≤ 8
    → HasBits dead (λ x y. mark (state_in n planes x y) (0 % 2 ^ n)) → HasBits live (λ x y. mark (state_in n planes x y) (1 % 2 ^ n))
    → ((x y : ℕ) → x < 14 → y < 14 → total count (x + 1) (y + 1) ≡ around_in live x y)
    → ((x y : ℕ) → x < 16 → y < 16 → MarksAt 9 exact x y (total count x y))
    → ((x y k : ℕ) → x < 16 → y < 16 → k ≤ 8 → MarksAt 9 exact x y k → bit survives x y ≡ (if has r.survival k then 1 else 0))
    → ((x y k : ℕ) → x < 16 → y < 16 → k ≤ 8 → MarksAt 9 exact x y k → bit born x y ≡ (if has r.birth k then 1 else 0))
    → HasBits stays (λ x y. min (bit live x y) (bit survives x y)) → HasBits settled (λ x y. max (bit dead x y) (bit stays x y))
    → HasBits aging (λ x y. 1 - bit settled x y) → HasBits births (λ x y. min (bit dead x y) (bit born x y))
    → (x y : ℕ) → x < 14 → y < 14 → AreBelow (2 ^ n) planes x y
    → ChangesAt r (state_in 8 planes (x + 1) (y + 1)) (live_in planes x y) (bit aging (x + 1) (y + 1)) (bit births (x + 1) (y + 1))
found r n planes dead live survives stays born settled aging births count exact some few d l counted marked sv bn st se ag bi x y hx hy all =
    let one : (u v : ℕ) → x ≤ u → u ≤ x + 2 → y ≤ v → v ≤ y + 2 → bit live u v ≡ one_if_live (state_in 8 planes u v) =
    λ u v a b e f. state_mark n 1 planes live u v some few (omega arith) (all.below u v a b e f) (omega arith) (omega arith) l in
    let nw = one x y (omega arith) (omega arith) (omega arith) (omega arith) in
    let north = one (x + 1) y (omega arith) (omega arith) (omega arith) (omega arith) in
    let ne = one (x + 2) y (omega arith) (omega arith) (omega arith) (omega arith) in
    let west = one x (y + 1) (omega arith) (omega arith) (omega arith) (omega arith) in
    let east = one (x + 2) (y + 1) (omega arith) (omega arith) (omega arith) (omega arith) in
    let sw = one x (y + 2) (omega arith) (omega arith) (omega arith) (omega arith) in
    let south = one (x + 1) (y + 2) (omega arith) (omega arith) (omega arith) (omega arith) in
    let se' = one (x + 2) (y + 2) (omega arith) (omega arith) (omega arith) (omega arith) in
    let near : around_in live x y ≡ live_in planes x y = omega arith in
    let number : total count (x + 1) (y + 1) ≡ live_in planes x y = counted x y hx hy ∙ near in
    let right : x + 1 < 16 = omega arith in
    let down : y + 1 < 16 = omega arith in
    let marks : MarksAt 9 exact (x + 1) (y + 1) (live_in planes x y) = subst (MarksAt 9 exact (x + 1) (y + 1)) number (marked (x + 1) (y + 1) right down) in
    let few_live : live_in planes x y ≤ 8 = omega (
      arith,
      bit_lt live x y,
      bit_lt live (x + 1) y,
      bit_lt live (x + 2) y,
      bit_lt live x (y + 1),
      bit_lt live (x + 2) (y + 1),
      bit_lt live x (y + 2),
      bit_lt live (x + 1) (y + 2),
      bit_lt live (x + 2) (y + 2),
    ) in
    let small : state_in 8 planes (x + 1) (y + 1) < 2 ^ n = all.below (x + 1) (y + 1) (omega arith) (omega arith) (omega arith) (omega arith) in
    changes_at r (state_in 8 planes (x + 1) (y + 1)) (live_in planes x y) _ _ _ _ _ _ _ _
    (state_mark n 0 planes dead (x + 1) (y + 1) some few (omega arith) small right down d)
    (state_mark n 1 planes live (x + 1) (y + 1) some few (omega arith) small right down l)
    (sv (x + 1) (y + 1) (live_in planes x y) right down few_live marks)
    (bn (x + 1) (y + 1) (live_in planes x y) right down few_live marks)
    (st.bits (x + 1) (y + 1) right down) (se.bits (x + 1) (y + 1) right down) (ag.bits (x + 1) (y + 1) right down) (bi.bits (x + 1) (y + 1) right down)
