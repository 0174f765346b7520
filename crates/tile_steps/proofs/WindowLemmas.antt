-- One generation of a window, four rows at a time.
use Rattle.std.proofs.Common.{◌≡◌, ℕ, ◌+◌, ◌-◌, ◌*◌, ◌%◌, ◌^◌, ◌<◌, ◌≤◌, List, zero, suc, zero-add, sym, ◌∙◌, ap, subst, arith}
use Rattle.std.specs.Prelude.{min}
use Rattle.generations_rule.specs.Rule.{GenerationsRule, next_state}
use Rattle.bitplane_kernel.specs.Planes.{bit}
use Rattle.bitplane_kernel.specs.Step.{one_if_live}
use Rattle.tile_steps.specs.declared.planes.RowPlane.{RowPlane}
use Rattle.tile_steps.specs.declared.window.WindowPlane.{WindowPlane}
use Rattle.tile_steps.specs.Rows.{HasBits, state_in}
use Rattle.tile_steps.specs.Steps.{AreRowsFrom, StepsRow, StepsRows, StepsWindow, live_by_rows, live_in, window_state}
use Rattle.tile_steps.specs.Windows.{IsTakenFrom, IsPutAt, ArePutAt}
use Rattle.tile_steps.proofs.CountLemmas.{mark}
use Rattle.tile_steps.proofs.StepLemmas.{state_mark}

-- a number below another, or as far behind it
pub data IsBehind (a b : ℕ) : Type 0 where
  before : a < b → IsBehind a b
  behind : (k : ℕ) → a ≡ b + k → IsBehind a b

pub is_behind : (a b : ℕ) → IsBehind a b
is_behind a zero = behind a (sym (zero-add a))
is_behind zero (suc b) = before (omega arith)
is_behind (suc a) (suc b) = elim (is_behind a b) [
  | before h ↦ before (omega arith)
  | behind k is ↦ behind k (omega arith)
]

pub live_more : (n four : ℕ) (window : List WindowPlane) (rows : List RowPlane) (live marks new : List ℕ) → 1 ≤ n
    → ((x y : ℕ) → x < 64 → y < 4 * four → bit live x y ≡ one_if_live (window_state n window x y))
    → AreRowsFrom n (4 * four) window rows → HasBits marks (λ x y. mark (state_in n rows x y) (1 % 2 ^ n)) → IsPutAt (4 * four) marks live new
    → (x y : ℕ) → x < 64 → y < 4 * (four + 1) → bit new x y ≡ one_if_live (window_state n window x y)
live_more n four window rows live marks new some so_far taken marked put x y hx hy = elim (is_behind y (4 * four)) [
  | before h ↦ put.below x y h ∙ so_far x y hx h
  | behind z is ↦
      let small : z < 4 = omega arith in
      subst (λ k. bit new x k ≡ one_if_live (window_state n window x k)) (sym is)
      (put.here x z hx small ∙ state_mark n 1 rows marks x z some (omega arith) hx small marked ∙ ap one_if_live (taken.same x z hx small))
]

-- so many fours of rows behind the margin are one generation later
pub record StepsBelow (n : ℕ) (r : GenerationsRule) (margin : ℕ) (old new : List WindowPlane) (fours : ℕ) : Type 0 where
  pub rows : (y : ℕ) → margin ≤ y → y < margin + 4 * fours → y < 62 → StepsRow n r old new y

pub steps_none : (n : ℕ) (r : GenerationsRule) (margin : ℕ) (old new : List WindowPlane) → StepsBelow n r margin old new 0
steps_none n r margin old new = record { rows = λ y low high few. absurd (omega arith) }

pub steps_all : (n : ℕ) (r : GenerationsRule) (margin fours : ℕ) (old new : List WindowPlane) → 62 ≤ 4 * fours + 2 * margin → StepsBelow n r margin old new fours → StepsWindow n r margin old new
steps_all n r margin fours old new enough done = record { rows = λ y low high. done.rows y low (omega arith) (omega arith) }

module _ (n : ℕ) (r : GenerationsRule) (margin four first : ℕ) (old mid new : List WindowPlane) (rows later : List RowPlane) (live above below : List ℕ)
    (begins : first ≡ min (1 + margin + 4 * four) 59)
    (so_far : StepsBelow n r margin old mid four)
    (lives : (x y : ℕ) → x < 64 → y < 64 → bit live x y ≡ one_if_live (window_state n old x y))
    (taken : AreRowsFrom n first old rows)
    (up : IsTakenFrom (first - 1) live above) (down : IsTakenFrom (first + 1) live below)
    (steps : StepsRows n r above rows below later)
    (put : ArePutAt n first later mid new) where
  -- the row z of the four, which is row y + 1 of the window
  own_row : (y z : ℕ) → y < 62 → z < 4 → y + 1 ≡ first + z → StepsRow n r old new y
  own_row y z few small is = record {
    inner = λ x hx states.
        let one : 1 ≤ first = omega arith in
        let above_row : first - 1 + z ≡ y = omega arith in
        let below_row : first + 1 + z ≡ y + 2 = omega arith in
        let over : (u : ℕ) → u < 64 → bit above u z ≡ one_if_live (window_state n old u y) =
        λ u h. up.same u z h small ∙ ap (bit live u) above_row ∙ lives u y h (omega arith) in
        let under : (u : ℕ) → u < 64 → bit below u z ≡ one_if_live (window_state n old u (y + 2)) =
        λ u h. down.same u z h small ∙ ap (bit live u) below_row ∙ lives u (y + 2) h (omega arith) in
        let beside : (u : ℕ) → u < 64 → state_in n rows u z ≡ window_state n old u (y + 1) =
        λ u h. taken.same u z h small ∙ ap (window_state n old u) (sym is) in
        let a = over x (omega arith) in let b = over (x + 1) (omega arith) in let c = over (x + 2) (omega arith) in
        let d = ap one_if_live (beside x (omega arith)) in let e = ap one_if_live (beside (x + 2) (omega arith)) in
        let f = under x (omega arith) in let g = under (x + 1) (omega arith) in let h = under (x + 2) (omega arith) in
        let count : live_by_rows n above rows below x z ≡ live_in n old x y = λ i. a i + b i + c i + d i + e i + f i + g i + h i in
        let self : state_in n rows (x + 1) z ≡ window_state n old (x + 1) (y + 1) = beside (x + 1) (omega arith) in
        ap (window_state n new (x + 1)) is ∙ put.here (x + 1) z (omega arith) small
        ∙ steps.inner x z hx small (subst (λ s. s < r.states) (sym self) states)
        ∙ (λ i. next_state r (self i) (count i));
  }

  earlier_row : (y : ℕ) → y + 1 < first → StepsRow n r old mid y → StepsRow n r old new y
  earlier_row y h row = record { inner = λ x hx states. put.below (x + 1) (y + 1) h ∙ row.inner x hx states }

  pub steps_more : StepsBelow n r margin old new (four + 1)
  steps_more = record {
    rows = λ y low high few. elim (is_behind (y + 1) first) [
      | before h ↦ earlier_row y h (so_far.rows y low (omega arith) few)
      | behind z is ↦ own_row y z few (omega arith) is
    ];
  }
