-- Periods.
use Rattle.std.proofs.Common.{◌≡◌, ℕ, zero, suc, ◌+◌, ◌*◌, ◌<◌, ◌≤◌, refl, sym, ◌∙◌, ap, subst, arith, ℤ, pos, negsuc}
use Rattle.std.specs.Prelude.{List, ◌+ℤ◌, ◌*ℤ◌, neg_ℤ, Some, None, Result, Ok, Err, IfErr, IsErrAnd}
use Rattle.std.proofs.lemmas.Int.{ints}
use Rattle.generations_rule.specs.Place.{Place, moved}
use Rattle.generations_rule.specs.Rule.{GenerationsRule}
use Rattle.generations_rule.specs.Evolution.{at}
use Rattle.pattern_cells.specs.declared.cell.Cell.{Cell}
use Rattle.generation_engine.specs.Walk.{AreCellsOf}
use Rattle.map_periods.specs.declared.moves.Move.{Move}
use Rattle.generations_rule.proofs.EvolutionLaws.{runs_compose}
use Rattle.pattern_turns.proofs.PlaneLaws.{moves_commute}
use Rattle.map_periods.specs.declared.period.Period.{Period}
use Rattle.map_periods.specs.Moves.{IsMoved, IsNotMoved, IsTheMove}
use Rattle.map_periods.specs.Periods.{IsLeastPeriod, IsPeriodOf, IsRefusedWithin}
use Rattle.map_periods.specs.Laws.{HasOnePeriod, PeriodsRepeat}
use Rattle.map_periods.proofs.MoveLaws.{one_move}

-- ---- one answer

data Order (m n : ℕ) : Type 0 where
  Less : m < n → Order m n
  Equal : m ≡ n → Order m n
  Greater : n < m → Order m n

order : (m n : ℕ) → Order m n
order zero zero = Equal refl
order zero (suc n) = Less (omega arith)
order (suc m) zero = Greater (omega arith)
order (suc m) (suc n) = elim (order m n) [
  | Less h ↦ Less (omega (arith, h))
  | Equal h ↦ Equal (ap suc h)
  | Greater h ↦ Greater (omega (arith, h))
]

-- two periods of one number of generations are one
same_number : (r : GenerationsRule) (f : Place → ℕ) (g most : ℕ) (a b : Period) → IsLeastPeriod r f g most a → IsLeastPeriod r f g most b → a.generations ≡ b.generations → a ≡ b
same_number r f g most a b is_a is_b same =
    let by : a.by ≡ b.by = one_move (at r f g) (at r f (g + b.generations)) a.by b.by (subst (λ p. IsTheMove (at r f g) (at r f (g + p)) a.by) same is_a.moved) is_b.moved in
    λ i. record { generations = same i; by = by i }

pub has_one_period : HasOnePeriod
has_one_period r f g most None None is_a is_b = refl
has_one_period r f g most None (Some b) is_a is_b = absurd (is_a b.generations is_b.some is_b.within b.by.x b.by.y is_b.moved.moves)
has_one_period r f g most (Some a) None is_a is_b = absurd (is_b a.generations is_a.some is_a.within a.by.x a.by.y is_a.moved.moves)
has_one_period r f g most (Some a) (Some b) is_a is_b = elim (order a.generations b.generations) [
  | Less h ↦ absurd (is_b.least a.generations is_a.some h a.by.x a.by.y is_a.moved.moves)
  | Equal h ↦ ap Some (same_number r f g most a b is_a is_b h)
  | Greater h ↦ absurd (is_a.least b.generations is_b.some h b.by.x b.by.y is_b.moved.moves)
]

-- ---- a search

-- what a source tells, whose rule and map are still those that they were
pub told_at : (r s : GenerationsRule) (f h : Place → ℕ) (g n : ℕ) (list cells : List Cell) → s ≡ r → h ≡ f → n ≡ g → cells ≡ list → AreCellsOf (at s h n) list → AreCellsOf (at r f g) cells
told_at r s f h g n list cells rule states number same is =
    subst (λ t. AreCellsOf (at t f g) cells) rule (subst (λ k. AreCellsOf (at s k g) cells) states
    (subst (λ m. AreCellsOf (at s h m) cells) number (subst (AreCellsOf (at s h n)) (sym same) is)))

pub found : (r : GenerationsRule) (f : Place → ℕ) (g most passed : ℕ) (by : Move) → passed < most → IsTheMove (at r f g) (at r f (g + (passed + 1))) by → IsPeriodOf r f g passed None →
    IsLeastPeriod r f g most (record { generations = passed + 1; by = by })
found r f g most passed by more moved none = record {
  some = omega arith;
  within = omega (arith, more);
  moved = moved;
  least = λ p some below. none p some (omega (arith, below));
}

pub none_more : (r : GenerationsRule) (f : Place → ℕ) (g passed : ℕ) → IsPeriodOf r f g passed None → IsNotMoved (at r f g) (at r f (g + (passed + 1))) → IsPeriodOf r f g (passed + 1) None
none_more r f g passed none not p some within = elim (order p (passed + 1)) [
  | Less h ↦ none p some (omega (arith, h))
  | Equal h ↦ subst (λ n. IsNotMoved (at r f g) (at r f (g + n))) (sym h) not
  | Greater h ↦ absurd (omega (arith, h, within))
]

-- a refusal behind generations of which none is a period
pub refused_there : {F : Type 0} (r : GenerationsRule) (f : Place → ℕ) (refuses : ℕ → F → Type 0) (g most passed n : ℕ) (a b : F) → passed < most → n ≡ g + (passed + 1) → b ≡ a → refuses n a → IsPeriodOf r f g passed None →
    IsRefusedWithin r f refuses g most b
refused_there r f refuses g most passed n a b more number same refused none =
    (passed + 1, (omega (arith, more), (subst (λ fault. refuses (g + (passed + 1)) fault) (sym same) (subst (λ m. refuses m a) number refused), λ q some below. none q some (omega (arith, below)))))

-- the end of a call by another's fault
pub at_end : {A F : Type 0} (result : Result A F) (Q P : F → Type 0) → IsErrAnd result Q → ((e : F) → Q e → P e) → IfErr result P
at_end (Ok x) Q P h told = tt
at_end (Err e) Q P h told = told e h

pub none_in_all : (r : GenerationsRule) (f : Place → ℕ) (g most passed : ℕ) → most ≤ passed → IsPeriodOf r f g passed None → IsPeriodOf r f g most None
none_in_all r f g most passed all none p some within = none p some (omega (arith, all, within))

-- ---- periods again and again

times_none : (n : ℤ) → pos 0 *ℤ n ≡ pos 0
times_none (pos n) = (let none : 0 * n ≡ 0 = omega arith in ap pos none)
times_none (negsuc n) = (let none : 0 * suc n ≡ 0 = omega arith in ap (λ k. neg_ℤ (pos k)) none)

times_more : (k : ℕ) (n : ℤ) → pos (suc k) *ℤ n ≡ (pos k *ℤ n) +ℤ n
times_more k (pos n) = (let more : suc k * n ≡ k * n + n = omega arith in ap pos more)
times_more k (negsuc n) =
    let e : suc k * suc n ≡ k * suc n + suc n = omega arith in
    omega (arith, ints, e)

-- one period after any number of generations
one_more : (r : GenerationsRule) (f : Place → ℕ) (p n : ℕ) (right down : ℤ) → IsMoved f (at r f p) right down → (c : Place) → at r f (p + n) (moved c right down) ≡ at r f n c
one_more r f p n right down moves c =
    sym (runs_compose r f p n (moved c right down)) ∙ sym (moves_commute r (at r f p) right down n c) ∙ ap (λ h. at r h n c) (λ i d. moves d i)

repeated : (r : GenerationsRule) (f : Place → ℕ) (p n : ℕ) (right down : ℤ) → IsMoved f (at r f p) right down → IsMoved f (at r f (n * p)) (pos n *ℤ right) (pos n *ℤ down)
repeated r f p zero right down moves c =
    let place : moved c (pos 0 *ℤ right) (pos 0 *ℤ down) ≡ c = λ i. record { x = still c.x right i; y = still c.y down i } in
    let none : 0 * p ≡ 0 = omega arith in
    (λ i. at r f (none i) (place i))
  where
    still : (m n : ℤ) → m +ℤ (pos 0 *ℤ n) ≡ m
    still m n = ap (λ k. m +ℤ k) (times_none n) ∙ omega (arith, ints)
repeated r f p (suc n) right down moves c =
    let far : Place = moved c (pos n *ℤ right) (pos n *ℤ down) in
    let place : moved c (pos (suc n) *ℤ right) (pos (suc n) *ℤ down) ≡ moved far right down = λ i. record { x = further c.x n right i; y = further c.y n down i } in
    let more : suc n * p ≡ p + n * p = omega arith in
    (λ i. at r f (more i) (place i)) ∙ one_more r f p (n * p) right down moves far ∙ repeated r f p n right down moves c
  where
    further : (m : ℤ) (k : ℕ) (n : ℤ) → m +ℤ (pos (suc k) *ℤ n) ≡ (m +ℤ (pos k *ℤ n)) +ℤ n
    further m k n = ap (λ z. m +ℤ z) (times_more k n) ∙ omega (arith, ints)

pub periods_repeat : PeriodsRepeat
periods_repeat r f g p n right down moves c =
    sym (runs_compose r f g (n * p) (moved c (pos n *ℤ right) (pos n *ℤ down)))
    ∙ repeated r (at r f g) p n right down (λ d. runs_compose r f g p (moved d right down) ∙ moves d) c
