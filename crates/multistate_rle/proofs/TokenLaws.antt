-- The canonical token list of a finite set of cells: one exists, and only one.
use Rattle.std.proofs.Common.{◌≡◌, ◌≢◌, ℕ, zero, suc, ◌+◌, ◌≤◌, ◌-◌, Bool, true, false, List, [], ◌∷◌, ◌++◌, refl, sym, ◌∙◌, ap, arith, inl, inr, eq-eqb, subst, one-add}
use Rattle.std.specs.Prelude.{◌==◌, ◌&&◌, ◌||◌, nat_lt, not, if◌then◌else◌}
use Rattle.std.proofs.lemmas.Bool.{ne_eqb, eqb-true, eqb-false}
use Rattle.std.proofs.lemmas.Bool.Decides.{nat_tests}
use Rattle.pattern_cells.specs.declared.pattern.PatternCell.{PatternCell}
use Rattle.pattern_cells.specs.Pattern.{precedes, are_sorted, are_alive}
use Rattle.multistate_rle.specs.Tokens.{Token, Cells, Rows, cells_in_row, cells_drawn, AreCanonical, skip, gap, with_run, tokens_from}
use Rattle.generations_rule.specs.RuleText.{text_of}
use Rattle.multistate_rle.specs.Bounds.{bounds_of, in_box}
use Rattle.multistate_rle.specs.Writing.{head_lines, body}
use Rattle.multistate_rle.specs.Laws.{HasTokens, HasOneTokenList, CellsHaveOneText}
use Rattle.multistate_rle.proofs.PatternLaws.{IsFrom, AreFrom, and_parts}

same_eqb : (s : ℕ) → (s == s) ≡ true
same_eqb s = eq-eqb s s refl

cell : ℕ → ℕ → ℕ → PatternCell
cell column row state = record { column = column; row = row; state = state }

-- ---- what the list of the cells draws

with_one_at : (same : Bool) (s m t : ℕ) (tokens : List Token) (c r : ℕ) → s ≢ 0 → (s == t) ≡ same →
    cells_drawn (with_run 1 s (Cells m t ∷ tokens)) c r ≡ cell c r s ∷ cells_drawn (Cells m t ∷ tokens) (c + 1) r
unfolding cell
with_one_at true s m t tokens c r alive e =
    let is : s ≡ t = eqb-true s t e in
    let other : t ≢ 0 = λ dead. alive (is ∙ dead) in
    let further : c + suc m ≡ c + 1 + m = omega arith in
    rw (e, ne_eqb t 0 other, one-add, further, is) refl
with_one_at false s m t tokens c r alive e = rw (e, ne_eqb s 0 alive) refl

with_one : (s : ℕ) (tokens : List Token) (c r : ℕ) → s ≢ 0 → cells_drawn (with_run 1 s tokens) c r ≡ cell c r s ∷ cells_drawn tokens (c + 1) r
unfolding cell
with_one s [] c r alive = rw (ne_eqb s 0 alive) refl
with_one s (Cells m t ∷ tokens) c r alive = with_one_at (s == t) s m t tokens c r alive refl
with_one s (Rows m ∷ tokens) c r alive = rw (ne_eqb s 0 alive) refl

skips : (k : ℕ) (tokens : List Token) (c r : ℕ) → cells_drawn (skip k ++ tokens) c r ≡ cells_drawn tokens (c + k) r
skips zero tokens c r = let same : c ≡ c + 0 = omega arith in ap (λ n. cells_drawn tokens n r) same
skips (suc k) tokens c r = refl

gap_at : (same : Bool) (x : PatternCell) (tokens : List Token) (c r : ℕ) → (x.row == r) ≡ same → IsFrom c r x →
    cells_drawn ((if same then skip (x.column - c) else Rows (x.row - r) ∷ skip x.column) ++ tokens) c r ≡ cells_drawn tokens x.column x.row
gap_at true x tokens c r e (inl below) = absurd (let is : x.row ≡ r = eqb-true x.row r e in omega arith)
gap_at true x tokens c r e (inr same) =
    let column : c + (x.column - c) ≡ x.column = omega (arith, same.1) in
    skips (x.column - c) tokens c r ∙ (λ i. cells_drawn tokens (column i) (sym same.0 i))
gap_at false x tokens c r e (inl below) =
    let column : 0 + x.column ≡ x.column = omega arith in
    let row : r + (x.row - r) ≡ x.row = omega arith in
    skips x.column tokens 0 (r + (x.row - r)) ∙ (λ i. cells_drawn tokens (column i) (row i))
gap_at false x tokens c r e (inr same) = absurd (eqb-false x.row r e same.0)

gap_draws : (x : PatternCell) (tokens : List Token) (c r : ℕ) → IsFrom c r x → cells_drawn (gap c r x ++ tokens) c r ≡ cells_drawn tokens x.column x.row
gap_draws x tokens c r from = gap_at (x.row == r) x tokens c r refl from

not_dead : (s : ℕ) → not (s == 0) ≡ true → s ≢ 0
not_dead s e dead = let is : not (s == 0) ≡ false = rw dead refl in absurd (cc)

all_drawn : (cells : List PatternCell) (c r : ℕ) → AreFrom c r cells → are_alive cells ≡ true → cells_drawn (tokens_from c r cells) c r ≡ cells
unfolding cell
all_drawn [] c r from alive = refl
all_drawn (x ∷ cells) c r from alive =
    let parts = and_parts (not (x.state == 0)) (are_alive cells) alive in
    gap_draws x (with_run 1 x.state (tokens_from (x.column + 1) x.row cells)) c r from.0
    ∙ with_one x.state (tokens_from (x.column + 1) x.row cells) x.column x.row (not_dead x.state parts.0)
    ∙ ap (λ rest. x ∷ rest) (all_drawn cells (x.column + 1) x.row from.1 parts.1)

-- ---- the list of the cells is canonical

recounted : (m n t : ℕ) (tokens : List Token) → 1 ≤ n → AreCanonical (Cells m t ∷ tokens) → AreCanonical (Cells n t ∷ tokens)
recounted m n t [] some h = (some, h.1)
recounted m n t (Cells k u ∷ tokens) some h = (some, h.1, h.2)
recounted m n t (Rows k ∷ tokens) some h = (some, h.1, h.2)

one_canonical_at : (same : Bool) (s m t : ℕ) (tokens : List Token) → (s == t) ≡ same → AreCanonical (Cells m t ∷ tokens) → AreCanonical (with_run 1 s (Cells m t ∷ tokens))
one_canonical_at true s m t tokens e h = rw e (recounted m (1 + m) t tokens (omega arith) h)
one_canonical_at false s m t tokens e h = rw e (omega arith, eqb-false s t e, h)

one_canonical : (s : ℕ) (tokens : List Token) → s ≢ 0 → AreCanonical tokens → AreCanonical (with_run 1 s tokens)
one_canonical s [] alive h = (omega arith, alive)
one_canonical s (Cells m t ∷ tokens) alive h = one_canonical_at (s == t) s m t tokens refl h
one_canonical s (Rows m ∷ tokens) alive h = (omega arith, alive, h)

-- a list that begins with a run of a state
record BeginsWith (s : ℕ) (tokens : List Token) : Type 0 where
  count : ℕ
  rest : List Token
  is : tokens ≡ Cells count s ∷ rest

one_begins_at : (same : Bool) (s m t : ℕ) (tokens : List Token) → (s == t) ≡ same → BeginsWith s (with_run 1 s (Cells m t ∷ tokens))
one_begins_at true s m t tokens e = record { count = 1 + m; rest = tokens; is = rw e (ap (λ u. Cells (1 + m) u ∷ tokens) (sym (eqb-true s t e))) }
one_begins_at false s m t tokens e = record { count = 1; rest = Cells m t ∷ tokens; is = rw e refl }

one_begins : (s : ℕ) (tokens : List Token) → BeginsWith s (with_run 1 s tokens)
one_begins s [] = record { count = 1; rest = []; is = refl }
one_begins s (Cells m t ∷ tokens) = one_begins_at (s == t) s m t tokens refl
one_begins s (Rows m ∷ tokens) = record { count = 1; rest = Rows m ∷ tokens; is = refl }

skip_canonical : (k s : ℕ) (tokens : List Token) → s ≢ 0 → BeginsWith s tokens → AreCanonical tokens → AreCanonical (skip k ++ tokens)
skip_canonical zero s tokens alive begins h = h
skip_canonical (suc k) s tokens alive begins h =
    subst (λ ts. AreCanonical (Cells (suc k) 0 ∷ ts)) (sym begins.is) (omega arith, λ dead. alive (sym dead), subst (λ ts. AreCanonical ts) begins.is h)

rows_canonical : (d k s : ℕ) (tokens : List Token) → 1 ≤ d → s ≢ 0 → BeginsWith s tokens → AreCanonical tokens → AreCanonical (Rows d ∷ (skip k ++ tokens))
rows_canonical d zero s tokens some alive begins h = subst (λ ts. AreCanonical (Rows d ∷ ts)) (sym begins.is) (some, tt, subst (λ ts. AreCanonical ts) begins.is h)
rows_canonical d (suc k) s tokens some alive begins h = (some, tt, skip_canonical (suc k) s tokens alive begins h)

gap_canonical_at : (same : Bool) (x : PatternCell) (tokens : List Token) (c r : ℕ) → (x.row == r) ≡ same → IsFrom c r x → x.state ≢ 0 → BeginsWith x.state tokens → AreCanonical tokens →
    AreCanonical ((if same then skip (x.column - c) else Rows (x.row - r) ∷ skip x.column) ++ tokens)
gap_canonical_at true x tokens c r e from alive begins h = skip_canonical (x.column - c) x.state tokens alive begins h
gap_canonical_at false x tokens c r e (inl below) alive begins h = rows_canonical (x.row - r) x.column x.state tokens (omega arith) alive begins h
gap_canonical_at false x tokens c r e (inr same) alive begins h = absurd (eqb-false x.row r e same.0)

all_canonical : (cells : List PatternCell) (c r : ℕ) → AreFrom c r cells → are_alive cells ≡ true → AreCanonical (tokens_from c r cells)
all_canonical [] c r from alive = tt
all_canonical (x ∷ cells) c r from alive =
    let parts = and_parts (not (x.state == 0)) (are_alive cells) alive in
    let dead = not_dead x.state parts.0 in
    let rest = tokens_from (x.column + 1) x.row cells in
    gap_canonical_at (x.row == r) x (with_run 1 x.state rest) c r refl from.0 dead (one_begins x.state rest)
    (one_canonical x.state rest dead (all_canonical cells (x.column + 1) x.row from.1 parts.1))

-- ---- sorted cells stand behind the first place

from_order : (a b : PatternCell) (below : Bool) → nat_lt a.row b.row ≡ below → precedes a b ≡ true → IsFrom (a.column + 1) a.row b
from_order a b true e p = inl (grind (arith, nat_tests))
from_order a b false e p =
    let rest : (nat_lt a.row b.row || (a.row == b.row && nat_lt a.column b.column)) ≡ true = p in
    let both : (a.row == b.row && nat_lt a.column b.column) ≡ true = rw e at rest in
    let parts = and_parts (a.row == b.row) (nat_lt a.column b.column) both in
    inr (sym (eqb-true a.row b.row parts.0), grind (arith, nat_tests, parts.1))

pub later_from : (a : PatternCell) (cells : List PatternCell) → are_sorted (a ∷ cells) ≡ true → AreFrom (a.column + 1) a.row cells
later_from a [] sorted = tt
later_from a (b ∷ cells) sorted =
    let parts = and_parts (precedes a b) (are_sorted (b ∷ cells)) sorted in
    (from_order a b (nat_lt a.row b.row) refl parts.0, later_from b cells parts.1)

first_from : (row column : ℕ) (x : PatternCell) → x.row ≡ row → IsFrom 0 0 x
first_from zero column x is = inr (is, omega arith)
first_from (suc row) column x is = inl (omega arith)

pub all_from : (cells : List PatternCell) → are_sorted cells ≡ true → AreFrom 0 0 cells
all_from [] sorted = tt
all_from (x ∷ cells) sorted = (first_from x.row x.column x refl, later_from x cells sorted)

pub has_tokens : HasTokens
has_tokens cells sorted alive = record {
  canonical = all_canonical cells 0 0 (all_from cells sorted) alive;
  draws = all_drawn cells 0 0 (all_from cells sorted) alive;
}

-- ---- and it is the only one

run_both_at : (same : Bool) (n m s k t : ℕ) (tokens : List Token) → (s == t) ≡ same →
    with_run n s (with_run m s (Cells k t ∷ tokens)) ≡ with_run (n + m) s (Cells k t ∷ tokens)
run_both_at true n m s k t tokens e = let sum : n + (m + k) ≡ (n + m) + k = omega arith in rw (e, e, sum) refl
run_both_at false n m s k t tokens e = rw (e, same_eqb s) refl

run_both : (n m s : ℕ) (tokens : List Token) → with_run n s (with_run m s tokens) ≡ with_run (n + m) s tokens
run_both n m s [] = rw (same_eqb s) refl
run_both n m s (Cells k t ∷ tokens) = run_both_at (s == t) n m s k t tokens refl
run_both n m s (Rows k ∷ tokens) = rw (same_eqb s) refl

no_gap_at : (x : PatternCell) → gap x.column x.row x ≡ []
no_gap_at x = let none : x.column - x.column ≡ 0 = omega arith in rw (same_eqb x.row, none) refl

-- the tokens before a cell, and those from it on
regap : (c r : ℕ) (x : PatternCell) (cells : List PatternCell) → tokens_from c r (x ∷ cells) ≡ gap c r x ++ tokens_from x.column x.row (x ∷ cells)
regap c r x cells = ap (λ none. gap c r x ++ (none ++ with_run 1 x.state (tokens_from (x.column + 1) x.row cells))) (sym (no_gap_at x))

row_tokens : (n s c r : ℕ) (cells : List PatternCell) → tokens_from c r (cells_in_row (suc n) s c r ++ cells) ≡ with_run (suc n) s (tokens_from (c + suc n) r cells)
unfolding cell
row_tokens zero s c r cells =
    ap (λ none. none ++ with_run 1 s (tokens_from (c + 1) r cells)) (no_gap_at (cell c r s))
row_tokens (suc n) s c r cells =
    let place : c + 1 + suc n ≡ c + suc (suc n) = omega arith in
    let sum : 1 + suc n ≡ suc (suc n) = omega arith in
    ap (λ none. none ++ with_run 1 s (tokens_from (c + 1) r (cells_in_row (suc n) s (c + 1) r ++ cells))) (no_gap_at (cell c r s))
    ∙ ap (with_run 1 s) (row_tokens n s (c + 1) r cells)
    ∙ run_both 1 (suc n) s (tokens_from (c + 1 + suc n) r cells)
    ∙ (λ i. with_run (sum i) s (tokens_from (place i) r cells))

pub if_dead : (s : ℕ) (xs ys : List PatternCell) → s ≢ 0 → (if s == 0 then xs else ys) ≡ ys
if_dead s xs ys alive = rw (ne_eqb s 0 alive) refl

pub counted : (n s : ℕ) (rest : List Token) → AreCanonical (Cells n s ∷ rest) → 1 ≤ n
counted n s [] h = h.0
counted n s (b ∷ rest) h = h.0

run_stays : (n s : ℕ) (rest : List Token) → AreCanonical (Cells n s ∷ rest) → with_run n s rest ≡ Cells n s ∷ rest
run_stays n s [] h = refl
run_stays n s (Cells m t ∷ rest) h = rw (ne_eqb s t h.1) refl
run_stays n s (Rows m ∷ rest) h = refl

pub rest_canonical : (a : Token) (rest : List Token) → AreCanonical (a ∷ rest) → AreCanonical rest
rest_canonical a [] h = tt
rest_canonical a (b ∷ rest) h = h.2

-- the first cell that a list draws
pub record DrawsFirst (tokens : List Token) (c r : ℕ) : Type 0 where
  pub first : PatternCell
  pub later : List PatternCell
  pub is : cells_drawn tokens c r ≡ first ∷ later
  pub row : first.row ≡ r

live_first : (m t : ℕ) (rest : List Token) (c r : ℕ) → t ≢ 0 → 1 ≤ m → DrawsFirst (Cells m t ∷ rest) c r
unfolding cell
live_first zero t rest c r alive some = absurd (omega arith)
live_first (suc m) t rest c r alive some =
    record { first = cell c r t; later = cells_in_row m t (c + 1) r ++ cells_drawn rest (c + suc m) r; is = rw (ne_eqb t 0 alive) refl; row = refl }

dead_first : (m : ℕ) (rest : List Token) (c r : ℕ) → AreCanonical (Cells m 0 ∷ rest) → DrawsFirst (Cells m 0 ∷ rest) c r
dead_first m [] c r h = absurd (h.1 refl)
dead_first m (Cells n t ∷ rest) c r h =
    let next : DrawsFirst (Cells n t ∷ rest) (c + m) r = live_first n t rest (c + m) r (λ dead. h.1 (sym dead)) (counted n t rest h.2) in
    record { first = next.first; later = next.later; is = next.is; row = next.row }
dead_first m (Rows n ∷ rest) c r h = absurd (h.1 refl)

pub some_first : (dead : Bool) (m t : ℕ) (rest : List Token) (c r : ℕ) → (t == 0) ≡ dead → AreCanonical (Cells m t ∷ rest) → DrawsFirst (Cells m t ∷ rest) c r
some_first true m t rest c r e h =
    let is : t ≡ 0 = eqb-true t 0 e in
    subst (λ u. DrawsFirst (Cells m u ∷ rest) c r) (sym is) (dead_first m rest c r (subst (λ u. AreCanonical (Cells m u ∷ rest)) is h))
some_first false m t rest c r e h = live_first m t rest c r (eqb-false t 0 e) (counted m t rest h)

-- tokens that draw first at a place behind the row's beginning
gap_row : (x : PatternCell) (c r n : ℕ) → 1 ≤ n → x.row ≡ r + n → gap c r x ≡ Rows n ∷ skip x.column
gap_row x c r n some row =
    let other : x.row ≢ r = omega arith in
    let down : x.row - r ≡ n = omega arith in
    rw (ne_eqb x.row r other, down) refl

gap_first : (x : PatternCell) (r : ℕ) → x.row ≡ r → gap 0 r x ≡ skip x.column
gap_first x r row = let column : x.column - 0 ≡ x.column = omega arith in rw (eq-eqb x.row r row, column) refl

gap_same : (n c r t : ℕ) → gap c r (cell (c + n) r t) ≡ skip n
unfolding cell
gap_same n c r t = let column : c + n - c ≡ n = omega arith in rw (same_eqb r, column) refl

rows_same : (n : ℕ) (rest : List Token) (c r : ℕ) → 1 ≤ n → DrawsFirst rest 0 (r + n) → tokens_from 0 (r + n) (cells_drawn rest 0 (r + n)) ≡ rest →
    tokens_from c r (cells_drawn rest 0 (r + n)) ≡ Rows n ∷ rest
rows_same n rest c r some first same =
    let x = first.first in
    let own : tokens_from 0 (r + n) (x ∷ first.later) ≡ skip x.column ++ tokens_from x.column x.row (x ∷ first.later) =
    regap 0 (r + n) x first.later ∙ ap (λ g. g ++ tokens_from x.column x.row (x ∷ first.later)) (gap_first x (r + n) first.row) in
    ap (tokens_from c r) first.is
    ∙ regap c r x first.later
    ∙ ap (λ g. g ++ tokens_from x.column x.row (x ∷ first.later)) (gap_row x c r n some first.row)
    ∙ ap (λ ts. Rows n ∷ ts) (sym own ∙ ap (tokens_from 0 (r + n)) (sym first.is) ∙ same)

dead_same : (n m t : ℕ) (rest : List Token) (c r : ℕ) → 1 ≤ n → 1 ≤ m → t ≢ 0 → tokens_from (c + n) r (cells_drawn (Cells m t ∷ rest) (c + n) r) ≡ Cells m t ∷ rest →
    tokens_from c r (cells_drawn (Cells m t ∷ rest) (c + n) r) ≡ Cells n 0 ∷ Cells m t ∷ rest
unfolding cell
dead_same zero m t rest c r one some alive same = absurd (omega arith)
dead_same (suc n) zero t rest c r one some alive same = absurd (omega arith)
dead_same (suc n) (suc m) t rest c r one some alive same =
    let later = cells_in_row m t (c + suc n + 1) r ++ cells_drawn rest (c + suc n + suc m) r in
    let is : cells_drawn (Cells (suc m) t ∷ rest) (c + suc n) r ≡ cell (c + suc n) r t ∷ later = rw (ne_eqb t 0 alive) refl in
    ap (tokens_from c r) is
    ∙ regap c r (cell (c + suc n) r t) later
    ∙ ap (λ g. g ++ tokens_from (c + suc n) r (cell (c + suc n) r t ∷ later)) (gap_same (suc n) c r t)
    ∙ ap (λ ts. Cells (suc n) 0 ∷ ts) (ap (tokens_from (c + suc n) r) (sym is) ∙ same)

live_same : (n s : ℕ) (rest : List Token) (c r : ℕ) → s ≢ 0 → AreCanonical (Cells n s ∷ rest) → 1 ≤ n → tokens_from (c + n) r (cells_drawn rest (c + n) r) ≡ rest →
    tokens_from c r (cells_drawn (Cells n s ∷ rest) c r) ≡ Cells n s ∷ rest
live_same zero s rest c r alive h some same = absurd (omega arith)
live_same (suc n) s rest c r alive h some same =
    ap (λ cells. tokens_from c r (cells ++ cells_drawn rest (c + suc n) r)) (if_dead s [] (cells_in_row (suc n) s c r) alive)
    ∙ row_tokens n s c r (cells_drawn rest (c + suc n) r)
    ∙ ap (with_run (suc n) s) same
    ∙ run_stays (suc n) s rest h

dead_rest : (n : ℕ) (rest : List Token) (c r : ℕ) → AreCanonical (Cells n 0 ∷ rest) → tokens_from (c + n) r (cells_drawn rest (c + n) r) ≡ rest →
    tokens_from c r (cells_drawn rest (c + n) r) ≡ Cells n 0 ∷ rest
dead_rest n [] c r h same = absurd (h.1 refl)
dead_rest n (Cells m t ∷ rest) c r h same = dead_same n m t rest c r h.0 (counted m t rest h.2) (λ dead. h.1 (sym dead)) same
dead_rest n (Rows m ∷ rest) c r h same = absurd (h.1 refl)

run_same : (dead : Bool) (n s : ℕ) (rest : List Token) (c r : ℕ) → (s == 0) ≡ dead → AreCanonical (Cells n s ∷ rest) → tokens_from (c + n) r (cells_drawn rest (c + n) r) ≡ rest →
    tokens_from c r (cells_drawn (Cells n s ∷ rest) c r) ≡ Cells n s ∷ rest
run_same true n s rest c r e h same =
    let is : s ≡ 0 = eqb-true s 0 e in
    subst (λ u. tokens_from c r (cells_drawn (Cells n u ∷ rest) c r) ≡ Cells n u ∷ rest) (sym is)
    (dead_rest n rest c r (subst (λ u. AreCanonical (Cells n u ∷ rest)) is h) same)
run_same false n s rest c r e h same = live_same n s rest c r (eqb-false s 0 e) h (counted n s rest h) same

rows_rest : (n : ℕ) (rest : List Token) (c r : ℕ) → AreCanonical (Rows n ∷ rest) → tokens_from 0 (r + n) (cells_drawn rest 0 (r + n)) ≡ rest →
    tokens_from c r (cells_drawn rest 0 (r + n)) ≡ Rows n ∷ rest
rows_rest n [] c r h same = absurd h.1
rows_rest n (Cells m t ∷ rest) c r h same = rows_same n (Cells m t ∷ rest) c r h.0 (some_first (t == 0) m t rest 0 (r + n) refl h.2) same
rows_rest n (Rows m ∷ rest) c r h same = absurd h.1

same_tokens : (tokens : List Token) (c r : ℕ) → AreCanonical tokens → tokens_from c r (cells_drawn tokens c r) ≡ tokens
same_tokens [] c r h = refl
same_tokens (Cells n s ∷ rest) c r h = run_same (s == 0) n s rest c r refl h (same_tokens rest (c + n) r (rest_canonical (Cells n s) rest h))
same_tokens (Rows n ∷ rest) c r h = rows_rest n rest c r h (same_tokens rest 0 (r + n) (rest_canonical (Rows n) rest h))

pub has_one_token_list : HasOneTokenList
has_one_token_list cells tokens is = sym (same_tokens tokens 0 0 is.canonical) ∙ ap (tokens_from 0 0) is.draws

pub has_one_text : CellsHaveOneText
has_one_text r g cells text is =
    is.spelt ∙ ap (λ tokens. head_lines (text_of r) g (bounds_of cells) ++ body (r.states == 2) tokens) (has_one_token_list (in_box (bounds_of cells) cells) is.tokens is.of_cells)
