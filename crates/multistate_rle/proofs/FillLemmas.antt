-- Tokens that are written while a run may still grow.
use Rattle.std.proofs.Common.{◌≡◌, ◌≢◌, ℕ, zero, suc, ◌+◌, ◌-◌, ◌≤◌, ◌^◌, Bool, true, false, List, [], ◌∷◌, ◌++◌, refl, sym, ◌∙◌, ap, arith, append_assoc, map, eq-eqb, length-append, subst, drop, length, get_or, ◌<◌, drop-cons, add-one}
use Rattle.std.specs.Prelude.{◌==◌, ◌&&◌, nat_le, Option, Some, None, if◌then◌else◌, IfSome, unwrap_or, option_map, not, Result, Ok, Err, OnOk, codes}
use Rattle.std.proofs.lemmas.List.{map-append, drop_all}
use Rattle.std.proofs.lemmas.Bool.{ne_eqb}
use Rattle.std.proofs.lemmas.Fmt.{decimal_digit}
use borrow.Author.Tests.{eqb-true}
use Rattle.multistate_rle.specs.Letters.{LettersValue}
use Rattle.multistate_rle.specs.Letters.{letters_text}
use Rattle.std.proofs.lemmas.Bool.Decides.{nat_tests}
use Rattle.multistate_rle.specs.declared.lines.LineWriter.{LineWriter}
use Rattle.multistate_rle.specs.declared.lines.WritingPen.{WritingPen}
use Rattle.multistate_rle.specs.declared.lines.Run.{Run}
use Rattle.pattern_cells.specs.declared.pattern.PatternCell.{PatternCell}
use Rattle.multistate_rle.specs.Tokens.{Token, Cells, Rows, with_run, tokens_from, gap, skip}
use Rattle.std.proofs.lemmas.List.Folds.{list_all_at}
use Rattle.pattern_cells.specs.declared.cell.Cell.{Cell}
use Rattle.multistate_rle.specs.Bounds.{BoundsValue}
use Rattle.multistate_rle.specs.Bounds.{seen_from}
use Rattle.pattern_cells.specs.Cells.{are_nonzero}
use Rattle.multistate_rle.specs.Writing.{token_text, wrapped, count_text, spelling}
use Rattle.multistate_rle.specs.Filling.{run_tokens, tokens_with, extends, extends_run, WritesPieces, WritesCell, text_with, no_pen}

-- ---- runs

same_eqb : (s : ℕ) → (s == s) ≡ true
same_eqb s = eq-eqb s s refl

run_grows_at : (b : Bool) (n m s t : ℕ) (tokens : List Token) → (s == t) ≡ b →
    with_run n s (with_run 1 s (Cells m t ∷ tokens)) ≡ with_run (n + 1) s (Cells m t ∷ tokens)
run_grows_at true n m s t tokens e = let sum : n + (1 + m) ≡ (n + 1) + m = omega arith in rw (e, e, sum) refl
run_grows_at false n m s t tokens e = rw (e, same_eqb s) refl

-- a run that grows by one
pub run_grows : (n s : ℕ) (tokens : List Token) → with_run n s (with_run 1 s tokens) ≡ with_run (n + 1) s tokens
run_grows n s [] = rw (same_eqb s) refl
run_grows n s (Cells m t ∷ tokens) = run_grows_at (s == t) n m s t tokens refl
run_grows n s (Rows m ∷ tokens) = rw (same_eqb s) refl

run_ends_at : (b : Bool) (n s m t u : ℕ) (tokens : List Token) → s ≢ t → (t == u) ≡ b →
    with_run n s (with_run 1 t (Cells m u ∷ tokens)) ≡ Cells n s ∷ with_run 1 t (Cells m u ∷ tokens)
run_ends_at true n s m t u tokens differ e =
    let other : s ≢ u = λ same. differ (same ∙ sym (eqb-true t u e)) in
    rw (e, ne_eqb s u other) refl
run_ends_at false n s m t u tokens differ e = rw (e, ne_eqb s t differ) refl

-- a run of another state stays a token of its own
run_ends : (n s t : ℕ) (tokens : List Token) → s ≢ t → with_run n s (with_run 1 t tokens) ≡ Cells n s ∷ with_run 1 t tokens
run_ends n s t [] differ = rw (ne_eqb s t differ) refl
run_ends n s t (Cells m u ∷ tokens) differ = run_ends_at (t == u) n s m t u tokens differ refl
run_ends n s t (Rows m ∷ tokens) differ = rw (ne_eqb s t differ) refl

-- ---- a run and the gap behind it

skip_ends : (n s k : ℕ) (tokens : List Token) → s ≢ 0 → (k ≡ 0 → with_run n s tokens ≡ Cells n s ∷ tokens) → with_run n s (skip k ++ tokens) ≡ Cells n s ∷ (skip k ++ tokens)
skip_ends n s zero tokens alive ends = ends refl
skip_ends n s (suc k) tokens alive ends = rw (ne_eqb s 0 alive) refl

gap_ends : (same_row : Bool) (k d column n s t : ℕ) (tokens : List Token) → s ≢ 0 → (same_row ≡ true → k ≡ 0 → s ≢ t) →
    with_run n s ((if same_row then skip k else Rows d ∷ skip column) ++ with_run 1 t tokens)
    ≡ Cells n s ∷ ((if same_row then skip k else Rows d ∷ skip column) ++ with_run 1 t tokens)
gap_ends true k d column n s t tokens alive differ = skip_ends n s k (with_run 1 t tokens) alive (λ none. run_ends n s t tokens (differ refl none))
gap_ends false k d column n s t tokens alive differ = refl

differs : (pen : WritingPen) (cell : PatternCell) (r : Run) → extends_run pen cell r ≡ None → (cell.row == pen.row) ≡ true → cell.column - pen.column ≡ 0 → r.state ≢ cell.state
differs pen cell r none same_row no_gap same =
    let near : nat_le cell.column pen.column ≡ true = grind (arith, nat_tests) in
    let alike : (r.state == cell.state) ≡ true = eq-eqb r.state cell.state same in
    let some : extends_run pen cell r ≡ Some r = rw (same_row, near, alike) refl in
    absurd (cc)

parted_at : (run : Option Run) (pen : WritingPen) (cell : PatternCell) (tokens : List Token) → IfSome run (λ r. r.state ≢ 0) →
    ((r : Run) → run ≡ Some r → extends_run pen cell r ≡ None) →
    run_tokens run (gap pen.column pen.row cell ++ with_run 1 cell.state tokens)
    ≡ run_tokens run [] ++ (gap pen.column pen.row cell ++ with_run 1 cell.state tokens)
parted_at None pen cell tokens alive none = refl
parted_at (Some r) pen cell tokens alive none =
    gap_ends (cell.row == pen.row) (cell.column - pen.column) (cell.row - pen.row) cell.column r.count r.state cell.state tokens alive
    (differs pen cell r (none r refl))

-- A cell that goes on no run comes behind what was not written, and the gap.
pub parted : (pen : WritingPen) (cell : PatternCell) (cells : List PatternCell) → IfSome pen.run (λ r. r.state ≢ 0) → extends pen cell ≡ None →
    tokens_with pen (cell ∷ cells)
    ≡ run_tokens pen.run [] ++ (gap pen.column pen.row cell ++ with_run 1 cell.state (tokens_from (cell.column + 1) cell.row cells))
parted pen cell cells alive none =
    parted_at pen.run pen cell (tokens_from (cell.column + 1) cell.row cells) alive (λ r is. rw is at none)

-- ---- a cell that goes on a run

all_true : (a b c : Bool) (q r : Run) → (if a && b && c then Some q else None) ≡ Some r → (a ≡ true) × (b ≡ true) × (c ≡ true) × (q ≡ r)
all_true true true true q r some = (refl, refl, refl, cc)
all_true true true false q r some = absurd (cc)
all_true true false c q r some = absurd (cc)
all_true false b c q r some = absurd (cc)

no_gap : (same_row : Bool) (k : ℕ) (rest : List Token) → same_row ≡ true → k ≡ 0 → (if same_row then skip k else rest) ≡ []
no_gap same_row k rest same none = rw (same, none) refl

-- a cell that goes on a run is of its state, and stands right behind it
pub record GoesOn (pen : WritingPen) (cell : PatternCell) (r : Run) : Type 0 where
  pub run : pen.run ≡ Some r
  pub state : r.state ≡ cell.state
  pub tokens : (cells : List PatternCell) → tokens_with pen (cell ∷ cells) ≡ with_run (r.count + 1) r.state (tokens_from (cell.column + 1) cell.row cells)

goes_on : (run : Option Run) (pen : WritingPen) (cell : PatternCell) (r : Run) → pen.run ≡ run →
    elim run [ None ↦ None | Some q ↦ extends_run pen cell q ] ≡ Some r → GoesOn pen cell r
goes_on None pen cell r is some = absurd (cc)
goes_on (Some q) pen cell r is some =
    let parts : ((cell.row == pen.row) ≡ true) × (nat_le cell.column pen.column ≡ true) × ((q.state == cell.state) ≡ true) × (q ≡ r) =
    all_true (cell.row == pen.row) (nat_le cell.column pen.column) (q.state == cell.state) q r some in
    let near : cell.column - pen.column ≡ 0 = grind (arith, nat_tests, parts.1) in
    let same : r.state ≡ cell.state = ap (λ (p : Run). p.state) (sym parts.3) ∙ eqb-true q.state cell.state parts.2 in
    let held : pen.run ≡ Some r = is ∙ ap (λ (p : Run). Some p) parts.3 in
    record {
      run = held;
      state = same;
      tokens = λ cells.
          (λ i. run_tokens (held i) (no_gap (cell.row == pen.row) (cell.column - pen.column) (Rows (cell.row - pen.row) ∷ skip cell.column) parts.0 near i ++ with_run 1 (sym same i) (tokens_from (cell.column + 1) cell.row cells)))
          ∙ run_grows r.count r.state (tokens_from (cell.column + 1) cell.row cells);
    }

pub extended : (pen : WritingPen) (cell : PatternCell) (r : Run) → extends pen cell ≡ Some r → GoesOn pen cell r
extended pen cell r some = goes_on pen.run pen cell r refl some

-- ---- pieces that are written one behind the other

pub writes_both : (two : Bool) (old mid new : LineWriter) (run gaps more tokens : List Token) →
    WritesPieces old (map (token_text two) run) mid → WritesPieces mid (map (token_text two) gaps) new → tokens ≡ run ++ (gaps ++ more) →
    (rest : List (List ℕ)) → text_with new (map (token_text two) more ++ rest) ≡ text_with old (map (token_text two) tokens ++ rest)
writes_both two old mid new run gaps more tokens first second is rest =
    second.text (map (token_text two) more ++ rest)
    ∙ first.text (map (token_text two) gaps ++ (map (token_text two) more ++ rest))
    ∙ ap (text_with old) (rw (is, map-append, map-append, append_assoc, append_assoc) refl)

pub alive_run : (run : Option Run) → IfSome run (λ r. (r.state ≢ 0) × (r.count + 1 ≤ 2 ^ 63)) → IfSome run (λ r. r.state ≢ 0)
alive_run None held = held
alive_run (Some r) held = held.0

-- ---- all cells

-- what is written, with the cells still to come behind it
pub record Written (old : LineWriter) (bounds : BoundsValue) (cells : List Cell) (passed : ℕ) (pen : WritingPen) (new : LineWriter) : Type 0 where
  pub text : (rest : List (List ℕ)) →
      text_with new (map (token_text old.two_states) (tokens_with pen (map (seen_from bounds.x bounds.y) (drop passed cells))) ++ rest)
      ≡ text_with old (map (token_text old.two_states) (tokens_with no_pen (map (seen_from bounds.x bounds.y) cells)) ++ rest)
  pub two_states : new.two_states ≡ old.two_states
  pub run : IfSome pen.run (λ r. (r.state ≢ 0) × (r.count ≤ passed))

run_count : (run : Option Run) (n : ℕ) → IfSome run (λ r. (r.state ≢ 0) × (r.count ≤ n)) → unwrap_or (option_map (λ (r : Run). r.count) run) 0 ≤ n
run_count None n held = omega arith
run_count (Some r) n held = held.1

run_more : (run : Option Run) (m n : ℕ) → m ≤ n → IfSome run (λ r. (r.state ≢ 0) × (r.count ≤ m + 1)) → IfSome run (λ r. (r.state ≢ 0) × (r.count ≤ n + 1))
run_more None m n le held = held
run_more (Some r) m n le held = (held.0, omega (arith, held.1))

pub cell_written : (old mid new : LineWriter) (bounds : BoundsValue) (cells : List Cell) (i : ℕ) (d : Cell) (pen next : WritingPen) (cell : PatternCell) →
    i < length cells → cell ≡ seen_from bounds.x bounds.y (get_or cells i d) →
    Written old bounds cells i pen mid → WritesCell mid pen cell next new → Written old bounds cells (i + 1) next new
cell_written old mid new bounds cells i d pen next cell within is so_far step =
    let later : List PatternCell = map (seen_from bounds.x bounds.y) (drop (i + 1) cells) in
    let more : map (seen_from bounds.x bounds.y) (drop i cells) ≡ cell ∷ map (seen_from bounds.x bounds.y) (drop (i + 1) cells) =
    rw (add-one, is) (ap (map (seen_from bounds.x bounds.y)) (drop-cons cells i d within)) in
    record {
      text = λ rest.
          subst (λ two. text_with new (map (token_text two) (tokens_with next later) ++ rest) ≡ text_with mid (map (token_text two) (tokens_with pen (cell ∷ later)) ++ rest))
          so_far.two_states (step.text later rest)
          ∙ ap (λ seen. text_with mid (map (token_text old.two_states) (tokens_with pen seen) ++ rest)) (sym more)
          ∙ so_far.text rest;
      two_states = step.two_states ∙ so_far.two_states;
      run = run_more next.run _ i (run_count pen.run i so_far.run) step.run;
    }

on_ok : {A E : Type 0} (r : Result A E) (P Q : Type 0) → (P → Q) → OnOk r P → OnOk r Q
on_ok (Ok x) P Q f held = f held
on_ok (Err e) P Q f held = held

pub all_written : {A E : Type 0} (r : Result A E) (old mid new : LineWriter) (bounds : BoundsValue) (cells : List Cell) (i : ℕ) (pen : WritingPen) →
    length cells ≤ i → Written old bounds cells i pen mid → OnOk r (WritesPieces mid (map (token_text mid.two_states) (run_tokens pen.run [])) new) →
    OnOk r (WritesPieces old (map (token_text old.two_states) (tokens_with no_pen (map (seen_from bounds.x bounds.y) cells))) new)
all_written r old mid new bounds cells i pen past so_far =
    on_ok r _ _ (λ last. record {
      text = λ rest.
          last.text rest
          ∙ ap (λ two. text_with mid (map (token_text two) (run_tokens pen.run []) ++ rest)) so_far.two_states
          ∙ ap (λ seen. text_with mid (map (token_text old.two_states) (tokens_with pen (map (seen_from bounds.x bounds.y) seen)) ++ rest)) (sym (drop_all i cells past))
          ∙ so_far.text rest;
      two_states = last.two_states ∙ so_far.two_states;
    })

pub body_written : (text : List ℕ) (two : Bool) (pieces : List (List ℕ)) (mark : List ℕ) (first mid last : LineWriter) →
    first.text.items ≡ text → first.used ≡ 0 → WritesPieces first pieces mid → WritesPieces mid (mark ∷ []) last →
    last.text.items ++ codes "\n" ≡ text ++ wrapped 0 (pieces ++ mark ∷ [])
body_written text two pieces mark first mid last is none cells end =
    end.text [] ∙ cells.text (mark ∷ []) ∙ (λ i. is i ++ wrapped (none i) (pieces ++ mark ∷ []))

-- a cell of a list without dead ones
pub alive_at : (cells : List Cell) (i : ℕ) (d : Cell) → i < length cells → are_nonzero cells ≡ true → (get_or cells i d).state ≢ 0
alive_at cells i d within alive dead =
    let fails : not ((get_or cells i d).state == 0) ≡ false = rw dead refl in
    let none : are_nonzero cells ≡ false = list_all_at (λ (cell : Cell). not (cell.state == 0)) cells i d within fails in
    absurd (cc)

-- ---- one piece

-- a count of one digit
pub short_count : (count : ℕ) → count ≤ 9 → (count == 1) ≡ false → count_text count ≡ (48 + count) ∷ []
short_count count short more = rw (more, decimal_digit count (omega arith)) refl

on_its_line : (fits : Bool) (items piece : List ℕ) (used len : ℕ) (rest : List (List ℕ)) →
    ((if fits then items else items ++ codes "\n") ++ piece) ++ wrapped ((if fits then used else 0) + len) rest
    ≡ items ++ (if fits then piece ++ wrapped (used + len) rest else codes "\n" ++ piece ++ wrapped len rest)
on_its_line true items piece used len rest = append_assoc items piece (wrapped (used + len) rest)
on_its_line false items piece used len rest =
    let none : 0 + len ≡ len = omega arith in
    append_assoc (items ++ codes "\n") piece (wrapped (0 + len) rest) ∙ append_assoc items (codes "\n") (piece ++ wrapped (0 + len) rest)
    ∙ ap (λ k. items ++ (codes "\n" ++ (piece ++ wrapped k rest))) none

-- one digit and the letters
pub short_longer : (count : ℕ) (letters : LettersValue) → count ≤ 9 → (count == 1) ≡ false → length (spelling count letters) ≡ 1 + length (letters_text letters)
short_longer count letters short more =
    length-append (count_text count) (letters_text letters) ∙ ap (λ (digits : List ℕ). length digits + length (letters_text letters)) (short_count count short more)

-- a piece is written where there is room for it, or on the next line
pub piece_written : (old new : LineWriter) (piece : List ℕ) (len : ℕ) → length piece ≡ len →
    new.text.items ≡ (if nat_le (old.used + len) 70 then old.text.items else old.text.items ++ codes "\n") ++ piece →
    new.used ≡ (if nat_le (old.used + len) 70 then old.used else 0) + len → new.two_states ≡ old.two_states → WritesPieces old (piece ∷ []) new
piece_written old new piece len long text used two_states = record {
  text = λ rest.
      (λ i. text i ++ wrapped (used i) rest)
      ∙ on_its_line (nat_le (old.used + len) 70) old.text.items piece old.used len rest
      ∙ ap (λ k. old.text.items ++ (if nat_le (old.used + k) 70 then piece ++ wrapped (old.used + k) rest else codes "\n" ++ piece ++ wrapped k rest)) (sym long);
  two_states = two_states;
}
