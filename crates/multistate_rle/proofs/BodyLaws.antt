-- What is written of cells, behind any header, is read as the cells.
use Rattle.std.proofs.Common.{◌≡◌, ◌≢◌, ℕ, zero, suc, ◌+◌, ◌-◌, ◌/◌, ◌%◌, ◌≤◌, ◌<◌, ◌^◌, Bool, true, false, List, [], ◌∷◌, ◌++◌, refl, sym, ◌∙◌, ap, arith, inl, subst, append_assoc, append-nil, length, length-append, map}
use Rattle.std.specs.Prelude.{Some, None, Ok, ◌==◌, ◌&&◌, ◌||◌, not, nat_lt, nat_le, if◌then◌else◌, ⊤, codes, decimal}
use Rattle.std.specs.List.{list_all, enumerate_from}
use Rattle.std.specs.Str.Parse.{digits_value, AllDigits}
use Rattle.std.proofs.lemmas.Fmt.{decimal_is_IsNumeral}
use Rattle.std.proofs.lemmas.List.Folds.{list_all-append}
use Rattle.std.proofs.lemmas.Bool.{ne_eqb, eqb-true, eqb-false}
use Rattle.std.proofs.lemmas.Bool.Decides.{nat_tests}
use Rattle.pattern_cells.specs.declared.pattern.PatternCell.{PatternCell}
use Rattle.multistate_rle.specs.declared.line.LineProgress.TheVariants.{Start, Inside}
use Rattle.text_scan.specs.Bytes.{is_decimal_digit, is_space_or_tab, ends_line}
use Rattle.multistate_rle.specs.Letters.{letters_of, letters_text, plain}
use Rattle.multistate_rle.specs.Tokens.{Token, Cells, Rows, run, cells_in_row, cells_drawn, AreCanonical, count_of, skip, with_run, tokens_from, IsTokensOf}
use Rattle.multistate_rle.specs.Reading.{Pen, bytes_of, start, fault_of, pen_after, cells_of, AreFine, bare, lines_of, pattern_of}
use Rattle.multistate_rle.specs.Writing.{count_text, spelling, token_text, wrapped, body}
use Rattle.multistate_rle.proofs.LetterLaws.{written_letters}
use Rattle.multistate_rle.specs.Spelling.{IsCount, IsTag, IsSpelling}
use Rattle.multistate_rle.specs.Laws.{ReadsBodiesBack}
use Rattle.multistate_rle.proofs.SpellingLaws.{reads_spellings}
use Rattle.multistate_rle.proofs.StepLemmas.{length_run}
use Rattle.multistate_rle.proofs.LineLemmas.{left_drops, left_keeps, left_nothing, left_is_bare}
use Rattle.multistate_rle.specs.Lines.{left}
use Rattle.multistate_rle.proofs.PatternLaws.{and_parts, fine_run, fine_rows}
use Rattle.multistate_rle.proofs.TokenLaws.{DrawsFirst, some_first, rest_canonical, counted, if_dead, has_tokens}

-- ---- states

-- no token has a greater state
pub AllStates : ℕ → List Token → Type 0
AllStates most [] = ⊤
AllStates most (Cells n s ∷ tokens) = (s ≤ most) × AllStates most tokens
AllStates most (Rows n ∷ tokens) = AllStates most tokens

one_states_at : (same : Bool) (most s m t : ℕ) (tokens : List Token) → (s == t) ≡ same → s ≤ most → AllStates most (Cells m t ∷ tokens) → AllStates most (with_run 1 s (Cells m t ∷ tokens))
unfolding AllStates
one_states_at true most s m t tokens e le h = rw e (h.0, h.1)
one_states_at false most s m t tokens e le h = rw e (le, h)

one_states : (most s : ℕ) (tokens : List Token) → s ≤ most → AllStates most tokens → AllStates most (with_run 1 s tokens)
unfolding AllStates
one_states most s [] le h = (le, tt)
one_states most s (Cells m t ∷ tokens) le h = one_states_at (s == t) most s m t tokens refl le h
one_states most s (Rows m ∷ tokens) le h = (le, h)

skip_states : (most k : ℕ) (tokens : List Token) → AllStates most tokens → AllStates most (skip k ++ tokens)
unfolding AllStates
skip_states most zero tokens h = h
skip_states most (suc k) tokens h = (omega arith, h)

gap_states : (same : Bool) (most k d c : ℕ) (tokens : List Token) → AllStates most tokens → AllStates most ((if same then skip k else Rows d ∷ skip c) ++ tokens)
unfolding AllStates
gap_states true most k d c tokens h = skip_states most k tokens h
gap_states false most k d c tokens h = skip_states most c tokens h

pub all_states : (most : ℕ) (cells : List PatternCell) (c r : ℕ) → list_all (λ cell. nat_le cell.state most) cells ≡ true → AllStates most (tokens_from c r cells)
unfolding AllStates
all_states most [] c r h = tt
all_states most (x ∷ cells) c r h =
    let parts = and_parts (nat_le x.state most) (list_all (λ cell. nat_le cell.state most) cells) h in
    gap_states (x.row == r) most (x.column - c) (x.row - r) x.column (with_run 1 x.state (tokens_from (x.column + 1) x.row cells))
    (one_states most x.state (tokens_from (x.column + 1) x.row cells) (grind (arith, nat_tests, parts.0)) (all_states most cells (x.column + 1) x.row parts.1))

-- ---- canonical tokens of cells that are few and near are not faulty

abbrev pub inside : PatternCell → Bool
inside cell = nat_lt cell.column 4294967296 && nat_lt cell.row 4294967296

row_last : (n s c r : ℕ) → list_all inside (cells_in_row (suc n) s c r) ≡ true → c + suc n ≤ 4294967296
row_last zero s c r h =
    let first = and_parts (inside (record { column = c; row = r; state = s })) true h in
    let parts = and_parts (nat_lt c 4294967296) (nat_lt r 4294967296) first.0 in
    grind (arith, nat_tests, parts.0)
row_last (suc n) s c r h =
    let parts = and_parts (inside (record { column = c; row = r; state = s })) (list_all inside (cells_in_row (suc n) s (c + 1) r)) h in
    let more = row_last n s (c + 1) r parts.1 in
    omega (arith, more)

run_fine : (pen : Pen) (n s : ℕ) → s ≤ 255 → 1 ≤ n → pen.column + n ≤ 4294967296 → pen.cells + cells_of (Cells n s) ≤ 1048576 → fault_of 0 pen (Cells n s) ≡ None
run_fine pen n s state some near few =
    let a : nat_lt 255 s ≡ false = grind (arith, nat_tests) in
    let b : (n == 0) ≡ false = ne_eqb n 0 (omega arith) in
    let c : nat_lt 4294967296 (pen.column + n) ≡ false = grind (arith, nat_tests) in
    let d : nat_lt 1048576 (pen.cells + cells_of (Cells n s)) ≡ false = grind (arith, nat_tests, few) in
    rw (a, b, c, d) refl

rows_fine : (pen : Pen) (n : ℕ) → 1 ≤ n → pen.row + n ≤ 4294967295 → fault_of 0 pen (Rows n) ≡ None
rows_fine pen n some near =
    let b : (n == 0) ≡ false = ne_eqb n 0 (omega arith) in
    let c : nat_lt 4294967295 (pen.row + n) ≡ false = grind (arith, nat_tests) in
    rw (b, c) refl

-- a run's end is near where the cells of the tokens from it on are
live_near : (n s : ℕ) (rest : List Token) (c r : ℕ) → s ≢ 0 → 1 ≤ n → list_all inside (cells_drawn (Cells n s ∷ rest) c r) ≡ true → c + n ≤ 4294967296
live_near zero s rest c r alive some h = absurd (omega arith)
live_near (suc n) s rest c r alive some h =
    let split : list_all inside (cells_in_row (suc n) s c r ++ cells_drawn rest (c + suc n) r) ≡ true =
    ap (λ cells. list_all inside (cells ++ cells_drawn rest (c + suc n) r)) (sym (if_dead s [] (cells_in_row (suc n) s c r) alive)) ∙ h in
    let parts = and_parts (list_all inside (cells_in_row (suc n) s c r)) (list_all inside (cells_drawn rest (c + suc n) r)) (sym (list_all-append inside (cells_in_row (suc n) s c r) (cells_drawn rest (c + suc n) r)) ∙ split) in
    row_last n s c r parts.0

dead_near : (n : ℕ) (rest : List Token) (c r : ℕ) → AreCanonical (Cells n 0 ∷ rest) → list_all inside (cells_drawn rest (c + n) r) ≡ true → c + n ≤ 4294967296
dead_near n [] c r h all = absurd (h.1 refl)
dead_near n (Cells m t ∷ rest) c r h all =
    let near = live_near m t rest (c + n) r (λ dead. h.1 (sym dead)) (counted m t rest h.2) all in
    omega (arith, near)
dead_near n (Rows m ∷ rest) c r h all = absurd (h.1 refl)

run_near : (dead : Bool) (n s : ℕ) (rest : List Token) (c r : ℕ) → (s == 0) ≡ dead → AreCanonical (Cells n s ∷ rest) → list_all inside (cells_drawn (Cells n s ∷ rest) c r) ≡ true → list_all inside (cells_drawn rest (c + n) r) ≡ true → c + n ≤ 4294967296
run_near true n s rest c r e h all later = dead_near n rest c r (subst (λ u. AreCanonical (Cells n u ∷ rest)) (eqb-true s 0 e) h) later
run_near false n s rest c r e h all later = live_near n s rest c r (eqb-false s 0 e) (counted n s rest h) all

rows_near : (n : ℕ) (rest : List Token) (r : ℕ) → AreCanonical (Rows n ∷ rest) → list_all inside (cells_drawn rest 0 (r + n)) ≡ true → r + n ≤ 4294967295
rows_near n [] r h all = absurd h.1
rows_near n (Cells m t ∷ rest) r h all =
    let first : DrawsFirst (Cells m t ∷ rest) 0 (r + n) = some_first (t == 0) m t rest 0 (r + n) refl h.2 in
    let parts = and_parts (inside first.first) (list_all inside first.later) (ap (list_all inside) (sym first.is) ∙ all) in
    let sides = and_parts (nat_lt first.first.column 4294967296) (nat_lt first.first.row 4294967296) parts.0 in
    grind (arith, nat_tests, sides.1, first.row)
rows_near n (Rows m ∷ rest) r h all = absurd h.1

rows_counted : (n : ℕ) (rest : List Token) → AreCanonical (Rows n ∷ rest) → 1 ≤ n
rows_counted n [] h = h.0
rows_counted n (b ∷ rest) h = h.0

pub all_fine : (tokens : List Token) (pen : Pen) → AreCanonical tokens → AllStates 255 tokens → list_all inside (cells_drawn tokens pen.column pen.row) ≡ true →
    pen.cells + length (cells_drawn tokens pen.column pen.row) ≤ 1048576 → AreFine pen tokens
unfolding AllStates
all_fine [] pen canonical states near few = tt
all_fine (Cells n s ∷ rest) pen canonical states near few =
    let parts = and_parts (list_all inside (run n s pen.column pen.row)) (list_all inside (cells_drawn rest (pen.column + n) pen.row))
    (sym (list_all-append inside (run n s pen.column pen.row) (cells_drawn rest (pen.column + n) pen.row)) ∙ near) in
    let count : length (cells_drawn (Cells n s ∷ rest) pen.column pen.row) ≡ cells_of (Cells n s) + length (cells_drawn rest (pen.column + n) pen.row) =
    length-append (run n s pen.column pen.row) (cells_drawn rest (pen.column + n) pen.row) ∙ ap (λ k. k + length (cells_drawn rest (pen.column + n) pen.row)) (length_run n s pen.column pen.row) in (
      run_fine pen n s states.0 (counted n s rest canonical) (run_near (s == 0) n s rest pen.column pen.row refl canonical near parts.1) (omega (arith, count, few)),
      all_fine rest (pen_after (Cells n s) pen) (rest_canonical (Cells n s) rest canonical) states.1 parts.1 (omega (arith, count, few)),
    )
all_fine (Rows n ∷ rest) pen canonical states near few = (
  rows_fine pen n (rows_counted n rest canonical) (rows_near n rest pen.row canonical near),
  all_fine rest (pen_after (Rows n) pen) (rest_canonical (Rows n) rest canonical) states near few,
)

-- ---- what is written spells the tokens

-- texts, one behind the other
pub joined : List (List ℕ) → List ℕ
joined [] = []
joined (piece ∷ pieces) = piece ++ joined pieces

pub digits_are : (ds : List ℕ) → AllDigits 10 ds → list_all is_decimal_digit ds ≡ true
digits_are [] all = refl
digits_are (d ∷ ds) all = let digit : is_decimal_digit d ≡ true = grind (arith, nat_tests, all.0) in rw (digit, digits_are ds all.1) refl

is_count : (n : ℕ) (ds : List ℕ) → 0 < length ds → list_all is_decimal_digit ds ≡ true → digits_value 10 ds ≡ n → IsCount n ds
is_count n [] some digits value = absurd (omega arith)
is_count n (c ∷ ds) some digits value = (digits, value)

count_spelt_at : (one : Bool) (n : ℕ) → (n == 1) ≡ one → n < 2 ^ 64 → IsCount n (if one then [] else decimal n)
count_spelt_at true n e small = eqb-true n 1 e
count_spelt_at false n e small =
    let numeral = decimal_is_IsNumeral n small in
    is_count n (decimal n) numeral.0.0 (digits_are (decimal n) numeral.0.1) numeral.1

count_spelt : (n : ℕ) → n < 2 ^ 64 → IsCount n (count_text n)
count_spelt n small = count_spelt_at (n == 1) n refl small

-- the most states that a text has letters for
pub most_state : Bool → ℕ
most_state two = if two then 1 else 255

tag_spelt : (two : Bool) (n s : ℕ) → s ≤ most_state two → IsTag (Cells n s) (letters_text (letters_of two s))
unfolding most_state
tag_spelt two n s le = written_letters two s le

small_count : (pen : Pen) (token : Token) → fault_of 0 pen token ≡ None → count_of token < 2 ^ 64
small_count pen (Cells n s) fine = omega (arith, (fine_run 0 pen n s fine).near)
small_count pen (Rows n) fine = omega (arith, (fine_rows 0 pen n fine).near)

pub tokens_spelt : (two : Bool) (tokens : List Token) (pen : Pen) → AreFine pen tokens → AllStates (most_state two) tokens → IsSpelling tokens (joined (map (token_text two) tokens))
unfolding joined AllStates
tokens_spelt two [] pen fine states = refl
tokens_spelt two (Cells n s ∷ tokens) pen fine states = (
  count_text n,
  letters_text (letters_of two s),
  joined (map (token_text two) tokens),
  (
    count_spelt n (small_count pen (Cells n s) fine.0),
    (
      tag_spelt two n s states.0,
      (
        tokens_spelt two tokens (pen_after (Cells n s) pen) fine.1 states.1,
        append_assoc (count_text n) (letters_text (letters_of two s)) (joined (map (token_text two) tokens)),
      ),
    ),
  ),
)
tokens_spelt two (Rows n ∷ tokens) pen fine states = (
  count_text n,
  codes "$",
  joined (map (token_text two) tokens),
  (
    count_spelt n (small_count pen (Rows n) fine.0),
    (
      refl,
      (
        tokens_spelt two tokens (pen_after (Rows n) pen) fine.1 states,
        append_assoc (count_text n) (codes "$") (joined (map (token_text two) tokens)),
      ),
    ),
  ),
)

-- ---- line ends fall away

-- neither a blank, nor a line's end, nor the beginning of a comment
is_solid : ℕ → Bool
is_solid c = not (is_space_or_tab c || ends_line c || c == 35)

record IsSolid (c : ℕ) : Type 0 where
  no_blank : is_space_or_tab c ≡ false
  no_end : ends_line c ≡ false
  no_hash : (c == 35) ≡ false

solid_is : (blank ends hash : Bool) (c : ℕ) → is_space_or_tab c ≡ blank → ends_line c ≡ ends → (c == 35) ≡ hash → not (blank || ends || hash) ≡ true → IsSolid c
solid_is true ends hash c a b d h = absurd (cc)
solid_is false true hash c a b d h = absurd (cc)
solid_is false false true c a b d h = absurd (cc)
solid_is false false false c a b d h = record { no_blank = a; no_end = b; no_hash = d }

solid : (c : ℕ) → is_solid c ≡ true → IsSolid c
unfolding is_solid
solid c h = solid_is (is_space_or_tab c) (ends_line c) (c == 35) c refl refl refl h

-- what is left, marked or not, of bytes that follow a place of a line that counts
record Leaves (text bytes : List ℕ) : Type 0 where
  from_start : (n : ℕ) → bytes_of (left Start (enumerate_from n text)) ≡ bytes
  from_inside : (n : ℕ) → bytes_of (left Inside (enumerate_from n text)) ≡ bytes

leaves_none : Leaves [] []
leaves_none = record { from_start = λ n. ap bytes_of (left_nothing Start); from_inside = λ n. ap bytes_of (left_nothing Inside) }

leaves_end : (text bytes : List ℕ) → Leaves text bytes → Leaves (10 ∷ text) bytes
leaves_end text bytes rest = record {
  from_start = λ n. ap bytes_of (left_drops Start Start (n, 10) (enumerate_from (n + 1) text) refl refl) ∙ rest.from_start (n + 1);
  from_inside = λ n. ap bytes_of (left_drops Inside Start (n, 10) (enumerate_from (n + 1) text) refl refl) ∙ rest.from_start (n + 1);
}

leaves_solid : (c : ℕ) (text bytes : List ℕ) → IsSolid c → Leaves text bytes → Leaves (c ∷ text) (c ∷ bytes)
leaves_solid c text bytes is rest = record {
  from_start = λ n. ap bytes_of (left_keeps Start Inside (n, c) (enumerate_from (n + 1) text) (rw (is.no_end, is.no_hash) refl) (rw (is.no_blank, is.no_end) refl)) ∙ ap (λ bs. c ∷ bs) (rest.from_inside (n + 1));
  from_inside = λ n. ap bytes_of (left_keeps Inside Inside (n, c) (enumerate_from (n + 1) text) (rw is.no_end refl) (rw (is.no_blank, is.no_end) refl)) ∙ ap (λ bs. c ∷ bs) (rest.from_inside (n + 1));
}

leaves_piece : (piece text bytes : List ℕ) → list_all is_solid piece ≡ true → Leaves text bytes → Leaves (piece ++ text) (piece ++ bytes)
leaves_piece [] text bytes all rest = rest
leaves_piece (c ∷ piece) text bytes all rest =
    let parts = and_parts (is_solid c) (list_all is_solid piece) all in
    leaves_solid c (piece ++ text) (piece ++ bytes) (solid c parts.0) (leaves_piece piece text bytes parts.1 rest)

pub AllSolid : List (List ℕ) → Type 0
AllSolid [] = ⊤
AllSolid (piece ∷ pieces) = (list_all is_solid piece ≡ true) × AllSolid pieces

filled_if : (fits : Bool) (piece rest more bytes : List ℕ) → list_all is_solid piece ≡ true → Leaves rest bytes → Leaves more bytes →
    Leaves (if fits then piece ++ rest else codes "\n" ++ piece ++ more) (piece ++ bytes)
filled_if true piece rest more bytes all left right = leaves_piece piece rest bytes all left
filled_if false piece rest more bytes all left right = leaves_end (piece ++ more) (piece ++ bytes) (leaves_piece piece more bytes all right)

filled_leaves : (pieces : List (List ℕ)) (used : ℕ) → AllSolid pieces → Leaves (wrapped used pieces) (joined pieces)
unfolding joined AllSolid
filled_leaves [] used all = leaves_end [] [] leaves_none
filled_leaves (piece ∷ pieces) used all =
    filled_if (nat_le (used + length piece) 70) piece (wrapped (used + length piece) pieces) (wrapped (length piece) pieces) (joined pieces) all.0
    (filled_leaves pieces (used + length piece) all.1) (filled_leaves pieces (length piece) all.1)

-- ---- tokens are solid

solid_above : (c : ℕ) → 35 < c → is_solid c ≡ true
unfolding is_solid
solid_above c h =
    let a : (c == 32) ≡ false = ne_eqb c 32 (omega arith) in
    let b : (c == 9) ≡ false = ne_eqb c 9 (omega arith) in
    let d : (c == 10) ≡ false = ne_eqb c 10 (omega arith) in
    let e : (c == 13) ≡ false = ne_eqb c 13 (omega arith) in
    let f : (c == 35) ≡ false = ne_eqb c 35 (omega arith) in
    rw (a, b, d, e, f) refl

solid_digits : (ds : List ℕ) → list_all is_decimal_digit ds ≡ true → list_all is_solid ds ≡ true
solid_digits [] all = refl
solid_digits (d ∷ ds) all =
    let parts = and_parts (is_decimal_digit d) (list_all is_decimal_digit ds) all in
    let low = and_parts (nat_le 48 d) (nat_le d 57) parts.0 in
    let least : 48 ≤ d = grind (arith, nat_tests, low.0) in
    rw (solid_above d (omega arith), solid_digits ds parts.1) refl

solid_count_if : (one : Bool) (n : ℕ) → n < 2 ^ 64 → list_all is_solid (if one then [] else decimal n) ≡ true
solid_count_if true n small = refl
solid_count_if false n small = solid_digits (decimal n) (digits_are (decimal n) (decimal_is_IsNumeral n small).0.1)

solid_two : (dead : Bool) → list_all is_solid (letters_text (record { prefix = None; last = if dead then 98 else 111 })) ≡ true
unfolding is_solid
solid_two true = refl
solid_two false = refl

solid_many : (dead small : Bool) (s : ℕ) →
    list_all is_solid (letters_text (if dead then record { prefix = None; last = 46 }
    else (if small then record { prefix = None; last = 64 + s }
    else record { prefix = Some (111 + (s - 1) / 24); last = 65 + (s - 1) % 24 }))) ≡ true
solid_many true small s = solid_46 where
  solid_46 : list_all is_solid (46 ∷ []) ≡ true
  solid_46 = rw (solid_above 46 (omega arith)) refl
solid_many false true s = rw (solid_above (64 + s) (omega arith)) refl
solid_many false false s = rw (solid_above (111 + (s - 1) / 24) (omega arith), solid_above (65 + (s - 1) % 24) (omega arith)) refl

solid_letters : (two : Bool) (s : ℕ) → list_all is_solid (letters_text (letters_of two s)) ≡ true
solid_letters true s = solid_two (s == 0)
solid_letters false s = solid_many (s == 0) (nat_le s 24) s

joined_solid : (xs ys : List ℕ) → list_all is_solid xs ≡ true → list_all is_solid ys ≡ true → list_all is_solid (xs ++ ys) ≡ true
joined_solid xs ys left right = list_all-append is_solid xs ys ∙ rw (left, right) refl

solid_token : (two : Bool) (pen : Pen) (token : Token) → fault_of 0 pen token ≡ None → list_all is_solid (token_text two token) ≡ true
solid_token two pen (Cells n s) fine = joined_solid (count_text n) (letters_text (letters_of two s)) (solid_count_if (n == 1) n (small_count pen (Cells n s) fine)) (solid_letters two s)
solid_token two pen (Rows n) fine = joined_solid (count_text n) (36 ∷ []) (solid_count_if (n == 1) n (small_count pen (Rows n) fine)) (rw (solid_above 36 (omega arith)) refl)

solid_mark : list_all is_solid (33 ∷ []) ≡ true
unfolding is_solid
solid_mark = refl

all_solid : (two : Bool) (tokens : List Token) (pen : Pen) → AreFine pen tokens → AllSolid (map (token_text two) tokens ++ spelling 1 (plain 33) ∷ [])
unfolding AllSolid
all_solid two [] pen fine = (solid_mark, tt)
all_solid two (token ∷ tokens) pen fine = (solid_token two pen token fine.0, all_solid two tokens (pen_after token pen) fine.1)

joined_last : (pieces : List (List ℕ)) (last : List ℕ) → joined (pieces ++ last ∷ []) ≡ joined pieces ++ last
unfolding joined
joined_last [] last = append-nil last
joined_last (piece ∷ pieces) last = ap (λ rest. piece ++ rest) (joined_last pieces last) ∙ sym (append_assoc piece (joined pieces) last)

-- what is left of a written body
body_left : (two : Bool) (tokens : List Token) (pen : Pen) (n : ℕ) → AreFine pen tokens → bytes_of (bare (lines_of (enumerate_from n (body two tokens)))) ≡ joined (map (token_text two) tokens) ++ 33 ∷ []
body_left two tokens pen n fine =
    ap bytes_of (sym (left_is_bare (enumerate_from n (body two tokens))))
    ∙ (filled_leaves (map (token_text two) tokens ++ spelling 1 (plain 33) ∷ []) 0 (all_solid two tokens pen fine)).from_start n
    ∙ joined_last (map (token_text two) tokens) (spelling 1 (plain 33))

states_below : (two : Bool) (tokens : List Token) → AllStates (most_state two) tokens → AllStates 255 tokens
unfolding AllStates most_state
states_below two [] h = tt
states_below true (Cells n s ∷ tokens) h = (omega (arith, h.0), states_below true tokens h.1)
states_below false (Cells n s ∷ tokens) h = (h.0, states_below false tokens h.1)
states_below two (Rows n ∷ tokens) h = states_below two tokens h

pub reads_bodies_back : ReadsBodiesBack
unfolding most_state
reads_bodies_back end origin sides n two cells sorted alive within few states =
    let tokens = tokens_from 0 0 cells in
    let is : IsTokensOf tokens cells = has_tokens cells sorted alive in
    let near : list_all inside (cells_drawn tokens 0 0) ≡ true = ap (list_all inside) is.draws ∙ within in
    let count : length (cells_drawn tokens 0 0) ≡ length cells = ap length is.draws in
    let fine : AreFine start tokens = all_fine tokens start is.canonical (states_below two tokens (all_states (most_state two) cells 0 0 states)) near (omega (arith, count, few)) in
    reads_spellings end origin sides (lines_of (enumerate_from n (body two tokens))) tokens (joined (map (token_text two) tokens)) (33 ∷ [])
    (body_left two tokens start n fine) (tokens_spelt two tokens start fine (all_states (most_state two) cells 0 0 states)) (inl refl) fine
    ∙ ap (λ drawn_cells. Ok (pattern_of origin sides drawn_cells)) is.draws
