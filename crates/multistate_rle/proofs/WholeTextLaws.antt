-- A whole text, of comments, a header and a spelling, is read as what its tokens draw.
use Rattle.std.proofs.Common.{◌≡◌, ℕ, ◌+◌, Bool, true, false, List, [], ◌∷◌, ◌++◌, refl, sym, ◌∙◌, ap, length, drop}
use Rattle.std.specs.Prelude.{Option, Some, None, Ok, Result, unwrap_or, not, ◌||◌, if◌then◌else◌}
use Rattle.std.specs.List.{list_all, enumerate_from, position_or_len}
use Rattle.std.proofs.lemmas.Bool.{eqb-true}
use Rattle.multistate_rle.specs.Position.{OriginValue}
use Rattle.multistate_rle.specs.declared.line.LineProgress.{LineProgress}
use Rattle.multistate_rle.specs.declared.line.LineProgress.TheVariants.{Start}
use Rattle.multistate_rle.specs.declared.fault.RleFault.{RleFault}
use Rattle.text_scan.specs.Bytes.{is_space_or_tab, ends_line, past_prefix, text_behind, ◌>=>◌, behind_symbol}
use Rattle.multistate_rle.specs.Header.{header_of, side_spelled, number_in_front, may_end_with}
use Rattle.multistate_rle.specs.Position.{origin_in, origin_from, no_items}
use Rattle.pattern_cells.specs.Pattern.{RlePattern}
use Rattle.multistate_rle.specs.Tokens.{cells_drawn}
use Rattle.multistate_rle.specs.Lines.{line_after, is_dropped}
use Rattle.multistate_rle.specs.Reading.{bytes_of, bare, pattern_of, lines_of, lines_read, begins_comment, or_else}
use Rattle.multistate_rle.specs.Spelling.{IsLine, AreFrontLines, with_lines, first_origin, bare_text}
use Rattle.multistate_rle.specs.Laws.{ReadsTexts}
use Rattle.multistate_rle.proofs.LineLemmas.{line_step, line_read, comment_read, blank_read, header_is_read, left_is_bare}
use Rattle.multistate_rle.specs.Lines.{left}
use Rattle.multistate_rle.proofs.HeadLaws.{front_is, past_is, past_all}
use Rattle.multistate_rle.proofs.SpellingLaws.{reads_spellings}

-- a line and its end decide
pub line_first : (len : ℕ) (origin : Option OriginValue) (n : ℕ) (line : List ℕ) (end : ℕ) (rest : List ℕ) → IsLine line → ends_line end ≡ true →
    lines_read len origin (lines_of (enumerate_from n (line ++ end ∷ rest))) ≡ line_read len origin line (n + position_or_len ends_line (line ++ end ∷ rest) + 1) rest
line_first len origin n line end rest is ends =
    let stops : not (ends_line end) ≡ false = rw ends refl in
    line_step len origin n (line ++ end ∷ rest)
    ∙ (λ i. line_read len origin (front_is (λ c. not (ends_line c)) line end rest is stops i) (n + position_or_len ends_line (line ++ end ∷ rest) + 1) (drop 1 (past_is (λ c. not (ends_line c)) line end rest is stops i)))

-- ---- the lines in front

pub front_line : (len : ℕ) (origin : Option OriginValue) (line : List ℕ) (next : ℕ) (rest : List ℕ) (comment blank : Bool) → begins_comment line ≡ comment → list_all is_space_or_tab line ≡ blank → (comment || blank) ≡ true →
    line_read len origin line next rest ≡ lines_read len (if comment then or_else origin (origin_in line) else origin) (lines_of (enumerate_from next rest))
front_line len origin line next rest true blank c b either = comment_read len origin line next rest c
front_line len origin line next rest false true c b either = blank_read len origin line next rest c b
front_line len origin line next rest false false c b either = absurd (cc)

front_read : (len : ℕ) (origin : Option OriginValue) (n : ℕ) (front : List (List ℕ × ℕ)) (rest : List ℕ) (meant : Option OriginValue → Result RlePattern RleFault) → AreFrontLines front →
    ((k : ℕ) (found : Option OriginValue) → lines_read len found (lines_of (enumerate_from k rest)) ≡ meant found) →
    lines_read len origin (lines_of (enumerate_from n (with_lines front rest))) ≡ meant (first_origin origin front)
front_read len origin n [] rest meant is text_behind = text_behind n origin
front_read len origin n (line ∷ front) rest meant is text_behind =
    let next = n + position_or_len ends_line (line.0 ++ line.1 ∷ with_lines front rest) + 1 in
    line_first len origin n line.0 line.1 (with_lines front rest) is.0 is.1.0
    ∙ front_line len origin line.0 next (with_lines front rest) (begins_comment line.0) (list_all is_space_or_tab line.0) refl refl is.1.1.0
    ∙ front_read len (if begins_comment line.0 then or_else origin (origin_in line.0) else origin) next front rest meant is.1.1.1 text_behind

-- ---- the header

pub no_comment : (header : List ℕ) (sides : ℕ × ℕ) (comment : Bool) → begins_comment header ≡ comment → header_of header ≡ Some sides → comment ≡ false
no_comment [] sides false c is = refl
no_comment [] sides true c is = absurd (cc)
no_comment (d ∷ header) sides false c is = refl
no_comment (d ∷ header) sides true c is = let hash : d ≡ 35 = eqb-true d 35 c in let none : header_of (35 ∷ header) ≡ None = refl in absurd (cc)

pub no_blank : (header : List ℕ) (sides : ℕ × ℕ) (blank : Bool) → list_all is_space_or_tab header ≡ blank → header_of header ≡ Some sides → blank ≡ false
no_blank header sides false b is = refl
no_blank header sides true b is =
    let none : header_of header ≡ None =
    ap (λ rest. (text_behind 120 rest >=> λ rest. behind_symbol 61 rest >=> λ rest. number_in_front (past_prefix is_space_or_tab rest)) >=> λ w. behind_symbol 44 w.1 >=> λ rest. side_spelled 121 rest >=> λ h. (if may_end_with (past_prefix is_space_or_tab h.1) then Some (w.0, h.0) else None)) (past_all is_space_or_tab header b) in
    absurd (cc)

-- ---- the bytes that are left, wherever the text begins

same_left_step : (line : LineProgress) (m n c : ℕ) (xs : List ℕ) (drops : Bool) → is_dropped (line_after line c) c ≡ drops →
    bytes_of (left (line_after line c) (enumerate_from (m + 1) xs)) ≡ bytes_of (left (line_after line c) (enumerate_from (n + 1) xs)) →
    bytes_of (left line (enumerate_from m (c ∷ xs))) ≡ bytes_of (left line (enumerate_from n (c ∷ xs)))
unfolding left
same_left_step line m n c xs true d same = rw d same
same_left_step line m n c xs false d same = rw d (ap (λ ys. c ∷ ys) same)

same_left : (line : LineProgress) (m n : ℕ) (xs : List ℕ) → bytes_of (left line (enumerate_from m xs)) ≡ bytes_of (left line (enumerate_from n xs))
unfolding left
same_left line m n [] = refl
same_left line m n (c ∷ xs) = same_left_step line m n c xs (is_dropped (line_after line c) c) refl (same_left (line_after line c) (m + 1) (n + 1) xs)

pub bare_anywhere : (n : ℕ) (text : List ℕ) → bytes_of (bare (lines_of (enumerate_from n text))) ≡ bare_text text
bare_anywhere n text =
    ap bytes_of (sym (left_is_bare (enumerate_from n text))) ∙ same_left Start n 0 text ∙ ap bytes_of (left_is_bare (enumerate_from 0 text))

pub reads_texts : ReadsTexts
reads_texts front header end sides text tokens spelt tail is_front is_header is ends bytes spells stops fine =
    let len = length (with_lines front (header ++ end ∷ text)) in
    front_read len None 0 front (header ++ end ∷ text) (λ found. Ok (pattern_of (unwrap_or found (origin_from no_items)) sides (cells_drawn tokens 0 0))) is_front
    (λ k found.
    let next = k + position_or_len ends_line (header ++ end ∷ text) + 1 in
    line_first len found k header end text is_header ends
    ∙ header_is_read len found header next text sides (no_comment header sides (begins_comment header) refl is) (no_blank header sides (list_all is_space_or_tab header) refl is) is
    ∙ reads_spellings len (unwrap_or found (origin_from no_items)) sides (lines_of (enumerate_from next text)) tokens spelt tail (bare_anywhere next text ∙ bytes) spells stops fine)
