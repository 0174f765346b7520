-- A text in its parts is read as its body is, and each text has parts or no header.
use Rattle.std.proofs.Common.{◌≡◌, ◌⊎◌, ℕ, zero, suc, ◌+◌, ◌≤◌, Bool, true, false, List, [], ◌∷◌, ◌++◌, refl, sym, ◌∙◌, ap, arith, inl, inr, length, drop, append-nil, length-append}
use Rattle.std.specs.Prelude.{Option, Some, None, Result, unwrap_or, not, if◌then◌else◌, filter}
use Rattle.std.specs.List.{list_all, enumerate_from, position_or_len}
use Rattle.std.proofs.lemmas.List.Folds.{length-prefix_len}
use Rattle.multistate_rle.specs.declared.fault.RleFault.{RleFault}
use Rattle.text_scan.specs.Bytes.{is_space_or_tab, ends_line}
use Rattle.multistate_rle.specs.Header.{header_of}
use Rattle.multistate_rle.specs.HeaderLine.{text_lines, may_precede, first_header, HasNoHeader}
use Rattle.multistate_rle.specs.Position.{OriginValue, origin_in, origin_from, no_items}
use Rattle.pattern_cells.specs.Pattern.{RlePattern}
use Rattle.multistate_rle.specs.Reading.{parsed, body_read, lines_of, lines_read, begins_comment, or_else}
use Rattle.multistate_rle.specs.Spelling.{IsLine, AreFrontLines, with_lines, first_origin}
use Rattle.multistate_rle.specs.Parts.{EndsLine, HasFrontAndBody}
use Rattle.text_scan.proofs.SplitLemmas.{split_at, later_parts}
use Rattle.multistate_rle.proofs.HeadLaws.{front_is, past_is, front_all, past_all}
use Rattle.multistate_rle.proofs.LineLemmas.{line_step, line_read, header_is_read}
use Rattle.multistate_rle.proofs.WholeTextLaws.{line_first, front_line, no_comment, no_blank}

-- ---- places

pub line_len : (line : List ℕ) (end : ℕ) (rest : List ℕ) → IsLine line → ends_line end ≡ true → position_or_len ends_line (line ++ end ∷ rest) ≡ length line
line_len line end rest is ends =
    sym (length-prefix_len (λ c. not (ends_line c)) (line ++ end ∷ rest)) ∙ ap length (front_is (λ c. not (ends_line c)) line end rest is (rw ends refl))

front_len : (front : List (List ℕ × ℕ)) (rest : List ℕ) → length (with_lines front rest) ≡ length (with_lines front []) + length rest
front_len [] rest = omega arith
front_len (line ∷ front) rest = omega (arith, front_len front rest, length-append line.0 (line.1 ∷ with_lines front rest), length-append line.0 (line.1 ∷ with_lines front []))

-- ---- a text in its parts

-- the lines in front, with the place of what stands behind them
front_placed : (len : ℕ) (origin : Option OriginValue) (n : ℕ) (front : List (List ℕ × ℕ)) (rest : List ℕ) (meant : Option OriginValue → Result RlePattern RleFault) → AreFrontLines front →
    ((found : Option OriginValue) → lines_read len found (lines_of (enumerate_from (n + length (with_lines front [])) rest)) ≡ meant found) →
    lines_read len origin (lines_of (enumerate_from n (with_lines front rest))) ≡ meant (first_origin origin front)
front_placed len origin n [] rest meant is behind = ap (λ k. lines_read len origin (lines_of (enumerate_from k rest))) (omega arith) ∙ behind origin
front_placed len origin n (line ∷ front) rest meant is behind =
    let next = n + position_or_len ends_line (line.0 ++ line.1 ∷ with_lines front rest) + 1 in
    let same : next + length (with_lines front []) ≡ n + length (line.0 ++ line.1 ∷ with_lines front []) =
    omega (arith, line_len line.0 line.1 (with_lines front rest) is.0 is.1.0, length-append line.0 (line.1 ∷ with_lines front [])) in
    line_first len origin n line.0 line.1 (with_lines front rest) is.0 is.1.0
    ∙ front_line len origin line.0 next (with_lines front rest) (begins_comment line.0) (list_all is_space_or_tab line.0) refl refl is.1.1.0
    ∙ front_placed len (if begins_comment line.0 then or_else origin (origin_in line.0) else origin) next front rest meant is.1.1.1
    (λ found. ap (λ k. lines_read len found (lines_of (enumerate_from k rest))) same ∙ behind found)

-- a last line without an end
last_line : (len : ℕ) (origin : Option OriginValue) (n : ℕ) (line : List ℕ) → IsLine line →
    lines_read len origin (lines_of (enumerate_from n line)) ≡ line_read len origin line (n + position_or_len ends_line line + 1) []
last_line len origin n line is =
    line_step len origin n line
    ∙ (λ i. line_read len origin (front_all (λ c. not (ends_line c)) line is i) (n + position_or_len ends_line line + 1) (drop 1 (past_all (λ c. not (ends_line c)) line is i)))

header_first : (len : ℕ) (found : Option OriginValue) (k : ℕ) (header behind : List ℕ) (sides : ℕ × ℕ) → IsLine header → header_of header ≡ Some sides → EndsLine behind →
    lines_read len found (lines_of (enumerate_from k (header ++ behind))) ≡ body_read len (unwrap_or found (origin_from no_items)) sides (lines_of (enumerate_from (k + length header + 1) (drop 1 behind)))
header_first len found k header [] sides is_header is ends =
    ap (λ text. lines_read len found (lines_of (enumerate_from k text))) (append-nil header)
    ∙ last_line len found k header is_header
    ∙ header_is_read len found header (k + position_or_len ends_line header + 1) [] sides (no_comment header sides (begins_comment header) refl is) (no_blank header sides (list_all is_space_or_tab header) refl is) is
header_first len found k header (end ∷ rest) sides is_header is ends =
    line_first len found k header end rest is_header ends
    ∙ header_is_read len found header (k + position_or_len ends_line (header ++ end ∷ rest) + 1) rest sides (no_comment header sides (begins_comment header) refl is) (no_blank header sides (list_all is_space_or_tab header) refl is) is
    ∙ ap (λ n. body_read len (unwrap_or found (origin_from no_items)) sides (lines_of (enumerate_from (k + n + 1) rest))) (line_len header end rest is_header ends)

pub parts_read : (text : List ℕ) (front : List (List ℕ × ℕ)) (sides : ℕ × ℕ) (place : ℕ) (body : List ℕ) → HasFrontAndBody text front sides place body →
    parsed text ≡ body_read (length text) (unwrap_or (first_origin None front) (origin_from no_items)) sides (lines_of (enumerate_from place body))
parts_read text front sides place body is =
    let whole = with_lines front (is.header ++ is.behind) in
    let at : 0 + length (with_lines front []) + length is.header + 1 ≡ place = omega (arith, front_len front is.header, is.place_is) in
    ap parsed is.text_is
    ∙ front_placed (length whole) None 0 front (is.header ++ is.behind) (λ found. body_read (length whole) (unwrap_or found (origin_from no_items)) sides (lines_of (enumerate_from place body))) is.front_is
    (λ found.
    header_first (length whole) found (0 + length (with_lines front [])) is.header is.behind sides is.line_is is.header_is is.behind_is
    ∙ (λ i. body_read (length whole) (unwrap_or found (origin_from no_items)) sides (lines_of (enumerate_from (at i) (sym is.body_is i)))))
    ∙ ap (λ t. body_read (length t) (unwrap_or (first_origin None front) (origin_from no_items)) sides (lines_of (enumerate_from place body))) (sym is.text_is)

-- ---- each text has parts, or no header

record FirstLine (text : List ℕ) : Type 0 where
  line : List ℕ
  behind : List ℕ
  text_is : text ≡ line ++ behind
  line_is : IsLine line
  behind_is : EndsLine behind

first_by : (c : ℕ) (text : List ℕ) (ends : Bool) → ends_line c ≡ ends → FirstLine text → FirstLine (c ∷ text)
first_by c text true e rest = record { line = []; behind = c ∷ text; text_is = refl; line_is = refl; behind_is = e }
first_by c text false e rest = record {
  line = c ∷ rest.line;
  behind = rest.behind;
  text_is = ap (λ t. c ∷ t) rest.text_is;
  line_is = rw (e, rest.line_is) refl;
  behind_is = rest.behind_is;
}

first_line_of : (text : List ℕ) → FirstLine text
first_line_of [] = record { line = []; behind = []; text_is = refl; line_is = refl; behind_is = tt }
first_line_of (c ∷ text) = first_by c text (ends_line c) refl (first_line_of text)

one_line : (line : List ℕ) → IsLine line → text_lines line ≡ line ∷ []
unfolding later_parts
one_line line is =
    split_at ends_line line ∙ (λ i. front_all (λ c. not (ends_line c)) line is i ∷ later_parts ends_line (past_all (λ c. not (ends_line c)) line is i))

more_lines : (line : List ℕ) (end : ℕ) (rest : List ℕ) → IsLine line → ends_line end ≡ true → text_lines (line ++ end ∷ rest) ≡ line ∷ text_lines rest
unfolding later_parts
more_lines line end rest is ends =
    let stops : not (ends_line end) ≡ false = rw ends refl in
    split_at ends_line (line ++ end ∷ rest)
    ∙ (λ i. front_is (λ c. not (ends_line c)) line end rest is stops i ∷ later_parts ends_line (past_is (λ c. not (ends_line c)) line end rest is stops i))

abbrev header_in : List (List ℕ) → Option (ℕ × ℕ)
header_in lines = first_header (filter (λ line. not (may_precede line)) lines)

passed_over : (line : List ℕ) (lines : List (List ℕ)) → may_precede line ≡ true → header_in (line ∷ lines) ≡ header_in lines
passed_over line lines e = rw e refl

decides : (line : List ℕ) (lines : List (List ℕ)) → may_precede line ≡ false → header_in (line ∷ lines) ≡ header_of line
decides line lines e = rw e refl

-- a text that has parts
pub record InParts (text : List ℕ) : Type 0 where
  pub front : List (List ℕ × ℕ)
  pub sides : ℕ × ℕ
  pub place : ℕ
  pub body : List ℕ
  pub parts : HasFrontAndBody text front sides place body

header_found : (text line behind : List ℕ) (header : Option (ℕ × ℕ)) (lines : List (List ℕ)) → text ≡ line ++ behind → IsLine line → EndsLine behind → text_lines text ≡ line ∷ lines → may_precede line ≡ false → header_of line ≡ header →
    HasNoHeader text ⊎ InParts text
header_found text line behind None lines text_is line_is behind_is is counts none = inl (ap header_in is ∙ decides line lines counts ∙ none)
header_found text line behind (Some sides) lines text_is line_is behind_is is counts found = inr (record {
  front = [];
  sides = sides;
  place = length line + 1;
  body = drop 1 behind;
  parts = record {
    header = line;
    behind = behind;
    text_is = text_is;
    front_is = tt;
    line_is = line_is;
    header_is = found;
    behind_is = behind_is;
    place_is = refl;
    body_is = refl;
  };
})

line_passed : (text line : List ℕ) (end : ℕ) (rest : List ℕ) → text ≡ line ++ end ∷ rest → IsLine line → ends_line end ≡ true → text_lines text ≡ line ∷ text_lines rest → may_precede line ≡ true →
    HasNoHeader rest ⊎ InParts rest → HasNoHeader text ⊎ InParts text
line_passed text line end rest text_is line_is ends is precedes (inl none) = inl (ap header_in is ∙ passed_over line (text_lines rest) precedes ∙ none)
line_passed text line end rest text_is line_is ends is precedes (inr found) = inr (record {
  front = (line, end) ∷ found.front;
  sides = found.sides;
  place = length (with_lines ((line, end) ∷ found.front) found.parts.header) + 1;
  body = found.body;
  parts = record {
    header = found.parts.header;
    behind = found.parts.behind;
    text_is = text_is ∙ ap (λ t. line ++ end ∷ t) found.parts.text_is;
    front_is = (line_is, (ends, (precedes, found.parts.front_is)));
    line_is = found.parts.line_is;
    header_is = found.parts.header_is;
    behind_is = found.parts.behind_is;
    place_is = refl;
    body_is = found.parts.body_is;
  };
})

by_line : (text line behind : List ℕ) (precedes : Bool) → text ≡ line ++ behind → IsLine line → EndsLine behind → may_precede line ≡ precedes →
    ((rest : List ℕ) → length line + 1 + length rest ≤ length text → HasNoHeader rest ⊎ InParts rest) → HasNoHeader text ⊎ InParts text
by_line text line [] true text_is line_is ends e later =
    inl (ap header_in (ap text_lines (text_is ∙ append-nil line) ∙ one_line line line_is) ∙ passed_over line [] e)
by_line text line [] false text_is line_is ends e later =
    header_found text line [] (header_of line) [] text_is line_is ends (ap text_lines (text_is ∙ append-nil line) ∙ one_line line line_is) e refl
by_line text line (end ∷ rest) true text_is line_is ends e later =
    line_passed text line end rest text_is line_is ends (ap text_lines text_is ∙ more_lines line end rest line_is ends) e (later rest (omega (arith, ap length text_is, length-append line (end ∷ rest))))
by_line text line (end ∷ rest) false text_is line_is ends e later =
    header_found text line (end ∷ rest) (header_of line) (text_lines rest) text_is line_is ends (ap text_lines text_is ∙ more_lines line end rest line_is ends) e refl

in_parts_within : (most : ℕ) (text : List ℕ) → length text ≤ most → HasNoHeader text ⊎ InParts text
in_parts_within zero text few =
    let first = first_line_of text in
    by_line text first.line first.behind (may_precede first.line) first.text_is first.line_is first.behind_is refl (λ rest less. absurd (omega arith))
in_parts_within (suc most) text few =
    let first = first_line_of text in
    by_line text first.line first.behind (may_precede first.line) first.text_is first.line_is first.behind_is refl (λ rest less. in_parts_within most rest (omega arith))

pub in_parts : (text : List ℕ) → HasNoHeader text ⊎ InParts text
in_parts text = in_parts_within (length text) text (omega arith)
