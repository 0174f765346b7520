-- The lines of a text, one by one, and the first that is neither a comment nor blank.
use Rattle.std.proofs.Common.{◌≡◌, ℕ, ◌+◌, ◌<◌, ◌≤◌, List, [], ◌∷◌, refl, sym, ◌∙◌, ap, arith, take, drop, length, Bor, add-one, drop-cons, ◌-◌, length-drop}
use Rattle.std.specs.Prelude.{Option, Some, None, Bool, true, false, not, ◌==◌, if◌then◌else◌, filter, option_map, unwrap_or}
use Rattle.std.proofs.lemmas.Bool.Decides.{nat_tests}
use Rattle.std.specs.List.{position_or_len}
use Rattle.std.proofs.lemmas.List.{take_all, drop_all}
use Rattle.text_scan.specs.Bytes.{ends_line, is_space_or_tab, past_prefix, ◌>=>◌, text_behind, behind_symbol}
use Rattle.multistate_rle.specs.Header.{side_spelled, may_end_with, header_of}
use Rattle.multistate_rle.specs.HeaderLine.{text_lines, may_precede, first_header, HasNoHeader}
use Rattle.text_scan.proofs.SplitLemmas.{later_parts, split_at}
use Rattle.header_rules.specs.HeaderRule.{PlacedLine, header_line, behind_sides, bounds_at, told_as}
use Rattle.header_rules.specs.declared.header.HeaderBounds.{HeaderBounds}
use Rattle.header_rules.specs.SpelledRule.{rule_spelled}

-- the first line, where it has an end
pub line_ended : (text : List ℕ) (n : ℕ) → n ≡ position_or_len ends_line text → n < length text → text_lines text ≡ take n text ∷ text_lines (drop (n + 1) text)
unfolding later_parts
line_ended text n is within =
    split_at ends_line text ∙ (λ i. take (sym is i) text ∷ later_parts ends_line (drop (sym is i) text))
    ∙ ap (λ rest. take n text ∷ later_parts ends_line rest) (drop-cons text n 0 within) ∙ rw add-one refl

-- the one line of a text without a line's end
pub line_alone : (text : List ℕ) (n : ℕ) → n ≡ position_or_len ends_line text → length text ≤ n → text_lines text ≡ text ∷ []
unfolding later_parts
line_alone text n is past =
    split_at ends_line text ∙ (λ i. take (sym is i) text ∷ later_parts ends_line (drop (sym is i) text))
    ∙ (λ i. take_all n text past i ∷ later_parts ends_line (drop_all n text past i))

-- the first line that counts of the lines that are left, if any are
abbrev pub header_left : ℕ → Option (Bor (List ℕ)) → Option PlacedLine
header_left start None = None
header_left start (Some lines) = header_line start (text_lines lines.now)

-- how much is left
abbrev pub bytes_left : Option (Bor (List ℕ)) → ℕ
bytes_left None = 0
bytes_left (Some lines) = length lines.now + 1

-- what is left behind a line's end, as a range of the text
pub rest_of : (text : List ℕ) (n : ℕ) → take (length text - n) (drop n text) ≡ drop n text
rest_of text n = take_all (length text - n) (drop n text) (omega (arith, length-drop n text))

-- ---- a line that tells a rule is a header

comma_test : (c : ℕ) (t rest : List ℕ) (b : Bool) → (44 == c) ≡ b → text_behind 44 (c ∷ t) ≡ Some rest → (c == 44) ≡ true
comma_test c t rest true e h = grind (arith, nat_tests)
comma_test c t rest false e h = absurd (let none : None ≡ Some rest = rw e at h in cc)

ends_well : (t rest : List ℕ) → text_behind 44 t ≡ Some rest → may_end_with t ≡ true
ends_well [] rest e = refl
ends_well (c ∷ t) rest e = comma_test c t rest (44 == c) refl e

abbrev ends : ℕ → ℕ × List ℕ → Option (ℕ × ℕ)
ends w h = if may_end_with (past_prefix is_space_or_tab h.1) then Some (w, h.0) else None

has_end : (w : ℕ) (height : Option (ℕ × List ℕ)) (rest : List ℕ) → (height >=> λ h. behind_symbol 44 h.1) ≡ Some rest → (height >=> ends w) ≡ None → ⊥
has_end w None rest told none = cc
has_end w (Some h) rest told none =
    let well = ends_well (past_prefix is_space_or_tab h.1) rest told in
    let some : Some (w, h.0) ≡ None = rw well at none in cc

has_height : (w : ℕ) (behind : Option (List ℕ)) (rest : List ℕ) → (behind >=> λ t. side_spelled 121 t >=> λ h. behind_symbol 44 h.1) ≡ Some rest →
    (behind >=> λ t. side_spelled 121 t >=> ends w) ≡ None → ⊥
has_height w None rest told none = cc
has_height w (Some t) rest told none = has_end w (side_spelled 121 t) rest told none

has_width : (width : Option (ℕ × List ℕ)) (rest : List ℕ) → (width >=> λ w. behind_symbol 44 w.1 >=> λ t. side_spelled 121 t >=> λ h. behind_symbol 44 h.1) ≡ Some rest →
    (width >=> λ w. behind_symbol 44 w.1 >=> λ t. side_spelled 121 t >=> ends w.0) ≡ None → ⊥
has_width None rest told none = cc
has_width (Some w) rest told none = has_height w.0 (behind_symbol 44 w.1) rest told none

has_sides : (line rest : List ℕ) → behind_sides line ≡ Some rest → header_of line ≡ None → ⊥
has_sides line rest told none = has_width (side_spelled 120 line) rest told none

-- the first line that counts
counts_step : (start : ℕ) (line : List ℕ) (lines : List (List ℕ)) (found : PlacedLine) (precedes : Bool) → may_precede line ≡ precedes →
    first_header (filter (λ line. not (may_precede line)) (line ∷ lines)) ≡ None → header_line start (line ∷ lines) ≡ Some found →
    ((start : ℕ) → first_header (filter (λ line. not (may_precede line)) lines) ≡ None → header_line start lines ≡ Some found → header_of found.text ≡ None) →
    header_of found.text ≡ None
counts_step start line lines found true is none finds rest = rest (start + (length line + 1)) (rw is at none) (rw is at finds)
counts_step start line lines found false is none finds rest =
    let same : Some (record { start = start; text = line }) ≡ Some found = rw is at finds in
    let text : line ≡ found.text = ap (λ (o : Option PlacedLine). unwrap_or (option_map (λ (l : PlacedLine). l.text) o) line) same in
    let no : header_of line ≡ None = rw is at none in
    ap header_of (sym text) ∙ no

first_counts : (lines : List (List ℕ)) (start : ℕ) (found : PlacedLine) → first_header (filter (λ line. not (may_precede line)) lines) ≡ None →
    header_line start lines ≡ Some found → header_of found.text ≡ None
first_counts [] start found none finds = absurd (cc)
first_counts (line ∷ lines) start found none finds =
    counts_step start line lines found (may_precede line) refl none finds (λ start none finds. first_counts lines start found none finds)

-- a text without a header tells no rule
pub no_sides : (text : List ℕ) (found : PlacedLine) (rest : List ℕ) → HasNoHeader text → header_line 0 (text_lines text) ≡ Some found → behind_sides found.text ≡ Some rest → ⊥
no_sides text found rest none finds told = has_sides found.text rest told (first_counts (text_lines text) 0 found none finds)

-- a text that is not empty is told
pub told_if_some : (place : ℕ) (part : List ℕ) (bounds : Option HeaderBounds) → 0 < length part →
    Some (record { place = place; length = length part; rule = rule_spelled part; bounds = bounds }) ≡ told_as place part bounds
told_if_some place [] bounds some = absurd (omega arith)
told_if_some place (byte ∷ part) bounds some = refl

-- and so are bounds
pub bounds_if_some : (place : ℕ) (bounds : List ℕ) → 0 < length bounds → Some (record { place = place; length = length bounds }) ≡ bounds_at place bounds
bounds_if_some place [] some = absurd (omega arith)
bounds_if_some place (byte ∷ bounds) some = refl
