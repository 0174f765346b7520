-- The lines of a text, and the bytes that are left of them, told from left to right.
use Rattle.std.proofs.Common.{◌≡◌, ℕ, zero, suc, ◌+◌, ◌≤◌, Bool, true, false, List, [], ◌∷◌, ◌++◌, refl, sym, ◌∙◌, ap, arith, take, drop, length, drop-drop}
use Rattle.std.specs.Prelude.{Option, Some, None, Result, Err, not, filter, if◌then◌else◌, ◌==◌, ◌||◌, unwrap_or}
use Rattle.std.specs.List.{onto_first, position_or_len, enumerate_from, list_all, flat_map}
use Rattle.std.proofs.lemmas.List.{drop_all}
use Rattle.std.proofs.lemmas.List.Splits.{slice_split-cons_yes, slice_split-cons_no}
use Rattle.std.proofs.lemmas.List.Folds.{length-prefix_len}
use Rattle.multistate_rle.specs.declared.fault.RleFault.{RleFault}
use Rattle.multistate_rle.specs.declared.fault.RleFault.TheVariants.{Header}
use Rattle.multistate_rle.specs.Position.{OriginValue}
use Rattle.multistate_rle.specs.declared.line.LineProgress.{LineProgress}
use Rattle.multistate_rle.specs.declared.line.LineProgress.TheVariants.{Start, Inside, Comment}
use Rattle.text_scan.specs.Bytes.{is_space_or_tab, ends_line}
use Rattle.multistate_rle.specs.Header.{header_of}
use Rattle.multistate_rle.specs.Position.{origin_in, origin_from, no_items}
use Rattle.pattern_cells.specs.Pattern.{RlePattern}
use Rattle.multistate_rle.specs.Reading.{Mark, lines_of, bytes_of, begins_comment, bare, body_read, header_read, lines_read, or_else}
use Rattle.multistate_rle.specs.Lines.{line_after, is_dropped, left}
use Rattle.text_scan.proofs.SplitLemmas.{split_at, later_parts}

-- ---- bytes with their places

pub bytes_marked : (n : ℕ) (xs : List ℕ) → bytes_of (enumerate_from n xs) ≡ xs
bytes_marked n [] = refl
bytes_marked n (x ∷ xs) = ap (λ ys. x ∷ ys) (bytes_marked (n + 1) xs)

marked_len_step : (n x : ℕ) (xs : List ℕ) (b : Bool) → ends_line x ≡ b →
    position_or_len (λ (m : Mark). ends_line m.1) (enumerate_from (n + 1) xs) ≡ position_or_len ends_line xs →
    position_or_len (λ (m : Mark). ends_line m.1) (enumerate_from n (x ∷ xs)) ≡ position_or_len ends_line (x ∷ xs)
marked_len_step n x xs true e rest = rw e refl
marked_len_step n x xs false e rest = rw e (ap (λ k. 1 + k) rest)

marked_len : (n : ℕ) (xs : List ℕ) → position_or_len (λ (m : Mark). ends_line m.1) (enumerate_from n xs) ≡ position_or_len ends_line xs
marked_len n [] = refl
marked_len n (x ∷ xs) = marked_len_step n x xs (ends_line x) refl (marked_len (n + 1) xs)

marked_take : (k n : ℕ) (xs : List ℕ) → take k (enumerate_from n xs) ≡ enumerate_from n (take k xs)
marked_take zero n xs = refl
marked_take (suc k) n [] = refl
marked_take (suc k) n (x ∷ xs) = ap (λ ms. (n, x) ∷ ms) (marked_take k (n + 1) xs)

marked_drop : (k n : ℕ) (xs : List ℕ) → drop k (enumerate_from n xs) ≡ enumerate_from (n + k) (drop k xs)
marked_drop zero n xs = ap (λ m. enumerate_from m xs) (omega arith)
marked_drop (suc k) n [] = refl
marked_drop (suc k) n (x ∷ xs) = marked_drop k (n + 1) xs ∙ ap (λ m. enumerate_from m (drop k xs)) (omega arith)

-- ---- the first line

-- a text's lines are its first, and those behind
pub first_line : (n : ℕ) (xs : List ℕ) → lines_of (enumerate_from n xs)
    ≡ enumerate_from n (take (position_or_len ends_line xs) xs)
    ∷ later_parts (λ (m : Mark). ends_line m.1) (enumerate_from (n + position_or_len ends_line xs) (drop (position_or_len ends_line xs) xs))
first_line n xs =
    split_at (λ (m : Mark). ends_line m.1) (enumerate_from n xs)
    ∙ ap (λ k. take k (enumerate_from n xs) ∷ later_parts (λ (m : Mark). ends_line m.1) (drop k (enumerate_from n xs))) (marked_len n xs)
    ∙ (λ i. marked_take (position_or_len ends_line xs) n xs i ∷ later_parts (λ (m : Mark). ends_line m.1) (marked_drop (position_or_len ends_line xs) n xs i))

-- Behind the last line there may as well be an empty one.
later_read : (end : ℕ) (origin : Option OriginValue) (n : ℕ) (ys : List ℕ) →
    lines_read end origin (later_parts (λ (m : Mark). ends_line m.1) (enumerate_from n ys)) ≡ lines_read end origin (lines_of (enumerate_from (n + 1) (drop 1 ys)))
unfolding later_parts
later_read end origin n [] = refl
later_read end origin n (y ∷ ys) = refl

later_body : (end : ℕ) (origin : OriginValue) (sides : ℕ × ℕ) (n : ℕ) (ys : List ℕ) →
    body_read end origin sides (later_parts (λ (m : Mark). ends_line m.1) (enumerate_from n ys)) ≡ body_read end origin sides (lines_of (enumerate_from (n + 1) (drop 1 ys)))
unfolding later_parts
later_body end origin sides n [] = refl
later_body end origin sides n (y ∷ ys) = refl

-- what is read from a line on, with the text behind it
abbrev pub line_read : ℕ → Option OriginValue → List ℕ → ℕ → List ℕ → Result RlePattern RleFault
line_read end origin line next rest =
    if begins_comment line then lines_read end (or_else origin (origin_in line)) (lines_of (enumerate_from next rest))
    else (if list_all is_space_or_tab line then lines_read end origin (lines_of (enumerate_from next rest))
    else header_read end (unwrap_or origin (origin_from no_items)) (header_of line) (lines_of (enumerate_from next rest)))

-- the same, with the lines behind it
abbrev line_and : ℕ → Option OriginValue → List ℕ → List (List Mark) → Result RlePattern RleFault
line_and end origin line lines =
    if begins_comment line then lines_read end (or_else origin (origin_in line)) lines
    else (if list_all is_space_or_tab line then lines_read end origin lines
    else header_read end (unwrap_or origin (origin_from no_items)) (header_of line) lines)

header_later : (end : ℕ) (origin : OriginValue) (header : Option (ℕ × ℕ)) (n : ℕ) (ys : List ℕ) →
    header_read end origin header (later_parts (λ (m : Mark). ends_line m.1) (enumerate_from n ys)) ≡ header_read end origin header (lines_of (enumerate_from (n + 1) (drop 1 ys)))
header_later end origin None n ys = refl
header_later end origin (Some sides) n ys = later_body end origin sides n ys

line_later : (end : ℕ) (origin : Option OriginValue) (line : List ℕ) (n : ℕ) (ys : List ℕ) →
    line_and end origin line (later_parts (λ (m : Mark). ends_line m.1) (enumerate_from n ys)) ≡ line_read end origin line (n + 1) (drop 1 ys)
line_later end origin line n ys =
    λ i. if begins_comment line then later_read end (or_else origin (origin_in line)) n ys i
    else (if list_all is_space_or_tab line then later_read end origin n ys i else header_later end (unwrap_or origin (origin_from no_items)) (header_of line) n ys i)

-- The first line decides.
pub line_step : (end : ℕ) (origin : Option OriginValue) (n : ℕ) (xs : List ℕ) →
    lines_read end origin (lines_of (enumerate_from n xs))
    ≡ line_read end origin (take (position_or_len ends_line xs) xs) (n + position_or_len ends_line xs + 1) (drop 1 (drop (position_or_len ends_line xs) xs))
line_step end origin n xs =
    ap (lines_read end origin) (first_line n xs)
    ∙ ap (λ line. line_and end origin line (later_parts (λ (m : Mark). ends_line m.1) (enumerate_from (n + position_or_len ends_line xs) (drop (position_or_len ends_line xs) xs)))) (bytes_marked n (take (position_or_len ends_line xs) xs))
    ∙ line_later end origin (take (position_or_len ends_line xs) xs) (n + position_or_len ends_line xs) (drop (position_or_len ends_line xs) xs)

-- the same, with a name for the place of the next line
pub line_at_step : (end : ℕ) (origin : Option OriginValue) (text : List ℕ) (start : ℕ) (line : List ℕ) (next : ℕ) →
    line ≡ take (position_or_len ends_line (drop start text)) (drop start text) → next ≡ start + length line + 1 →
    lines_read end origin (lines_of (enumerate_from start (drop start text))) ≡ line_read end origin line next (drop next text)
line_at_step end origin text start line next line_is next_is =
    let len : length line ≡ position_or_len ends_line (drop start text) = ap length line_is ∙ length-prefix_len (λ c. not (ends_line c)) (drop start text) in
    let rest : drop 1 (drop (position_or_len ends_line (drop start text)) (drop start text)) ≡ drop next text =
    drop-drop 1 (position_or_len ends_line (drop start text)) (drop start text) ∙ drop-drop _ start text ∙ ap (λ k. drop k text) (omega (arith, len, next_is)) in
    let place : start + position_or_len ends_line (drop start text) + 1 ≡ next = omega (arith, len, next_is) in
    line_step end origin start (drop start text)
    ∙ (λ i. line_read end origin (sym line_is i) (place i) (rest i))

pub comment_read : (end : ℕ) (origin : Option OriginValue) (line : List ℕ) (next : ℕ) (rest : List ℕ) → begins_comment line ≡ true →
    line_read end origin line next rest ≡ lines_read end (or_else origin (origin_in line)) (lines_of (enumerate_from next rest))
comment_read end origin line next rest e = rw e refl

pub blank_read : (end : ℕ) (origin : Option OriginValue) (line : List ℕ) (next : ℕ) (rest : List ℕ) → begins_comment line ≡ false → list_all is_space_or_tab line ≡ true →
    line_read end origin line next rest ≡ lines_read end origin (lines_of (enumerate_from next rest))
blank_read end origin line next rest e f = rw (e, f) refl

pub header_is_read : (end : ℕ) (origin : Option OriginValue) (line : List ℕ) (next : ℕ) (rest : List ℕ) (sides : ℕ × ℕ) → begins_comment line ≡ false → list_all is_space_or_tab line ≡ false → header_of line ≡ Some sides →
    line_read end origin line next rest ≡ body_read end (unwrap_or origin (origin_from no_items)) sides (lines_of (enumerate_from next rest))
header_is_read end origin line next rest sides e f g = rw (e, f) (ap (λ h. header_read end (unwrap_or origin (origin_from no_items)) h (lines_of (enumerate_from next rest))) g)

pub no_header_read : (end : ℕ) (origin : Option OriginValue) (line : List ℕ) (next : ℕ) (rest : List ℕ) → begins_comment line ≡ false → list_all is_space_or_tab line ≡ false → header_of line ≡ None →
    line_read end origin line next rest ≡ Err Header
no_header_read end origin line next rest e f g = rw (e, f) (ap (λ h. header_read end (unwrap_or origin (origin_from no_items)) h (lines_of (enumerate_from next rest))) g)

pub nothing_left : (end : ℕ) (origin : Option OriginValue) (text : List ℕ) (start : ℕ) → length text ≤ start →
    lines_read end origin (lines_of (enumerate_from start (drop start text))) ≡ Err Header
nothing_left end origin text start past = ap (λ rest. lines_read end origin (lines_of (enumerate_from start rest))) (drop_all start text past)

-- ---- the bytes that are left

pub left_nothing : (line : LineProgress) → left line [] ≡ []
unfolding left
left_nothing line = refl

pub left_drops : (line now : LineProgress) (m : Mark) (marks : List Mark) → now ≡ line_after line m.1 → is_dropped now m.1 ≡ true → left line (m ∷ marks) ≡ left now marks
unfolding left
left_drops line now m marks is drops = ap (λ l. if is_dropped l m.1 then left l marks else m ∷ left l marks) (sym is) ∙ ap (λ b. if b then left now marks else m ∷ left now marks) drops

pub left_keeps : (line now : LineProgress) (m : Mark) (marks : List Mark) → now ≡ line_after line m.1 → is_dropped now m.1 ≡ false → left line (m ∷ marks) ≡ m ∷ left now marks
unfolding left
left_keeps line now m marks is keeps = ap (λ l. if is_dropped l m.1 then left l marks else m ∷ left l marks) (sym is) ∙ ap (λ b. if b then left now marks else m ∷ left now marks) keeps

-- what is left from within a line that counts, its rest being the first of the lines
inside : List (List Mark) → List Mark
inside [] = []
inside (line ∷ lines) = filter (λ (m : Mark). not (is_space_or_tab m.1)) (line ++ flat_map (λ line. if begins_comment (bytes_of line) then [] else line) lines)

-- what is left from within a comment
beyond : List (List Mark) → List Mark
beyond [] = []
beyond (line ∷ lines) = bare lines

inside_more : (m : Mark) (lines : List (List Mark)) (blank : Bool) → is_space_or_tab m.1 ≡ blank → inside (onto_first m lines) ≡ (if blank then inside lines else m ∷ inside lines)
unfolding inside
inside_more m [] true e = rw e refl
inside_more m [] false e = rw e refl
inside_more m (line ∷ lines) true e = rw e refl
inside_more m (line ∷ lines) false e = rw e refl

beyond_more : (m : Mark) (lines : List (List Mark)) → beyond (onto_first m lines) ≡ beyond lines
unfolding beyond
beyond_more m [] = refl
beyond_more m (line ∷ lines) = refl

bare_comment : (m : Mark) (lines : List (List Mark)) → (m.1 == 35) ≡ true → bare (onto_first m lines) ≡ beyond lines
unfolding beyond
bare_comment m [] e = rw e refl
bare_comment m (line ∷ lines) e = rw e refl

bare_inside : (m : Mark) (lines : List (List Mark)) → (m.1 == 35) ≡ false → bare (onto_first m lines) ≡ inside (onto_first m lines)
unfolding inside
bare_inside m [] e = rw e refl
bare_inside m (line ∷ lines) e = rw e refl

-- what is left, from each place of a line
record IsLeft (marks : List Mark) : Type 0 where
  start : left Start marks ≡ bare (lines_of marks)
  counts : left Inside marks ≡ inside (lines_of marks)
  comment : left Comment marks ≡ beyond (lines_of marks)

or-true : (b : Bool) → (b || true) ≡ true
or-true true = refl
or-true false = refl

after_end : (line : LineProgress) (c : ℕ) → ends_line c ≡ true → Start ≡ line_after line c
after_end line c e = rw e refl

drops_end : (c : ℕ) → ends_line c ≡ true → is_dropped Start c ≡ true
drops_end c e = rw e (or-true (is_space_or_tab c))

left_end : (m : Mark) (marks : List Mark) → ends_line m.1 ≡ true → IsLeft marks → IsLeft (m ∷ marks)
unfolding inside beyond
left_end m marks e so_far =
    let lines : lines_of (m ∷ marks) ≡ [] ∷ lines_of marks = slice_split-cons_yes (λ (m : Mark). ends_line m.1) m marks e in
    let next : (line : LineProgress) → left line (m ∷ marks) ≡ bare (lines_of marks) =
    λ line. left_drops line Start m marks (after_end line m.1 e) (drops_end m.1 e) ∙ so_far.start in
    record {
      start = next Start ∙ sym (ap bare lines);
      counts = next Inside ∙ sym (ap inside lines);
      comment = next Comment ∙ sym (ap beyond lines);
    }

counts_by : (line : LineProgress) (m : Mark) (marks : List Mark) (blank : Bool) → ends_line m.1 ≡ false → Inside ≡ line_after line m.1 → is_space_or_tab m.1 ≡ blank →
    left line (m ∷ marks) ≡ (if blank then left Inside marks else m ∷ left Inside marks)
counts_by line m marks true e after b = left_drops line Inside m marks after (rw b refl)
counts_by line m marks false e after b = left_keeps line Inside m marks after (rw (b, e) refl)

left_counts : (line : LineProgress) (m : Mark) (marks : List Mark) → ends_line m.1 ≡ false → Inside ≡ line_after line m.1 → IsLeft marks →
    left line (m ∷ marks) ≡ inside (onto_first m (lines_of marks))
left_counts line m marks e after so_far =
    counts_by line m marks (is_space_or_tab m.1) e after refl
    ∙ ap (λ rest. if is_space_or_tab m.1 then rest else m ∷ rest) so_far.counts
    ∙ sym (inside_more m (lines_of marks) (is_space_or_tab m.1) refl)

left_first : (m : Mark) (marks : List Mark) (hash : Bool) → ends_line m.1 ≡ false → (m.1 == 35) ≡ hash → IsLeft marks →
    left Start (m ∷ marks) ≡ bare (onto_first m (lines_of marks))
left_first m marks true e h so_far =
    left_drops Start Comment m marks (rw (e, h) refl) refl ∙ so_far.comment ∙ sym (bare_comment m (lines_of marks) h)
left_first m marks false e h so_far =
    left_counts Start m marks e (rw (e, h) refl) so_far ∙ sym (bare_inside m (lines_of marks) h)

left_more : (m : Mark) (marks : List Mark) → ends_line m.1 ≡ false → IsLeft marks → IsLeft (m ∷ marks)
left_more m marks e so_far =
    let lines : lines_of (m ∷ marks) ≡ onto_first m (lines_of marks) = slice_split-cons_no (λ (m : Mark). ends_line m.1) m marks e in
    record {
      start = left_first m marks (m.1 == 35) e refl so_far ∙ sym (ap bare lines);
      counts = left_counts Inside m marks e (rw e refl) so_far ∙ sym (ap inside lines);
      comment = left_drops Comment Comment m marks (rw e refl) refl ∙ so_far.comment ∙ sym (ap beyond lines ∙ beyond_more m (lines_of marks));
    }

left_any : (m : Mark) (marks : List Mark) (ends : Bool) → ends_line m.1 ≡ ends → IsLeft marks → IsLeft (m ∷ marks)
left_any m marks true e so_far = left_end m marks e so_far
left_any m marks false e so_far = left_more m marks e so_far

all_left : (marks : List Mark) → IsLeft marks
unfolding left inside beyond
all_left [] = record { start = refl; counts = refl; comment = refl }
all_left (m ∷ marks) = left_any m marks (ends_line m.1) refl (all_left marks)

pub left_is_bare : (marks : List Mark) → left Start marks ≡ bare (lines_of marks)
left_is_bare marks = (all_left marks).start
