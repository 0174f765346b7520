-- A text is refused as one without a header exactly where it has none.
use Rattle.std.proofs.Common.{◌≡◌, ℕ, ◌+◌, ◌-◌, ◌^◌, Bool, true, false, List, [], ◌∷◌, refl, sym, ◌∙◌, ap, length, map}
use Rattle.std.specs.Prelude.{Option, Some, None, Ok, Err, Result, unwrap_or, not, ◌||◌, ◌==◌, nat_lt, filter}
use Rattle.std.specs.List.{list_all, enumerate_from, onto_first}
use Rattle.std.proofs.lemmas.List.Splits.{slice_split-cons_yes, slice_split-cons_no}
use Rattle.generations_rule.specs.Refusal.{when, first_of, ◌>>=◌}
use Rattle.multistate_rle.specs.declared.fault.RleFault.{RleFault}
use Rattle.multistate_rle.specs.declared.fault.RleFault.TheVariants.{Header, Tag, Count, State, TooMany}
use Rattle.multistate_rle.specs.Role.{RoleValue}
use Rattle.multistate_rle.specs.Role as role
use Rattle.text_scan.specs.Bytes.{is_space_or_tab, ends_line}
use Rattle.multistate_rle.specs.Header.{header_of}
use Rattle.multistate_rle.specs.HeaderLine.{text_lines, may_precede, first_header}
use Rattle.multistate_rle.specs.Position.{OriginValue, origin_in, origin_from, no_items}
use Rattle.multistate_rle.specs.Tokens.{Token, Cells, Rows, cells_drawn}
use Rattle.multistate_rle.specs.Reading.{Mark, BegunValue, Pen, start, fresh, with_digit, with_prefix, pen_after, cells_of, fault_of, tokens_ended, followed, role_of, tokens_of, bytes_of, bare, lines_of, begins_comment, or_else, pattern_of, cells_read, body_read, header_read, lines_read}
use Rattle.multistate_rle.specs.Laws.{RefusesWithoutHeader}
use Rattle.multistate_rle.proofs.ReadLemmas.{by_role, step_is}

-- ---- no fault of a token is the header's

three_never : (a b c : Bool) (place : ℕ) → first_of (when a (State place) ∷ when b (Count place) ∷ when c TooMany ∷ []) ≡ Some Header → ⊥
three_never true b c place is = absurd (cc)
three_never false true c place is = absurd (cc)
three_never false false true place is = absurd (cc)
three_never false false false place is = absurd (cc)

one_never : (a : Bool) (place : ℕ) → when a (Count place) ≡ Some Header → ⊥
one_never true place is = absurd (cc)
one_never false place is = absurd (cc)

fault_never : (place : ℕ) (pen : Pen) (token : Token) → fault_of place pen token ≡ Some Header → ⊥
fault_never place pen (Cells n s) is =
    three_never (nat_lt 255 s) (n == 0 || nat_lt (2 ^ 32) (pen.column + n)) (nat_lt (2 ^ 20) (pen.cells + cells_of (Cells n s))) place is
fault_never place pen (Rows n) is = one_never (n == 0 || nat_lt (2 ^ 32 - 1) (pen.row + n)) place is

followed_never : (fault : Option RleFault) (token : Token) (rest : Result (List Token) RleFault) → (fault ≡ Some Header → ⊥) → (rest ≡ Err Header → ⊥) → followed fault token rest ≡ Err Header → ⊥
followed_never (Some fault) token rest first later is = first (cc)
followed_never None token (Ok tokens) first later is = absurd (cc)
followed_never None token (Err fault) first later is = later (cc)

ended_never : (place : ℕ) (prefix : Option ℕ) (b : BegunValue) → b.prefix ≡ prefix → tokens_ended place b ≡ Err Header → ⊥
ended_never place None b is read = let e : tokens_ended place b ≡ Ok [] = rw is refl in absurd (cc)
ended_never place (Some k) b is read = let e : tokens_ended place b ≡ Err (Tag place) = rw is refl in absurd (cc)

role_never : (end : ℕ) (m : Mark) (marks : List Mark) (b : BegunValue) (pen : Pen) (r : RoleValue) →
    ((b : BegunValue) (pen : Pen) → tokens_of end marks b pen ≡ Err Header → ⊥) → by_role end m marks b pen r ≡ Err Header → ⊥
role_never end m marks b pen role.EndMark never is = ended_never m.0 b.prefix b refl is
role_never end m marks b pen (role.Digit d) never is = never (with_digit m.0 d b) pen is
role_never end m marks b pen (role.Prefix k) never is = never (with_prefix m.0 k b) pen is
role_never end m marks b pen (role.State s) never is =
    let token = Cells (unwrap_or b.count 1) s in
    followed_never _ token (tokens_of end marks fresh (pen_after token pen)) (fault_never (unwrap_or b.place m.0) pen token) (never fresh (pen_after token pen)) is
role_never end m marks b pen role.RowEnd never is =
    let token = Rows (unwrap_or b.count 1) in
    followed_never _ token (tokens_of end marks fresh (pen_after token pen)) (fault_never (unwrap_or b.place m.0) pen token) (never fresh (pen_after token pen)) is
role_never end m marks b pen role.Stray never is = absurd (cc)

tokens_never : (end : ℕ) (marks : List Mark) (b : BegunValue) (pen : Pen) → tokens_of end marks b pen ≡ Err Header → ⊥
tokens_never end [] b pen is = ended_never end b.prefix b refl is
tokens_never end (m ∷ marks) b pen is =
    role_never end m marks b pen (role_of b.prefix m.1) (λ b pen rest. tokens_never end marks b pen rest) (sym (step_is end m marks b pen (role_of b.prefix m.1) refl) ∙ is)

drawn_never : (read : Result (List Token) RleFault) → (read ≡ Err Header → ⊥) → (read >>= λ tokens. Ok (cells_drawn tokens 0 0)) ≡ Err Header → ⊥
drawn_never (Ok tokens) never is = absurd (cc)
drawn_never (Err fault) never is = never (cc)

pub cells_never : (end : ℕ) (marks : List Mark) → cells_read end marks ≡ Err Header → ⊥
cells_never end marks is = drawn_never (tokens_of end marks fresh start) (tokens_never end marks fresh start) is

-- nor is any fault of what stands behind a header
pub body_never : (end : ℕ) (origin : OriginValue) (sides : ℕ × ℕ) (lines : List (List Mark)) → body_read end origin sides lines ≡ Err Header → ⊥
body_never end origin sides lines is = boxed (cells_read end (bare lines)) (cells_never end (bare lines)) is
  where
    boxed : (cells : Result _ RleFault) → (cells ≡ Err Header → ⊥) → (cells >>= λ cells. Ok (pattern_of origin sides cells)) ≡ Err Header → ⊥
    boxed (Ok cells) never is = absurd (cc)
    boxed (Err fault) never is = never (cc)

-- ---- the lines, with their places or without

plain_first : (m : Mark) (lines : List (List Mark)) → map bytes_of (onto_first m lines) ≡ onto_first m.1 (map bytes_of lines)
plain_first m [] = refl
plain_first m (line ∷ lines) = refl

plain_step : (n c : ℕ) (text : List ℕ) (ends : Bool) → ends_line c ≡ ends → map bytes_of (lines_of (enumerate_from (n + 1) text)) ≡ text_lines text →
    map bytes_of (lines_of (enumerate_from n (c ∷ text))) ≡ text_lines (c ∷ text)
plain_step n c text true e rest =
    ap (map bytes_of) (slice_split-cons_yes (λ (m : Mark). ends_line m.1) (n, c) (enumerate_from (n + 1) text) e) ∙ ap (λ lines. [] ∷ lines) rest ∙ sym (slice_split-cons_yes ends_line c text e)
plain_step n c text false e rest =
    ap (map bytes_of) (slice_split-cons_no (λ (m : Mark). ends_line m.1) (n, c) (enumerate_from (n + 1) text) e)
    ∙ plain_first (n, c) (lines_of (enumerate_from (n + 1) text)) ∙ ap (onto_first c) rest ∙ sym (slice_split-cons_no ends_line c text e)

plain_lines : (n : ℕ) (text : List ℕ) → map bytes_of (lines_of (enumerate_from n text)) ≡ text_lines text
plain_lines n [] = refl
plain_lines n (c ∷ text) = plain_step n c text (ends_line c) refl (plain_lines (n + 1) text)

-- ---- the first line that is neither a comment nor blank decides

abbrev header_in : List (List ℕ) → Option (ℕ × ℕ)
header_in lines = first_header (filter (λ line. not (may_precede line)) lines)

abbrev Decides : ℕ → Option OriginValue → List (List Mark) → Type 0
Decides end origin lines =
    (header_in (map bytes_of lines) ≡ None → lines_read end origin lines ≡ Err Header)
    × (lines_read end origin lines ≡ Err Header → header_in (map bytes_of lines) ≡ None)

header_decides : (end : ℕ) (origin : OriginValue) (lines : List (List Mark)) (header found : Option (ℕ × ℕ)) → header ≡ found →
    (header ≡ None → header_read end origin header lines ≡ Err Header) × (header_read end origin header lines ≡ Err Header → header ≡ None)
header_decides end origin lines header None is = (λ none. ap (λ h. header_read end origin h lines) is, λ read. is)
header_decides end origin lines header (Some sides) is =
    (λ none. absurd (cc), λ read. absurd (body_never end origin sides lines (sym (ap (λ h. header_read end origin h lines) is) ∙ read)))

line_decides : (end : ℕ) (origin : Option OriginValue) (line : List Mark) (lines : List (List Mark)) (comment blank : Bool) → begins_comment (bytes_of line) ≡ comment → list_all is_space_or_tab (bytes_of line) ≡ blank →
    ((origin : Option OriginValue) → Decides end origin lines) → Decides end origin (line ∷ lines)
line_decides end origin line lines true blank c b rest = rw c (rest (or_else origin (origin_in (bytes_of line))))
line_decides end origin line lines false true c b rest = rw (c, b) (rest origin)
line_decides end origin line lines false false c b rest =
    rw (c, b) (header_decides end (unwrap_or origin (origin_from no_items)) lines (header_of (bytes_of line)) (header_of (bytes_of line)) refl)

lines_decide : (end : ℕ) (origin : Option OriginValue) (lines : List (List Mark)) → Decides end origin lines
lines_decide end origin [] = (λ none. refl, λ read. refl)
lines_decide end origin (line ∷ lines) =
    line_decides end origin line lines (begins_comment (bytes_of line)) (list_all is_space_or_tab (bytes_of line)) refl refl (λ origin. lines_decide end origin lines)

pub refuses_without_header : RefusesWithoutHeader
refuses_without_header text =
    let lines = lines_of (enumerate_from 0 text) in
    let decides = lines_decide (length text) None lines in
    let same = ap header_in (plain_lines 0 text) in
    (λ none. decides.0 (same ∙ none), λ read. sym same ∙ decides.1 read)
