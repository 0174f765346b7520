-- Reading an RLE text. Each byte carries its place in the whole text, so comment lines, blanks and line ends can be
-- dropped first; what is left is a row of tokens.
use Rattle.std.specs.Prelude.{ℕ, ◌+◌, ◌-◌, ◌*◌, ◌^◌, Bool, false, not, ◌||◌, ◌&&◌, List, [], ◌∷◌, map, length, nat_lt, nat_le, ◌==◌, if◌then◌else◌, filter, Option, Some, None, Result, Ok, Err, fold, max, unwrap_or, ⊤, ◌≡◌}
use Rattle.std.specs.List.{list_all, enumerate_from, slice_split, flat_map}
use Rattle.generations_rule.specs.Refusal.{when, first_of, ◌>>=◌}
use Rattle.pattern_cells.specs.declared.pattern.PatternCell.{PatternCell}
use Rattle.multistate_rle.specs.declared.fault.RleFault.{RleFault}
use Rattle.multistate_rle.specs.declared.fault.RleFault.TheVariants.{Header, Tag, Count, State, TooMany}
use Rattle.multistate_rle.specs.Role.{RoleValue}
use Rattle.multistate_rle.specs.Role as role
use Rattle.text_scan.specs.Bytes.{is_decimal_digit, is_space_or_tab, ends_line}
use Rattle.multistate_rle.specs.Tokens.{Token, Cells, Rows, cells_drawn}
use Rattle.pattern_cells.specs.Pattern.{RlePattern}
use Rattle.multistate_rle.specs.Header.{header_of}
use Rattle.multistate_rle.specs.Position.{OriginValue, origin_from, no_items, origin_in}

-- a place and the byte there
abbrev pub Mark : Type 0
Mark = ℕ × ℕ

-- ---- one byte of the tokens

-- `p` to `y`
abbrev pub is_prefix_byte : ℕ → Bool
is_prefix_byte c = nat_le 112 c && nat_le c 121

-- `A` to `X`
abbrev pub is_letter : ℕ → Bool
is_letter c = nat_le 65 c && nat_le c 88

-- what a byte is where no prefix stands before it; the letters and the end mark aside
abbrev pub bare_role : ℕ → RoleValue
bare_role c =
    if is_decimal_digit c then role.Digit (c - 48)
    else (if is_prefix_byte c then role.Prefix (c - 111)
    else (if c == 46 || c == 98 then role.State 0
    else (if c == 111 then role.State 1
    else (if c == 36 then role.RowEnd else role.Stray))))

-- What a byte is in a row of tokens, behind a prefix (1 for `p` to 10 for `y`) or none.
abbrev pub role_of : Option ℕ → ℕ → RoleValue
role_of prefix c =
    if c == 33 then role.EndMark
    else (if is_letter c then role.State (24 * unwrap_or prefix 0 + (c - 64))
    else elim prefix [ None ↦ bare_role c | Some k ↦ role.Stray ])

-- ---- tokens

-- what is read of a token that is not at its end: the place of its first byte, its count and its prefix, where it has them
pub record BegunValue : Type 0 where
  pub place : Option ℕ
  pub count : Option ℕ
  pub prefix : Option ℕ

abbrev pub fresh : BegunValue
fresh = record { place = None; count = None; prefix = None }

-- one digit more, of a count or of a new token
abbrev pub with_digit : ℕ → ℕ → BegunValue → BegunValue
with_digit place digit b = record b { place = Some (unwrap_or b.place place); count = Some (10 * unwrap_or b.count 0 + digit) }

abbrev pub with_prefix : ℕ → ℕ → BegunValue → BegunValue
with_prefix place k b = record b { place = Some (unwrap_or b.place place); prefix = Some k }

-- the end of the tokens, at a place: no prefix may stand alone
abbrev pub tokens_ended : ℕ → BegunValue → Result (List Token) RleFault
tokens_ended place b = elim b.prefix [ None ↦ Ok [] | Some k ↦ Err (Tag place) ]

-- where the next token draws, and how many nonzero cells were drawn before it
pub record Pen : Type 0 where
  pub column : ℕ
  pub row : ℕ
  pub cells : ℕ

abbrev pub start : Pen
start = record { column = 0; row = 0; cells = 0 }

abbrev pub cells_of : Token → ℕ
cells_of (Cells n s) = if s == 0 then 0 else n
cells_of (Rows n) = 0

abbrev pub pen_after : Token → Pen → Pen
pen_after (Cells n s) pen = record { column = pen.column + n; row = pen.row; cells = pen.cells + cells_of (Cells n s) }
pen_after (Rows n) pen = record { column = 0; row = pen.row + n; cells = pen.cells }

-- What is wrong with a token at a place: there is no such state; the count is 0 or leads too far; there are more
-- than 2^20 nonzero cells. The first of these is answered.
abbrev pub fault_of : ℕ → Pen → Token → Option RleFault
fault_of place pen (Cells n s) = first_of (
    when (nat_lt 255 s) (State place)
    ∷ when (n == 0 || nat_lt (2 ^ 32) (pen.column + n)) (Count place)
    ∷ when (nat_lt (2 ^ 20) (pen.cells + cells_of (Cells n s))) TooMany
    ∷ [])
fault_of place pen (Rows n) = when (n == 0 || nat_lt (2 ^ 32 - 1) (pen.row + n)) (Count place)

-- no token is faulty
abbrev pub AreFine : Pen → List Token → Type 0
AreFine pen [] = ⊤
AreFine pen (token ∷ tokens) = (fault_of 0 pen token ≡ None) × AreFine (pen_after token pen) tokens

-- a token, unless it is faulty, and what was read behind it
abbrev pub followed : Option RleFault → Token → Result (List Token) RleFault → Result (List Token) RleFault
followed (Some fault) token rest = Err fault
followed None token rest = rest >>= λ tokens. Ok (token ∷ tokens)

-- The tokens in order, up to the end mark or the end of the text. The first fault is answered.
abbrev pub tokens_of : ℕ → List Mark → BegunValue → Pen → Result (List Token) RleFault
tokens_of end [] b pen = tokens_ended end b
tokens_of end (m ∷ marks) b pen =
    let place = unwrap_or b.place m.0 in
    let count = unwrap_or b.count 1 in
    elim (role_of b.prefix m.1) [
      | role.EndMark ↦ tokens_ended m.0 b
      | role.Digit d ↦ tokens_of end marks (with_digit m.0 d b) pen
      | role.Prefix k ↦ tokens_of end marks (with_prefix m.0 k b) pen
      | role.State s ↦ followed (fault_of place pen (Cells count s)) (Cells count s) (tokens_of end marks fresh (pen_after (Cells count s) pen))
      | role.RowEnd ↦ followed (fault_of place pen (Rows count)) (Rows count) (tokens_of end marks fresh (pen_after (Rows count) pen))
      | role.Stray ↦ Err (Tag m.0)
    ]

-- ---- lines

abbrev pub lines_of : List Mark → List (List Mark)
lines_of marks = slice_split (λ m. ends_line m.1) marks

abbrev pub bytes_of : List Mark → List ℕ
bytes_of marks = map (λ m. m.1) marks

abbrev pub begins_comment : List ℕ → Bool
begins_comment [] = false
begins_comment (c ∷ line) = c == 35

-- the bytes of lines that are not comments, without blanks
abbrev pub bare : List (List Mark) → List Mark
bare lines = filter (λ m. not (is_space_or_tab m.1)) (flat_map (λ line. if begins_comment (bytes_of line) then [] else line) lines)

-- ---- the whole text

abbrev pub width_of : ℕ → List PatternCell → ℕ
width_of w cells = fold (λ n cell. max n (cell.column + 1)) w cells

abbrev pub height_of : ℕ → List PatternCell → ℕ
height_of h cells = fold (λ n cell. max n (cell.row + 1)) h cells

-- the pattern of nonzero cells: a side is the header's, or what the cells need if that is more
abbrev pub pattern_of : OriginValue → ℕ × ℕ → List PatternCell → RlePattern
pattern_of origin sides cells = record {
  width = width_of sides.0 cells;
  height = height_of sides.1 cells;
  pos = origin.pos;
  generation = origin.generation;
  cells = cells;
}

-- the first of two, if there is one
abbrev pub or_else : {A : Type 0} → Option A → Option A → Option A
or_else (Some x) y = Some x
or_else None y = y

-- the cells that the tokens of some bytes draw, or the first fault
abbrev pub cells_read : ℕ → List Mark → Result (List PatternCell) RleFault
cells_read end marks = tokens_of end marks fresh start >>= λ tokens. Ok (cells_drawn tokens 0 0)

-- the lines behind a header
abbrev pub body_read : ℕ → OriginValue → ℕ × ℕ → List (List Mark) → Result RlePattern RleFault
body_read end origin sides lines = cells_read end (bare lines) >>= λ cells. Ok (pattern_of origin sides cells)

-- the lines from a header on, if it is one
abbrev pub header_read : ℕ → OriginValue → Option (ℕ × ℕ) → List (List Mark) → Result RlePattern RleFault
header_read end origin None lines = Err Header
header_read end origin (Some sides) lines = body_read end origin sides lines

-- The lines of a text: the first well formed `#CXRLE` line before the header gives the origin; the first line that is
-- neither a comment nor blank is the header.
abbrev pub lines_read : ℕ → Option OriginValue → List (List Mark) → Result RlePattern RleFault
lines_read end origin [] = Err Header
lines_read end origin (line ∷ lines) =
    if begins_comment (bytes_of line) then lines_read end (or_else origin (origin_in (bytes_of line))) lines
    else (if list_all is_space_or_tab (bytes_of line) then lines_read end origin lines
    else header_read end (unwrap_or origin (origin_from no_items)) (header_of (bytes_of line)) lines)

-- the pattern of a text, or its first fault
abbrev pub parsed : List ℕ → Result RlePattern RleFault
parsed text = lines_read (length text) None (lines_of (enumerate_from 0 text))
