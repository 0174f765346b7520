-- What the text of a macrocell says (Golly's help, "File formats: Macrocell format").
use Rattle.std.specs.Prelude.{ℕ, ◌+◌, ◌-◌, Bool, false, ◌||◌, List, [], ◌∷◌, ◌++◌, codes, length, ◌==◌, if◌then◌else◌, Option, Some, None, Result, Ok, Err, nat_eq}
use Rattle.std.specs.List.{before_first, list_all, starts_with}
use Rattle.std.specs.Option.{option_or, unwrap_or}
use Rattle.generations_rule.specs.Refusal.{◌>>=◌}
use Rattle.multistate_rle.specs.HeaderLine.{text_lines}
use Rattle.text_scan.specs.Bytes.{is_space_or_tab}
use Rattle.macrocell_text.specs.declared.fault.MacrocellFault.{MacrocellFault}
use Rattle.macrocell_text.specs.declared.fault.MacrocellFault.TheVariants.{Header, Square}
use Rattle.macrocell_text.specs.declared.head.RulePlace.{RulePlace}
use Rattle.macrocell_text.specs.declared.leaves.Leaves.{Leaves}
use Rattle.macrocell_text.specs.declared.leaves.Leaves.TheVariants.{ByRows, ByStates}
use Rattle.macrocell_lines.specs.Squares.{StateSquare}
use Rattle.macrocell_text.specs.Marks.{rows_told}
use Rattle.macrocell_text.specs.Numbers.{number_told}
use Rattle.macrocell_text.specs.SquareLines.{is_other, leaves_with, level_told, quarters_told}
use Rattle.macrocell_text.specs.Heads.{generation_in_line, rule_in_line}
use Rattle.macrocell_text.specs.Macrocells.{MacrocellTold}

-- what lines told, and the place where the next one begins
pub record Reading : Type 0 where
  pub start : ℕ
  pub rule : Option RulePlace
  pub generation : ℕ
  pub leaves : Option Leaves
  pub squares : List StateSquare

-- a square line more
abbrev pub with_square : Reading → Option Leaves → StateSquare → Reading
with_square r leaves q = record r { leaves = leaves; squares = r.squares ++ q ∷ [] }

-- a line of rows: what stands behind a blank is passed over
abbrev pub with_rows : Reading → List ℕ → Result Reading MacrocellFault
with_rows r line =
    if is_other r.leaves ByRows then Err (Square r.start)
    else rows_told r.start (before_first is_space_or_tab line) >>= λ q. Ok (with_square r (Some ByRows) q)

-- the level and the square that a line of numbers tells behind others
abbrev pub square_numbers : ℕ → Option Leaves → List StateSquare → List ℕ → Result (ℕ × StateSquare) MacrocellFault
square_numbers line_end leaves squares line =
    number_told line_end line >>= λ first. level_told leaves first >>= λ level. quarters_told line_end (level - 1) squares first.rest >>= λ q. Ok (level, q)

-- a line of numbers
abbrev pub with_numbers : Reading → List ℕ → Result Reading MacrocellFault
with_numbers r line =
    square_numbers (r.start + length line) r.leaves r.squares line >>= λ told. Ok (with_square r (leaves_with r.leaves told.0) told.1)

-- a line that begins with `#`: of two that tell one thing the last counts
abbrev pub with_comment : Reading → List ℕ → Reading
with_comment r line = record r { rule = option_or (rule_in_line r.start line) r.rule; generation = unwrap_or (generation_in_line line) r.generation }

abbrev pub begins_comment : List ℕ → Bool
begins_comment [] = false
begins_comment (byte ∷ rest) = byte == 35

-- it begins with `.`, `*` or `$`
abbrev pub begins_rows : List ℕ → Bool
begins_rows [] = false
begins_rows (byte ∷ rest) = byte == 46 || (byte == 42 || byte == 36)

-- what is told with one line more; a blank one tells nothing
abbrev pub with_told : Reading → List ℕ → Result Reading MacrocellFault
with_told r line =
    if list_all is_space_or_tab line then Ok r
    else (if begins_comment line then Ok (with_comment r line)
    else (if begins_rows line then with_rows r line else with_numbers r line))

-- the next line begins behind the line and its end
abbrev pub with_line : Reading → List ℕ → Result Reading MacrocellFault
with_line r line = with_told r line >>= λ told. Ok (record told { start = told.start + (length line + 1) })

-- what is told with lines more, or the first fault
abbrev pub with_lines : Reading → List (List ℕ) → Result Reading MacrocellFault
with_lines r [] = Ok r
with_lines r (line ∷ lines) = with_line r line >>= λ told. with_lines told lines

-- nothing is told behind a first line
abbrev pub nothing_told : List ℕ → Reading
nothing_told first = record { start = length first + 1; rule = None; generation = 0; leaves = None; squares = [] }

abbrev pub is_first_line : List ℕ → Bool
is_first_line line = starts_with nat_eq line (codes "[M2]")

abbrev pub told_of : Reading → MacrocellTold
told_of r = record { rule = r.rule; generation = r.generation; squares = r.squares }

abbrev pub lines_read : List (List ℕ) → Result MacrocellTold MacrocellFault
lines_read [] = Err Header
lines_read (first ∷ lines) = if is_first_line first then (with_lines (nothing_told first) lines >>= λ r. Ok (told_of r)) else Err Header

-- what a text tells, or the first fault from the left
abbrev pub macrocell_read : List ℕ → Result MacrocellTold MacrocellFault
macrocell_read text = lines_read (text_lines text)

-- the lines that are left of a text, if any are
abbrev pub lines_left : Option (List ℕ) → List (List ℕ)
lines_left None = []
lines_left (Some rest) = text_lines rest
