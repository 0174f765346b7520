-- Files of MCell (Mirek's Cellebration): the tokens of their lines `#L`, and where the board puts the cells.
use Rattle.std.specs.Prelude.{ℕ, ◌+◌, ◌-◌, ◌/◌, pos, neg_ℤ, Bool, ◌||◌, ◌&&◌, List, [], ◌∷◌, ◌++◌, codes, fold, length, map, min, nat_le, replicate, ◌==◌, if◌then◌else◌, Option, Some, None, Result, Ok, Err}
use Rattle.std.specs.List.{flat_map}
use Rattle.pattern_cells.specs.declared.pattern.PatternCell.{PatternCell}
use Rattle.pattern_cells.specs.Pattern.{RlePattern}
use Rattle.multistate_rle.specs.declared.fault.RleFault.{RleFault}
use Rattle.multistate_rle.specs.declared.fault.RleFault.TheVariants.{Header}
use Rattle.multistate_rle.specs.HeaderLine.{text_lines}
use Rattle.multistate_rle.specs.Reading.{width_of, height_of}
use Rattle.generations_rule.specs.Refusal.{◌>>=◌}
use Rattle.text_scan.specs.Bytes.{is_decimal_digit, is_space_or_tab}
use Rattle.pattern_files.specs.Kinds.{begins_with}
use Rattle.cell_files.specs.Drawn.{drawn}
use Rattle.cell_files.specs.Heads.{behind_word, board_told}
use Rattle.cell_files.specs.declared.board.Board.{Board}

-- ---- tokens

-- the letter before a state's letter that stands for 24 states more
abbrev pub is_mcell_prefix : ℕ → Bool
is_mcell_prefix byte = nat_le 97 byte && nat_le byte 106

-- what means the same in both: a digit of a count, `.`, `$`, `A` to `X`, and a blank, which means nothing
abbrev pub is_common_byte : ℕ → Bool
is_common_byte byte = is_decimal_digit byte || byte == 46 || byte == 36 || (nat_le 65 byte && nat_le byte 88) || is_space_or_tab byte

-- A byte of MCell's tokens as RLE has it: `a` to `j` are `p` to `y`, and what MCell has not is a byte that RLE has not, `?`.
abbrev pub rle_byte : ℕ → ℕ
rle_byte byte = if is_common_byte byte then byte else (if is_mcell_prefix byte then byte + 15 else 63)

abbrev pub blanks : ℕ → List ℕ
blanks count = replicate count 32

-- the tokens of a line, of which `#L` and the blank behind it are not; other lines have none
abbrev pub line_tokens : List ℕ → Option (List ℕ) → List ℕ
line_tokens line (Some tokens) = blanks 2 ++ map rle_byte tokens
line_tokens line None = blanks (length line)

-- a line's tokens, and its end, which means nothing: tokens run on over lines
abbrev pub line_bytes : List ℕ → List ℕ
line_bytes line = line_tokens line (behind_word (codes "#L") line) ++ 32 ∷ []

-- the tokens of a text, each in its own place, as RLE spells them
abbrev pub mcell_tokens : List ℕ → List ℕ
mcell_tokens text = flat_map line_bytes (text_lines text)

-- ---- the board

-- the least number of a list; 0 where it is empty
abbrev pub least_of : (PatternCell → ℕ) → List PatternCell → ℕ
least_of f [] = 0
least_of f (cell ∷ cells) = fold (λ n cell. min n (f cell)) (f cell) cells

-- how many columns, and how many rows, the least box of all cells has
abbrev pub columns_of : List PatternCell → ℕ
columns_of cells = width_of 0 cells - least_of (λ cell. cell.column) cells

abbrev pub rows_of : List PatternCell → ℕ
rows_of cells = height_of 0 cells - least_of (λ cell. cell.row) cells

-- How far a board with such a side moves a box with such a one to the left, or upwards. Its middle is at 0, and of the columns
-- left over half stand in front of the box: of a side S and a box of B they go from 0 to h(S - B + 1) - h(S), where h halves
-- towards 0.
abbrev pub moved_back : ℕ → ℕ → ℕ
moved_back side box =
    if nat_le box (side + 1) then side / 2 - (side + 1 - box) / 2 else side / 2 + (box - (side + 1)) / 2

abbrev pub placed_on : Option Board → RlePattern → RlePattern
placed_on None p = p
placed_on (Some board) p =
    record p { pos = (neg_ℤ (pos (moved_back board.width (columns_of p.cells))), neg_ℤ (pos (moved_back board.height (rows_of p.cells)))) }

-- the pattern of a text, or its first fault
abbrev pub mcell_parsed : List ℕ → Result RlePattern RleFault
mcell_parsed text =
    if begins_with (codes "#MCell") text then (drawn (length text) (mcell_tokens text) >>= λ p. Ok (placed_on (board_told text) p)) else Err Header
