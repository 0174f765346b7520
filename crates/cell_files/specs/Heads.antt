-- What the lines of an MCell file tell beside its tokens: the rule and the board.
use Rattle.std.specs.Prelude.{ℕ, ◌+◌, ◌-◌, Bool, true, false, not, List, [], ◌∷◌, codes, fold, length, ◌==◌, if◌then◌else◌, Option, Some, None}
use Rattle.std.specs.List.{before_first}
use Rattle.std.specs.Option.{option_or, unwrap_or}
use Rattle.std.specs.Str.{bytes_eq}
use Rattle.text_scan.specs.Bytes.{is_space_or_tab, is_decimal_digit, front, past_prefix, ◌>=>◌, behind_all, text_behind, decimal_number}
use Rattle.multistate_rle.specs.HeaderLine.{text_lines}
use Rattle.header_rules.specs.declared.header.HeaderRule.{HeaderRule}
use Rattle.header_rules.specs.HeaderRule.{told_as}
use Rattle.cell_files.specs.declared.board.Board.{Board}
use Rattle.cell_files.specs.declared.head.Head.{Head}

-- nothing, or a blank in front
abbrev pub ends_word : List ℕ → Bool
ends_word [] = true
ends_word (byte ∷ rest) = is_space_or_tab byte

-- what stands behind a word with which a line begins
abbrev pub behind_word : List ℕ → List ℕ → Option (List ℕ)
behind_word word line = behind_all word line >=> λ rest. if ends_word rest then Some rest else None

-- the same, without the blanks in front
abbrev pub value_behind : List ℕ → List ℕ → Option (List ℕ)
value_behind word line = behind_word word line >=> λ rest. Some (past_prefix is_space_or_tab rest)

-- the first word of a text that begins with it
abbrev pub first_word : List ℕ → List ℕ
first_word text = before_first is_space_or_tab text

-- ---- lines

-- the rule behind `#RULE` of a line that begins at a place
abbrev pub rule_in_line : ℕ → List ℕ → Option HeaderRule
rule_in_line start line = value_behind (codes "#RULE") line >=> λ rest. told_as (start + (length line - length rest)) (first_word rest) None

-- `WxH`, which is a board unless both are 0
abbrev pub board_spelled : List ℕ → Option Board
board_spelled word =
    decimal_number 4294967295 (front is_decimal_digit word) >=> λ width. text_behind 120 (past_prefix is_decimal_digit word) >=> λ rest.
    decimal_number 4294967295 rest >=> λ height. if width + height == 0 then None else Some (record { width = width; height = height })

abbrev pub board_in_line : List ℕ → Option Board
board_in_line line = value_behind (codes "#BOARD") line >=> λ rest. board_spelled (first_word rest)

-- whether a board's edges are joined, as a line says: `#WRAP 0`, or another word
abbrev pub wrap_in_line : List ℕ → Option Bool
wrap_in_line line = value_behind (codes "#WRAP") line >=> λ rest. Some (not (bytes_eq (first_word rest) (codes "0")))

-- ---- the whole text: of two lines that tell one thing the last counts

abbrev pub no_head : Head
no_head = record { start = 0; rule = None; board = None; wraps = false }

-- what is told with one line more, and where the next begins
abbrev pub with_line : Head → List ℕ → Head
with_line head line = record {
  start = head.start + (length line + 1);
  rule = option_or (rule_in_line head.start line) head.rule;
  board = option_or (board_in_line line) head.board;
  wraps = unwrap_or (wrap_in_line line) head.wraps;
}

abbrev pub head_of : List ℕ → Head
head_of text = fold with_line no_head (text_lines text)

abbrev pub board_told : List ℕ → Option Board
board_told text = (head_of text).board
