-- What a file says: its cells, its rule and its bounds.
use Rattle.std.specs.Prelude.{ℕ, Bool, List, ◌++◌, codes, decimal, drop, take, if◌then◌else◌, Option, Some, None, Result}
use Rattle.text_scan.specs.Bytes.{◌>=>◌}
use Rattle.pattern_cells.specs.Pattern.{RlePattern}
use Rattle.multistate_rle.specs.declared.fault.RleFault.{RleFault}
use Rattle.multistate_rle.specs.HeaderLine.{HasNoHeader}
use Rattle.multistate_rle.specs.Reading.{parsed}
use Rattle.header_rules.specs.declared.header.HeaderRule.{HeaderRule}
use Rattle.header_rules.specs.declared.header.HeaderBounds.{HeaderBounds}
use Rattle.header_rules.specs.HeaderRule.{header_rule_told}
use Rattle.cell_files.specs.declared.format.CellFormat.{CellFormat}
use Rattle.cell_files.specs.declared.format.CellFormat.TheVariants as formats
use Rattle.cell_files.specs.Formats.{format_of}
use Rattle.cell_files.specs.Heads.{head_of}
use Rattle.cell_files.specs.declared.board.Board.{Board}
use Rattle.cell_files.specs.declared.head.Head.{Head}
use Rattle.cell_files.specs.MCell.{mcell_parsed}
use Rattle.cell_files.specs.Plaintext.{plaintext_parsed}

-- the pattern of a text of a format, or its first fault; what has no reader here is read as RLE, and refused as that
abbrev pub parsed_as : CellFormat → List ℕ → Result RlePattern RleFault
parsed_as formats.MCell text = mcell_parsed text
parsed_as formats.Plaintext text = plaintext_parsed text
parsed_as formats.Rle text = parsed text
parsed_as formats.Macrocell text = parsed text
parsed_as formats.State text = parsed text
parsed_as formats.Document text = parsed text

abbrev pub file_parsed : List ℕ → Result RlePattern RleFault
file_parsed text = parsed_as (format_of text) text

-- a text of a format is read as RLE, and has no header
abbrev pub LacksHeaderAs : CellFormat → List ℕ → Type 0
LacksHeaderAs formats.MCell text = ⊥
LacksHeaderAs formats.Plaintext text = ⊥
LacksHeaderAs formats.Rle text = HasNoHeader text
LacksHeaderAs formats.Macrocell text = HasNoHeader text
LacksHeaderAs formats.State text = HasNoHeader text
LacksHeaderAs formats.Document text = HasNoHeader text

abbrev pub LacksHeader : List ℕ → Type 0
LacksHeader text = LacksHeaderAs (format_of text) text

-- the rule that a text of a format tells
abbrev pub rule_told_as : CellFormat → List ℕ → Option HeaderRule
rule_told_as formats.MCell text = (head_of text).rule
rule_told_as formats.Plaintext text = None
rule_told_as formats.Rle text = header_rule_told text
rule_told_as formats.Macrocell text = None
rule_told_as formats.State text = None
rule_told_as formats.Document text = None

abbrev pub file_rule_told : List ℕ → Option HeaderRule
file_rule_told text = rule_told_as (format_of text) text

-- ---- bounds

-- the bounds of a board: a torus where its edges are joined, else a plane (Golly's help, "Bounded Grids")
abbrev pub board_text : Bool → Board → List ℕ
board_text wraps board = (if wraps then codes "T" else codes "P") ++ decimal board.width ++ codes "," ++ decimal board.height

abbrev pub text_at : List ℕ → HeaderBounds → List ℕ
text_at text bounds = take bounds.length (drop bounds.place text)

abbrev pub header_bounds : List ℕ → Option HeaderRule → Option (List ℕ)
header_bounds text rule = rule >=> λ rule. rule.bounds >=> λ bounds. Some (text_at text bounds)

abbrev pub board_bounds : Head → Option (List ℕ)
board_bounds head = head.board >=> λ board. Some (board_text head.wraps board)

-- the bounds that a text of a format tells, as Golly spells them behind a rule and its colon
abbrev pub bounds_told_as : CellFormat → List ℕ → Option (List ℕ)
bounds_told_as formats.MCell text = board_bounds (head_of text)
bounds_told_as formats.Plaintext text = None
bounds_told_as formats.Rle text = header_bounds text (header_rule_told text)
bounds_told_as formats.Macrocell text = None
bounds_told_as formats.State text = None
bounds_told_as formats.Document text = None

abbrev pub file_bounds_told : List ℕ → Option (List ℕ)
file_bounds_told text = bounds_told_as (format_of text) text
