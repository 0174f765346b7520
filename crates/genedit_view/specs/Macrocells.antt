-- What is read of a macrocell: a rule, and squares of states.
use Rattle.std.specs.Prelude.{ℕ, Bool, true, false, not, ◌&&◌, List, [], ◌∷◌, Option, None, option_map, Result, Ok, Err}
use Rattle.text_scan.specs.Bytes.{◌>=>◌}
use Rattle.generations_rule.specs.Refusal.{when, first_of, unless, ◌>>=◌}
use Rattle.generations_rule.specs.Rule.{GenerationsRule}
use Rattle.pattern_cells.specs.declared.cell.Cell.{Cell}
use Rattle.pattern_cells.specs.Cells.{are_states_below}
use Rattle.edit_stamps.specs.Making.{are_in_plane}
use Rattle.header_rules.specs.declared.header.HeaderRule.{HeaderRule}
use Rattle.header_rules.specs.HeaderRule.{rule_standing}
use Rattle.cell_files.specs.declared.format.CellFormat.{CellFormat}
use Rattle.cell_files.specs.declared.format.CellFormat.TheVariants as formats
use Rattle.cell_files.specs.Files.{header_bounds}
use Rattle.cell_files.specs.Formats.{format_of}
use Rattle.macrocell_lines.specs.Squares.{StateSquare}
use Rattle.macrocell_text.specs.declared.fault.MacrocellFault.{MacrocellFault}
use Rattle.macrocell_text.specs.declared.head.RulePlace.{RulePlace}
use Rattle.macrocell_text.specs.LiveCells.{cells_of_root, listing_refusal}
use Rattle.macrocell_text.specs.Macrocells.{MacrocellTold}
use Rattle.macrocell_text.specs.Maps.{root_of_squares}
use Rattle.macrocell_text.specs.Texts.{macrocell_read}
use Rattle.genedit_view.specs.declared.fault.ViewFault.{ViewFault}
use Rattle.genedit_view.specs.Fault.{fault_of_listing, fault_of_macrocell, out_of_plane, state_range}
use Rattle.genedit_view.specs.Rules.{given_or_told}

abbrev pub is_of_macrocells : CellFormat → Bool
is_of_macrocells formats.Macrocell = true
is_of_macrocells formats.State = false
is_of_macrocells formats.Document = false
is_of_macrocells formats.MCell = false
is_of_macrocells formats.Plaintext = false
is_of_macrocells formats.Rle = false

-- a text is taken for a macrocell by its first bytes
abbrev pub begins_as_macrocell : List ℕ → Bool
begins_as_macrocell text = is_of_macrocells (format_of text)

-- ---- what its lines `#` tell

-- the rule that stands at a place, as a header that ends there would tell it
abbrev pub rule_at_place : List ℕ → Option RulePlace → Option HeaderRule
rule_at_place text place = place >=> λ place. rule_standing text place.place place.length

-- the bounds behind it
abbrev pub bounds_of_macrocell : List ℕ → Result MacrocellTold MacrocellFault → Option (List ℕ)
bounds_of_macrocell text (Ok told) = header_bounds text (rule_at_place text told.rule)
bounds_of_macrocell text (Err fault) = None

abbrev pub generation_of_macrocell : Result MacrocellTold MacrocellFault → ℕ
generation_of_macrocell (Ok told) = told.generation
generation_of_macrocell (Err fault) = 0

-- ---- its cells

-- the cells of squares' map that are not dead
abbrev pub cells_of_squares : List StateSquare → List Cell
cells_of_squares squares = cells_of_root (root_of_squares squares)

-- the first refusal of cells under a rule of so many states: where they are to be run, one lies outside the plane of edits; or the
-- rule has not the state of one
abbrev pub cells_fault : Bool → ℕ → List Cell → Option ViewFault
cells_fault is_run states cells = first_of (
    when (is_run && not (are_in_plane cells)) out_of_plane
    ∷ when (not (are_states_below states cells)) state_range
    ∷ [])

-- that of squares: first there are too many cells, or one has no coordinates of 32 bits
abbrev pub squares_fault : Bool → ℕ → List StateSquare → Option ViewFault
squares_fault is_run states squares =
    first_of (option_map fault_of_listing (listing_refusal squares) ∷ cells_fault is_run states (cells_of_squares squares) ∷ [])

abbrev pub read_macrocell : Result MacrocellTold MacrocellFault → Result MacrocellTold ViewFault
read_macrocell (Ok told) = Ok told
read_macrocell (Err fault) = Err (fault_of_macrocell fault)

-- the rule and the squares of a text, or its first refusal
abbrev pub macrocell_seen : Bool → Option GenerationsRule → List ℕ → Result (GenerationsRule × List StateSquare) ViewFault
macrocell_seen is_run given text =
    read_macrocell (macrocell_read text) >>= λ told. given_or_told given (rule_at_place text told.rule) >>= λ r.
    unless (squares_fault is_run r.states told.squares) (r, told.squares)
