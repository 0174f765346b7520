-- What is read of a text: a rule, and cells or a map.
use Rattle.std.specs.Prelude.{◌≡◌, ℕ, Bool, true, false, not, ◌&&◌, ◌||◌, List, [], ◌∷◌, take, drop, slice_index_or, if◌then◌else◌, Option, Some, None, Result, Ok, Err}
use Rattle.std.specs.Result.{result_ok}
use Rattle.std.specs.Str.{bytes_eq}
use Rattle.generations_rule.specs.Place.{Place}
use Rattle.generations_rule.specs.Refusal.{when, first_of, unless, ◌>>=◌}
use Rattle.generations_rule.specs.Rule.{GenerationsRule}
use Rattle.generations_rule.specs.RuleText as rules
use Rattle.pattern_cells.specs.declared.cell.Cell.{Cell}
use Rattle.multistate_rle.specs.declared.fault.RleFault.{RleFault}
use Rattle.pattern_cells.specs.Pattern.{RlePattern}
use Rattle.edit_stamps.specs.Making.{are_in_plane}
use Rattle.edit_stamps.specs.Pasting.{are_placeable, have_states_below}
use Rattle.stamped_writes.specs.Write.{Writes}
use Rattle.delta_exchange.specs.State.{IsTellableMap}
use Rattle.delta_exchange.specs.StateText.{state_magic}
use Rattle.delta_exchange.specs.Versions.{IsReadableStateText}
use Rattle.generation_engine.specs.Universe.{states_in_writes}
use Rattle.genedit_rle.specs.Canonical.{cells_in_plane}
use Rattle.cell_files.specs.Files.{file_bounds_told, file_parsed, file_rule_told}
use Rattle.macrocell_lines.specs.Squares.{StateSquare}
use Rattle.macrocell_text.specs.Maps.{map_of_squares}
use Rattle.macrocell_text.specs.Texts.{macrocell_read}
use Rattle.cell_pictures.specs.Shown.{state_at}
use Rattle.genedit_view.specs.declared.fault.ViewFault.{ViewFault}
use Rattle.genedit_view.specs.Fault.{fault_of_pattern, out_of_plane, state_range}
use Rattle.genedit_view.specs.Macrocells.{begins_as_macrocell, bounds_of_macrocell, generation_of_macrocell, macrocell_seen}
use Rattle.genedit_view.specs.Rules.{given_or_told}

-- a text is taken for a state by its first bytes
abbrev pub begins_as_state : List ℕ → Bool
begins_as_state text = bytes_eq (take 4 text) state_magic

-- ---- patterns

-- the rule that is given, else that of the file
abbrev pub pattern_rule : Option GenerationsRule → List ℕ → Result GenerationsRule ViewFault
pattern_rule given text = given_or_told given (file_rule_told text)

-- a cell of a pattern has no coordinates of 32 bits; or, where the pattern is to be run, lies outside the plane of edits
abbrev pub is_outside : Bool → RlePattern → Bool
is_outside is_run p = not (are_placeable p.pos.0 p.pos.1 p.cells) || (is_run && not (are_in_plane (cells_in_plane p)))

-- the first refusal of a pattern under a rule of so many states
abbrev pub pattern_fault : Bool → ℕ → RlePattern → Option ViewFault
pattern_fault is_run states p = first_of (
    when (is_outside is_run p) out_of_plane
    ∷ when (not (have_states_below states p.cells)) state_range
    ∷ [])

-- the rule, and a pattern's cells in the plane, unless something is refused
abbrev pub cells_or_fault : Bool → GenerationsRule → RlePattern → Result (GenerationsRule × List Cell) ViewFault
cells_or_fault is_run r p = unless (pattern_fault is_run r.states p) (r, cells_in_plane p)

abbrev pub read_pattern : Result RlePattern RleFault → Result RlePattern ViewFault
read_pattern (Ok p) = Ok p
read_pattern (Err fault) = Err (fault_of_pattern fault)

abbrev pub generation_of_pattern : Result RlePattern RleFault → ℕ
generation_of_pattern (Ok p) = p.generation
generation_of_pattern (Err fault) = 0

-- the rule and the cells of a pattern's file, or its first refusal
abbrev pub pattern_seen : Bool → Option GenerationsRule → List ℕ → Result (GenerationsRule × List Cell) ViewFault
pattern_seen is_run given text =
    read_pattern (file_parsed text) >>= λ p. pattern_rule given text >>= λ r. cells_or_fault is_run r p

-- ---- states

-- the rule that a state's text tells: behind its sixth byte, which says how many bytes it has
abbrev pub own_rule : List ℕ → Option GenerationsRule
own_rule text = result_ok (rules.parsed (take (slice_index_or text 5 0) (drop 6 text)))

-- the rule that is given, else the text's own
abbrev pub state_rule : Option GenerationsRule → List ℕ → Option GenerationsRule
state_rule (Some r) text = Some r
state_rule None text = own_rule text

-- ---- any text

-- the generation that a text tells; a state tells none
abbrev pub generation_told : List ℕ → ℕ
generation_told text =
    if begins_as_state text then 0
    else (if begins_as_macrocell text then generation_of_macrocell (macrocell_read text) else generation_of_pattern (file_parsed text))

-- the bounds that a text tells, as Golly spells them behind a rule and its colon; a state tells none
abbrev pub bounds_told : List ℕ → Option (List ℕ)
bounds_told text =
    if begins_as_state text then None
    else (if begins_as_macrocell text then bounds_of_macrocell text (macrocell_read text) else file_bounds_told text)

-- a text is read as a rule and the state at each place
pub data IsReadAs (is_run : Bool) (given : Option GenerationsRule) (text : List ℕ) (r : GenerationsRule) (f : Place → ℕ) : Type 0 where
  Pattern : (cells : List Cell) → begins_as_state text ≡ false → begins_as_macrocell text ≡ false → pattern_seen is_run given text ≡ Ok (r, cells) → f ≡ state_at cells
      → IsReadAs is_run given text r f
  Macrocell : (squares : List StateSquare) → begins_as_state text ≡ false → begins_as_macrocell text ≡ true → macrocell_seen is_run given text ≡ Ok (r, squares)
      → f ≡ map_of_squares squares → IsReadAs is_run given text r f
  State : (map : Writes) → begins_as_state text ≡ true → state_rule given text ≡ Some r → IsTellableMap r.states map → IsReadableStateText r map text
      → f ≡ states_in_writes map → IsReadAs is_run given text r f

-- a file of cells is refused, and this is the first refusal
pub data IsRefusedFile (is_run : Bool) (given : Option GenerationsRule) (text : List ℕ) (fault : ViewFault) : Type 0 where
  NoPattern : begins_as_macrocell text ≡ false → pattern_seen is_run given text ≡ Err fault → IsRefusedFile is_run given text fault
  NoMacrocell : begins_as_macrocell text ≡ true → macrocell_seen is_run given text ≡ Err fault → IsRefusedFile is_run given text fault
