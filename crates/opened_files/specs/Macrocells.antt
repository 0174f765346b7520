-- What a macrocell draws that is opened.
use Rattle.std.specs.Prelude.{◌≡◌, ℕ, not, Bool, false, List, [], ◌∷◌, ◌++◌, codes, Option, Some, None, option_map, Ok}
use Rattle.generations_rule.specs.Refusal.{first_of, when}
use Rattle.pattern_cells.specs.declared.cell.Cell.{Cell}
use Rattle.pattern_cells.specs.Cells.{are_states_below}
use Rattle.edit_stamps.specs.declared.fault.EditFault.TheVariants as edits
use Rattle.edit_stamps.specs.Making.{are_in_plane}
use Rattle.edit_stamps.specs.PlaneMap.{IsGreatestStamp}
use Rattle.export.specs.declared.fault.ExportFault.TheVariants as exports
use Rattle.stamped_tree.specs.Plane.{map_of}
use Rattle.macrocell_lines.specs.Squares.{StateSquare}
use Rattle.macrocell_text.specs.declared.fault.MacrocellFault.{MacrocellFault}
use Rattle.macrocell_text.specs.declared.listing_fault.ListingFault.{ListingFault}
use Rattle.macrocell_text.specs.declared.listing_fault.ListingFault.TheVariants as listings
use Rattle.macrocell_text.specs.Faults.{macrocell_fault_number, macrocell_fault_text}
use Rattle.macrocell_text.specs.Finding.{AreListed}
use Rattle.macrocell_text.specs.LiveCells.{cells_of_root, listing_refusal}
use Rattle.macrocell_text.specs.Macrocells.{MacrocellTold}
use Rattle.macrocell_text.specs.Maps.{root_of_squares}
use Rattle.macrocell_text.specs.Texts.{macrocell_read}
use Rattle.replica_core.specs.Replica.{ReplicaState}
use Rattle.replica_core.specs.declared.fault.Fault.{Fault}
use Rattle.replica_core.specs.declared.fault.Fault.TheVariants as faults
use Rattle.genedit_lib.specs.Output.{refused_text}
use Rattle.opened_files.specs.Counters.{suffice}

-- ---- refusals

-- cells that are not listed, as a replica refuses them
abbrev pub fault_of_listing : ListingFault → Fault
fault_of_listing listings.TooManyCells = faults.Export exports.TooManyCells
fault_of_listing listings.OutOfPlane = faults.Edit edits.OutOfPlane
fault_of_listing listings.Memory = faults.Memory

-- the first refusal of cells that are to be drawn under a rule of so many states: one lies outside the plane, or the rule has not the
-- state of one
abbrev pub cells_refusal : ℕ → List Cell → Option Fault
cells_refusal states cells = first_of (
    when (not (are_in_plane cells)) (faults.Edit edits.OutOfPlane)
    ∷ when (not (are_states_below states cells)) (faults.Edit edits.StateRange)
    ∷ [])

-- that of squares: first there are too many cells, or one has no coordinates of 32 bits
abbrev pub squares_refusal : ℕ → List StateSquare → Option Fault
squares_refusal states squares =
    first_of (option_map fault_of_listing (listing_refusal squares) ∷ cells_refusal states (cells_of_root (root_of_squares squares)) ∷ [])

-- the line of the refusal of a text that is no macrocell
abbrev pub macrocell_refusal : MacrocellFault → List ℕ
macrocell_refusal fault = refused_text (macrocell_fault_number fault) (macrocell_fault_text fault) ++ codes "\n"

-- ---- what is drawn

-- the text is a macrocell whose cells may be drawn at a replica, and this tells whether counters suffice for them
pub record IsMacrocellAt (r : ReplicaState) (text : List ℕ) (cells : List Cell) (suffices : Bool) : Type 0 where
  pub told : MacrocellTold
  pub read : macrocell_read text ≡ Ok told
  pub allowed : squares_refusal r.rule.states told.squares ≡ None
  pub listed : AreListed told.squares cells
  pub stamp : ℕ
  pub greatest : IsGreatestStamp stamp (map_of r.plane)
  pub enough : suffice 0 stamp cells ≡ suffices

-- its cells may not be drawn, for the first refusal; or counters do not suffice
pub data RefusesMacrocell (r : ReplicaState) (text : List ℕ) (fault : Fault) : Type 0 where
  not_drawn : (told : MacrocellTold) → macrocell_read text ≡ Ok told → squares_refusal r.rule.states told.squares ≡ Some fault → RefusesMacrocell r text fault
  counters_out : (cells : List Cell) → IsMacrocellAt r text cells false → fault ≡ faults.ClockFull → RefusesMacrocell r text fault
