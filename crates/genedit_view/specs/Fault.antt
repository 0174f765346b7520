-- Why no picture is drawn, as users meet it.
use Rattle.std.specs.Prelude.{◌≡◌, ◌⊎◌, ℕ, List, ◌++◌, None, codes, decimal}
use Rattle.multistate_rle.specs.declared.fault.RleFault.{RleFault}
use Rattle.multistate_rle.specs.declared.fault.RleFault.TheVariants as texts
use Rattle.multistate_rle.specs.RleFault.{text_fault_number, text_fault_place}
use Rattle.macrocell_text.specs.declared.fault.MacrocellFault.{MacrocellFault}
use Rattle.macrocell_text.specs.declared.fault.MacrocellFault.TheVariants as macrocells
use Rattle.macrocell_text.specs.declared.listing_fault.ListingFault.{ListingFault}
use Rattle.macrocell_text.specs.declared.listing_fault.ListingFault.TheVariants as listings
use Rattle.macrocell_text.specs.Faults.{listing_fault_number, macrocell_fault_number, macrocell_fault_place}
use Rattle.edit_stamps.specs.declared.fault.EditFault.TheVariants as edits
use Rattle.edit_stamps.specs.EditFault.{edit_fault_number}
use Rattle.delta_exchange.specs.declared.fault.ReadFault.{ReadFault}
use Rattle.delta_exchange.specs.declared.fault.ReadFault.TheVariants as states
use Rattle.delta_exchange.specs.Fault.{read_fault_number}
use Rattle.export.specs.declared.fault.ExportFault.{ExportFault}
use Rattle.export.specs.declared.fault.ExportFault.TheVariants as exports
use Rattle.export.specs.ExportFault.{export_fault_number}
use Rattle.genedit_io.specs.declared.fault.RunFault.TheVariants.{Memory, Refused, StoreFull}
use Rattle.genedit_io.specs.RunFault.{exit_status, run_fault_text}
use Rattle.header_rules.specs.declared.spelling.Misspelling.{Misspelling}
use Rattle.header_rules.specs.declared.spelling.Misspelling.TheVariants.{Fault, Other}
use Rattle.header_rules.specs.FamilyWords.{family_words}
use Rattle.genedit_view.specs.declared.fault.ViewFault.{ViewFault}
use Rattle.genedit_view.specs.declared.fault.ViewFault.TheVariants.{HeaderRule, NoRule, Run}

-- the status of the process
abbrev pub view_status : ViewFault → ℕ
view_status (Run fault) = exit_status fault
view_status NoRule = 2
view_status (HeaderRule place why) = 2

-- what the program says of a rule that a header tells at this place and that is none: of one of another family which
-- one it is, and of any other text that a rule can be given
abbrev pub header_fault_text : ℕ → Misspelling → List ℕ
header_fault_text place (Fault fault) = codes "no rule at byte " ++ (decimal place ++ codes ": give one by --rule")
header_fault_text place (Other family) = codes "the rule at byte " ++ (decimal place ++ (codes " is " ++ family_words family))

-- what the program says
abbrev pub view_fault_text : ViewFault → List ℕ
view_fault_text (Run fault) = run_fault_text fault
view_fault_text NoRule = codes "no rule is told: give one by --rule"
view_fault_text (HeaderRule place why) = header_fault_text place why

abbrev pub memory_wanted : ViewFault
memory_wanted = Run Memory

-- a refusal of this number, without a place
abbrev pub refused : ℕ → ViewFault
refused number = Run (Refused number None)

abbrev pub out_of_plane : ViewFault
out_of_plane = refused (edit_fault_number edits.OutOfPlane)

abbrev pub state_range : ViewFault
state_range = refused (edit_fault_number edits.StateRange)

-- a text that is no pattern
abbrev pub fault_of_pattern : RleFault → ViewFault
fault_of_pattern texts.Memory = Run Memory
fault_of_pattern texts.Header = Run (Refused (text_fault_number texts.Header) None)
fault_of_pattern texts.TooMany = Run (Refused (text_fault_number texts.TooMany) None)
fault_of_pattern (texts.Tag place) = Run (Refused (text_fault_number (texts.Tag place)) (text_fault_place (texts.Tag place)))
fault_of_pattern (texts.Count place) = Run (Refused (text_fault_number (texts.Count place)) (text_fault_place (texts.Count place)))
fault_of_pattern (texts.State place) = Run (Refused (text_fault_number (texts.State place)) (text_fault_place (texts.State place)))

-- a text that is no macrocell
abbrev pub fault_of_macrocell : MacrocellFault → ViewFault
fault_of_macrocell macrocells.Memory = Run Memory
fault_of_macrocell macrocells.Header = Run (Refused (macrocell_fault_number macrocells.Header) None)
fault_of_macrocell (macrocells.Tag place) = Run (Refused (macrocell_fault_number (macrocells.Tag place)) (macrocell_fault_place (macrocells.Tag place)))
fault_of_macrocell (macrocells.State place) = Run (Refused (macrocell_fault_number (macrocells.State place)) (macrocell_fault_place (macrocells.State place)))
fault_of_macrocell (macrocells.Square place) = Run (Refused (macrocell_fault_number (macrocells.Square place)) (macrocell_fault_place (macrocells.Square place)))

-- a macrocell whose cells are not listed
abbrev pub fault_of_listing : ListingFault → ViewFault
fault_of_listing listings.Memory = Run Memory
fault_of_listing listings.TooManyCells = refused (listing_fault_number listings.TooManyCells)
fault_of_listing listings.OutOfPlane = refused (listing_fault_number listings.OutOfPlane)

-- a text that is no state
abbrev pub fault_of_state : ReadFault → ViewFault
fault_of_state states.Memory = Run Memory
fault_of_state states.StoreFull = Run StoreFull
fault_of_state states.TooMany = refused (read_fault_number states.TooMany)
fault_of_state states.Nothing = refused (read_fault_number states.Nothing)
fault_of_state states.OutOfPlane = refused (read_fault_number states.OutOfPlane)
fault_of_state states.StateRange = refused (read_fault_number states.StateRange)
fault_of_state states.Magic = refused (read_fault_number states.Magic)
fault_of_state states.Version = refused (read_fault_number states.Version)
fault_of_state states.OtherRule = refused (read_fault_number states.OtherRule)
fault_of_state states.Short = refused (read_fault_number states.Short)
fault_of_state states.StampRange = refused (read_fault_number states.StampRange)
fault_of_state states.NotCanonical = refused (read_fault_number states.NotCanonical)
fault_of_state states.Trailing = refused (read_fault_number states.Trailing)

-- a generation that is not shown
abbrev pub fault_of_generation : ExportFault → ViewFault
fault_of_generation exports.Memory = Run Memory
fault_of_generation exports.StoreFull = Run StoreFull
fault_of_generation exports.GenRange = refused (export_fault_number exports.GenRange)
fault_of_generation exports.TooManyCells = refused (export_fault_number exports.TooManyCells)

-- a want of memory, or of room for squares
abbrev pub IsViewWant : ViewFault → Type 0
IsViewWant fault = (fault ≡ Run Memory) ⊎ (fault ≡ Run StoreFull)
