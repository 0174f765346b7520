-- The refusals of macrocells, as users meet them.
use Rattle.std.specs.Prelude.{ℕ, List, ◌++◌, Option, Some, None, Result, Ok, Err, codes, decimal}
use Rattle.macrocell_text.specs.declared.fault.MacrocellFault.{MacrocellFault}
use Rattle.macrocell_text.specs.declared.fault.MacrocellFault.TheVariants.{Header, Tag, State, Square, Memory}
use Rattle.macrocell_text.specs.declared.listing_fault.ListingFault.{ListingFault}
use Rattle.macrocell_text.specs.declared.listing_fault.ListingFault.TheVariants as listing

-- its number in the table of faults
abbrev pub macrocell_fault_number : MacrocellFault → ℕ
macrocell_fault_number Header = 4
macrocell_fault_number (Tag place) = 5
macrocell_fault_number (State place) = 7
macrocell_fault_number (Square place) = 44
macrocell_fault_number Memory = 255

-- the place in the text that it names
abbrev pub macrocell_fault_place : MacrocellFault → Option ℕ
macrocell_fault_place Header = None
macrocell_fault_place (Tag place) = Some place
macrocell_fault_place (State place) = Some place
macrocell_fault_place (Square place) = Some place
macrocell_fault_place Memory = None

-- its name, with the place behind it
abbrev pub macrocell_fault_text : MacrocellFault → List ℕ
macrocell_fault_text Header = codes "Header"
macrocell_fault_text (Tag place) = codes "Tag " ++ decimal place
macrocell_fault_text (State place) = codes "State " ++ decimal place
macrocell_fault_text (Square place) = codes "Square " ++ decimal place
macrocell_fault_text Memory = codes "Memory"

-- what was found, or a refusal
abbrev pub found_or : {A : Type 0} → MacrocellFault → Option A → Result A MacrocellFault
found_or fault None = Err fault
found_or fault (Some x) = Ok x

-- ---- why cells are not listed

abbrev pub listing_fault_number : ListingFault → ℕ
listing_fault_number listing.TooManyCells = 23
listing_fault_number listing.OutOfPlane = 10
listing_fault_number listing.Memory = 255

abbrev pub listing_fault_text : ListingFault → List ℕ
listing_fault_text listing.TooManyCells = codes "TooManyCells"
listing_fault_text listing.OutOfPlane = codes "OutOfPlane"
listing_fault_text listing.Memory = codes "Memory"
