-- The refusals of RLE texts, as users meet them.
use Rattle.std.specs.Prelude.{ℕ, List, ◌++◌, Option, Some, None, codes, decimal}
use Rattle.multistate_rle.specs.declared.fault.RleFault.{RleFault}
use Rattle.multistate_rle.specs.declared.fault.RleFault.TheVariants.{Header, Tag, Count, State, TooMany, Memory}

-- its number in the table of faults
abbrev pub text_fault_number : RleFault → ℕ
text_fault_number Header = 4
text_fault_number (Tag place) = 5
text_fault_number (Count place) = 6
text_fault_number (State place) = 7
text_fault_number TooMany = 8
text_fault_number Memory = 255

-- the place in the text that it names
abbrev pub text_fault_place : RleFault → Option ℕ
text_fault_place Header = None
text_fault_place (Tag place) = Some place
text_fault_place (Count place) = Some place
text_fault_place (State place) = Some place
text_fault_place TooMany = None
text_fault_place Memory = None

-- its name, with the place behind it
abbrev pub text_fault_text : RleFault → List ℕ
text_fault_text Header = codes "Header"
text_fault_text (Tag place) = codes "Tag " ++ decimal place
text_fault_text (Count place) = codes "Count " ++ decimal place
text_fault_text (State place) = codes "State " ++ decimal place
text_fault_text TooMany = codes "TooMany"
text_fault_text Memory = codes "Memory"
