-- Why a text has no canonical form under a rule, as users meet it.
use Rattle.std.specs.Prelude.{ℕ, Option, None}
use Rattle.multistate_rle.specs.declared.fault.RleFault.{RleFault}
use Rattle.multistate_rle.specs.RleFault.{text_fault_number, text_fault_place}
use Rattle.edit_stamps.specs.declared.fault.EditFault.TheVariants as edits
use Rattle.edit_stamps.specs.EditFault.{edit_fault_number}

-- what is wrong with the text, a coordinate of a cell outside the plane, or a state that the rule has not
pub data FormRefusal : Type 0 where
  Text : (fault : RleFault) → FormRefusal
  OutOfPlane : FormRefusal
  StateRange : FormRefusal

-- its number in the table of faults, that of the same refusal of an edit
abbrev pub refusal_number : FormRefusal → ℕ
refusal_number (Text fault) = text_fault_number fault
refusal_number OutOfPlane = edit_fault_number edits.OutOfPlane
refusal_number StateRange = edit_fault_number edits.StateRange

-- the place in the text that it names
abbrev pub refusal_place : FormRefusal → Option ℕ
refusal_place (Text fault) = text_fault_place fault
refusal_place OutOfPlane = None
refusal_place StateRange = None
