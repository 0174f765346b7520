-- How two documents differ.
use Rattle.std.specs.Prelude.{◌≡◌, Bool, true, false, List, [], ◌++◌, ℕ, codes, flat_map, Result, Ok, Err, Vec}
use Rattle.std.specs.declared.alloc.Global.{Global}
use Rattle.edit_stamps.specs.Edit.{PlaneEdit}
use Rattle.documents.specs.declared.fault.DocumentFault.{DocumentFault}
use Rattle.documents.specs.Documents.{DocumentState, has_edit}
use Rattle.documents.specs.Results.{IsMerged, IsUnionOf}
use Rattle.genedit_lib.specs.EditLines.{edit_line}

-- the line of an edit, by whether the first document has it, and the second
abbrev pub difference_by : Bool → Bool → List ℕ → List ℕ
difference_by false in_second line = codes "+ " ++ line
difference_by true false line = codes "- " ++ line
difference_by true true line = []

abbrev pub difference_line : List PlaneEdit → List PlaneEdit → PlaneEdit → List ℕ
difference_line a b e = difference_by (has_edit a e) (has_edit b e) (edit_line e)

-- a line for each edit of these that only one of two documents has
abbrev pub difference_lines : List PlaneEdit → List PlaneEdit → List PlaneEdit → List ℕ
difference_lines a b edits = flat_map (difference_line a b) edits

-- the lines of the edits of both, or why the two have no union
pub record IsDifferenceText (a b : DocumentState) (text : List ℕ) : Type 0 where
  pub all : DocumentState
  pub union : IsUnionOf a b all
  pub told : text ≡ difference_lines a.edits b.edits all.edits

abbrev pub IsDifference : DocumentState → DocumentState → Result (Vec ℕ Global) DocumentFault → Type 0
IsDifference a b (Ok text) = IsDifferenceText a b text.items
IsDifference a b (Err fault) = IsMerged a b (Err fault)
