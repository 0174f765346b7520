-- Worked values of the definitions.
use Rattle.std.specs.Prelude.{◌≡◌, ℕ, List, [], ◌∷◌, Some, None, map, refl, pos}
use Rattle.std.specs.Option.{option_or}
use Rattle.edit_stamps.specs.Edit.{PlaneEdit}
use Rattle.edit_stamps.specs.Stamp.{stamp_of}
use Rattle.document_bodies.specs.declared.fault.BodyFault.TheVariants as body
use Rattle.documents.specs.declared.fault.DocumentFault.TheVariants.{StateRange, OtherRule, SameStamp, NoDocument, Body, Memory}
use Rattle.documents.specs.Sets.{edit_at}
use Rattle.documents.specs.Documents.{count_of_new}
use Rattle.documents.specs.Faults.{document_fault_number}

-- a state at 0 0
abbrev drawn : ℕ → ℕ → ℕ → PlaneEdit
drawn counter replica state = record { stamp = stamp_of counter replica; area = None; cells = record { x = pos 0; y = pos 0; state = state } ∷ [] }

abbrev ours : List PlaneEdit
ours = drawn 1 65 1 ∷ drawn 3 65 1 ∷ []

abbrev theirs : List PlaneEdit
theirs = drawn 1 65 1 ∷ drawn 2 66 1 ∷ drawn 4 66 1 ∷ []

-- ---- reads

pub reads : map (edit_at ours) (stamp_of 1 65 ∷ stamp_of 2 66 ∷ stamp_of 3 65 ∷ []) ≡ Some (drawn 1 65 1) ∷ None ∷ Some (drawn 3 65 1) ∷ []
reads = refl

-- of two with one stamp the first is read
pub first_is_read : edit_at (drawn 1 65 1 ∷ drawn 1 65 2 ∷ []) (stamp_of 1 65) ≡ Some (drawn 1 65 1)
first_is_read = refl

-- what a union has at the stamps of both
pub united :
    map (λ stamp. option_or (edit_at ours stamp) (edit_at theirs stamp)) (stamp_of 1 65 ∷ stamp_of 2 66 ∷ stamp_of 3 65 ∷ stamp_of 4 66 ∷ stamp_of 5 65 ∷ [])
    ≡ Some (drawn 1 65 1) ∷ Some (drawn 2 66 1) ∷ Some (drawn 3 65 1) ∷ Some (drawn 4 66 1) ∷ None ∷ []
united = refl

-- ---- what is new

pub new_edits : count_of_new ours theirs ∷ count_of_new theirs ours ∷ count_of_new ours ours ∷ count_of_new [] ours ∷ [] ≡ 2 ∷ 1 ∷ 0 ∷ 2 ∷ []
new_edits = refl

-- another edit of a stamp is none that is there
pub another_is_new : count_of_new ours (drawn 1 65 2 ∷ []) ≡ 1
another_is_new = refl

-- ---- faults

pub numbers : map document_fault_number (StateRange ∷ OtherRule ∷ SameStamp (stamp_of 3 65) ∷ NoDocument ∷ Body body.NoDocument 1 ∷ Memory ∷ []) ≡ 11 ∷ 16 ∷ 41 ∷ 42 ∷ 42 ∷ 255 ∷ []
numbers = refl
