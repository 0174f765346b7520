-- Edits that are taken as another replica's, where their stamps stand for others.
use Rattle.std.specs.Prelude.{⊤, ◌==◌, ℕ, Bool, false, not, if◌then◌else◌, List, map, Result, Err}
use Rattle.std.specs.List.{list_any}
use Rattle.std.specs.Option.{option_map_or}
use Rattle.edit_stamps.specs.Edit.{PlaneEdit, is_edit}
use Rattle.edit_stamps.specs.Stamp.{counter_in, replica_in, stamp_of}
use Rattle.documents.specs.declared.fault.DocumentFault.{DocumentFault}
use Rattle.documents.specs.declared.fault.DocumentFault.TheVariants.{Memory}
use Rattle.documents.specs.Documents.{DocumentState}
use Rattle.documents.specs.Results.{IsMade}
use Rattle.documents.specs.Sets.{edit_at}

-- a set has an edit of its stamp, and another one
abbrev pub is_another : List PlaneEdit → PlaneEdit → Bool
is_another taken e = option_map_or (λ f. not (is_edit f e)) (edit_at taken e.stamp) false

-- then it is a replica's of this number, its counter kept
abbrev pub renumbered_by : ℕ → List PlaneEdit → PlaneEdit → PlaneEdit
renumbered_by number taken e = if is_another taken e then record e { stamp = stamp_of (counter_in e.stamp) number } else e

abbrev pub renumbered : ℕ → List PlaneEdit → List PlaneEdit → List PlaneEdit
renumbered number taken edits = map (renumbered_by number taken) edits

-- an edit is a replica's of this number
abbrev pub has_replica : ℕ → List PlaneEdit → Bool
has_replica number edits = list_any (λ e. replica_in e.stamp == number) edits

-- the document that is made of them, or why there is none; or memory is wanting
abbrev pub IsRenumbered : ℕ → List PlaneEdit → DocumentState → Result DocumentState DocumentFault → Type 0
IsRenumbered number taken d (Err Memory) = ⊤
IsRenumbered number taken d result = IsMade d.rule (renumbered number taken d.edits) result
