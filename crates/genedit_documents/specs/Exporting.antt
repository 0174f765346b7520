-- The generations of a document.
use Rattle.std.specs.Prelude.{◌≡◌, ◌⊎◌, ⊤, ℕ, ◌≤◌, List, Err}
use Rattle.generations_rule.specs.Place.{Place}
use Rattle.generations_rule.specs.Rule.{GenerationsRule}
use Rattle.square_store.specs.Limits.{usual_room}
use Rattle.stamped_tree.specs.Plane.{StampedPlane, map_of}
use Rattle.stamped_writes.specs.Write.{AreSame}
use Rattle.edit_stamps.specs.Edit.{PlaneEdit, greatest}
use Rattle.generation_engine.specs.Universe.{states_in_writes}
use Rattle.export.specs.declared.fault.ExportFault.{ExportFault}
use Rattle.export.specs.Export.{IsExport, IsRoomWanted, last_generation, most_cells}
use Rattle.replica_core.specs.declared.fault.Fault.{Fault}
use Rattle.replica_core.specs.declared.fault.Fault.TheVariants.{Memory, StoreFull}
use Rattle.replica_core.specs.Fault.{fault_of_export}
use Rattle.genedit_documents.specs.Holding.{IsHoldingWant}

-- an export is refused for what it asks
pub record IsRefusedExport (r : GenerationsRule) (f : Place → ℕ) (g : ℕ) (fault : Fault) : Type 0 where
  pub refusal : ExportFault
  pub told : fault ≡ fault_of_export refusal
  pub refused : IsExport r f g most_cells (Err refusal)

-- memory is wanting for the run of a universe, or room where a plane of some edits' map wants it
abbrev pub IsRunWant : GenerationsRule → List PlaneEdit → ℕ → Fault → Type 0
IsRunWant r edits g Memory = ⊤
IsRunWant r edits g StoreFull = (p : StampedPlane) × AreSame (map_of p) (greatest edits) × IsRoomWanted r p g usual_room
IsRunWant r edits g _ = ⊥

-- memory or room is wanting for the edits or for the run, but only at a generation that is one; or the export is refused
abbrev pub IsExportRefused : GenerationsRule → List PlaneEdit → ℕ → Fault → Type 0
IsExportRefused r edits g fault =
    ((g ≤ last_generation) × (IsHoldingWant edits fault ⊎ IsRunWant r edits g fault)) ⊎ IsRefusedExport r (states_in_writes (greatest edits)) g fault
