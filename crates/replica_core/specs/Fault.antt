-- The refusals of replicas and of worlds of replicas, as users meet them.
use Rattle.std.specs.Prelude.{ℕ, List, codes, Option, Some, None, ⊤}
use Rattle.delta_exchange.specs.Fault.{read_fault_number, read_fault_text}
use Rattle.delta_exchange.specs.declared.fault.ReadFault.{ReadFault}
use Rattle.delta_exchange.specs.declared.fault.ReadFault.TheVariants as read_faults
use Rattle.edit_stamps.specs.EditFault.{edit_fault_number, edit_fault_text}
use Rattle.edit_stamps.specs.declared.fault.EditFault.{EditFault}
use Rattle.edit_stamps.specs.declared.fault.EditFault.TheVariants as edit_faults
use Rattle.export.specs.ExportFault.{export_fault_number, export_fault_text}
use Rattle.export.specs.declared.fault.ExportFault.{ExportFault}
use Rattle.export.specs.declared.fault.ExportFault.TheVariants as export_faults
use Rattle.square_store.specs.declared.fault.StoreFault.{StoreFault}
use Rattle.square_store.specs.declared.fault.StoreFault.TheVariants as store_faults
use Rattle.replica_core.specs.declared.event.Stop.{Stop}
use Rattle.replica_core.specs.declared.event.Stop.TheVariants as stops
use Rattle.replica_core.specs.declared.fault.Fault.{Fault}
use Rattle.replica_core.specs.declared.fault.Fault.TheVariants.{Edit, StoreFull, Read, Export, OtherRule, ClockFull, NoSuchEdit, NoReplica, NoMessage, Memory}

-- its number in the table of faults
abbrev pub replica_fault_number : Fault → ℕ
replica_fault_number (Edit fault) = edit_fault_number fault
replica_fault_number StoreFull = 13
replica_fault_number (Read fault) = read_fault_number fault
replica_fault_number (Export fault) = export_fault_number fault
replica_fault_number OtherRule = 16
replica_fault_number ClockFull = 24
replica_fault_number NoSuchEdit = 25
replica_fault_number NoReplica = 26
replica_fault_number NoMessage = 27
replica_fault_number Memory = 255

abbrev pub replica_fault_text : Fault → List ℕ
replica_fault_text (Edit fault) = edit_fault_text fault
replica_fault_text StoreFull = codes "StoreFull"
replica_fault_text (Read fault) = read_fault_text fault
replica_fault_text (Export fault) = export_fault_text fault
replica_fault_text OtherRule = codes "OtherRule"
replica_fault_text ClockFull = codes "ClockFull"
replica_fault_text NoSuchEdit = codes "NoSuchEdit"
replica_fault_text NoReplica = codes "NoReplica"
replica_fault_text NoMessage = codes "NoMessage"
replica_fault_text Memory = codes "Memory"

-- a want of memory or of room: no part of what a call means
abbrev pub IsWant : Fault → Type 0
IsWant Memory = ⊤
IsWant StoreFull = ⊤
IsWant (Edit fault) = ⊥
IsWant (Read fault) = ⊥
IsWant (Export fault) = ⊥
IsWant OtherRule = ⊥
IsWant ClockFull = ⊥
IsWant NoSuchEdit = ⊥
IsWant NoReplica = ⊥
IsWant NoMessage = ⊥

-- why a list of events stops, where a fault is a want
abbrev pub stop_of : Fault → Option Stop
stop_of Memory = Some stops.Memory
stop_of StoreFull = Some stops.StoreFull
stop_of (Edit fault) = None
stop_of (Read fault) = None
stop_of (Export fault) = None
stop_of OtherRule = None
stop_of ClockFull = None
stop_of NoSuchEdit = None
stop_of NoReplica = None
stop_of NoMessage = None

-- a store's refusal as a replica's
abbrev pub fault_of_store : StoreFault → Fault
fault_of_store store_faults.StoreFull = StoreFull
fault_of_store store_faults.Memory = Memory

-- an edit's refusal as a replica's
abbrev pub fault_of_edit : EditFault → Fault
fault_of_edit edit_faults.Memory = Memory
fault_of_edit edit_faults.Nothing = Edit edit_faults.Nothing
fault_of_edit edit_faults.TooMany = Edit edit_faults.TooMany
fault_of_edit edit_faults.OutOfPlane = Edit edit_faults.OutOfPlane
fault_of_edit edit_faults.StateRange = Edit edit_faults.StateRange

-- a text's refusal as a replica's
abbrev pub fault_of_read : ReadFault → Fault
fault_of_read read_faults.Memory = Memory
fault_of_read read_faults.StoreFull = StoreFull
fault_of_read read_faults.OtherRule = OtherRule
fault_of_read read_faults.TooMany = Read read_faults.TooMany
fault_of_read read_faults.Nothing = Read read_faults.Nothing
fault_of_read read_faults.OutOfPlane = Read read_faults.OutOfPlane
fault_of_read read_faults.StateRange = Read read_faults.StateRange
fault_of_read read_faults.Magic = Read read_faults.Magic
fault_of_read read_faults.Version = Read read_faults.Version
fault_of_read read_faults.Short = Read read_faults.Short
fault_of_read read_faults.StampRange = Read read_faults.StampRange
fault_of_read read_faults.NotCanonical = Read read_faults.NotCanonical
fault_of_read read_faults.Trailing = Read read_faults.Trailing

-- an export's refusal as a replica's
abbrev pub fault_of_export : ExportFault → Fault
fault_of_export export_faults.Memory = Memory
fault_of_export export_faults.StoreFull = StoreFull
fault_of_export export_faults.GenRange = Export export_faults.GenRange
fault_of_export export_faults.TooManyCells = Export export_faults.TooManyCells

-- ---- why a list of events is not run to its end

abbrev pub stop_number : Stop → ℕ
stop_number stops.Memory = 255
stop_number stops.StoreFull = 13

abbrev pub stop_text : Stop → List ℕ
stop_text stops.Memory = codes "Memory"
stop_text stops.StoreFull = codes "StoreFull"
