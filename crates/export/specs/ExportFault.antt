-- The refusals of an export, as users meet them.
use Rattle.std.specs.Prelude.{ℕ, List, codes}
use Rattle.square_store.specs.declared.fault.StoreFault.{StoreFault}
use Rattle.square_store.specs.declared.fault.StoreFault.TheVariants as store
use Rattle.generation_engine.specs.declared.fault.EngineFault.{EngineFault}
use Rattle.generation_engine.specs.declared.fault.EngineFault.TheVariants as engine
use Rattle.export.specs.declared.fault.ExportFault.{ExportFault}
use Rattle.export.specs.declared.fault.ExportFault.TheVariants.{GenRange, TooManyCells, StoreFull, Memory}

-- its number in the table of faults
abbrev pub export_fault_number : ExportFault → ℕ
export_fault_number GenRange = 22
export_fault_number TooManyCells = 23
export_fault_number StoreFull = 13
export_fault_number Memory = 255

-- its name
abbrev pub export_fault_text : ExportFault → List ℕ
export_fault_text GenRange = codes "GenRange"
export_fault_text TooManyCells = codes "TooManyCells"
export_fault_text StoreFull = codes "StoreFull"
export_fault_text Memory = codes "Memory"

-- the refusal of an engine, as an export's
abbrev pub export_fault_of_engine : EngineFault → ExportFault
export_fault_of_engine engine.GenRange = GenRange
export_fault_of_engine engine.StoreFull = StoreFull
export_fault_of_engine engine.Memory = Memory

-- the refusal of a store, as an export's
abbrev pub export_fault_of_store : StoreFault → ExportFault
export_fault_of_store store.StoreFull = StoreFull
export_fault_of_store store.Memory = Memory
