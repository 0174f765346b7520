-- The refusals of an engine, as users meet them.
use Rattle.std.specs.Prelude.{ℕ, List, codes}
use Rattle.square_store.specs.declared.fault.StoreFault.{StoreFault}
use Rattle.square_store.specs.declared.fault.StoreFault.TheVariants as store
use Rattle.generation_engine.specs.declared.fault.EngineFault.{EngineFault}
use Rattle.generation_engine.specs.declared.fault.EngineFault.TheVariants.{GenRange, StoreFull, Memory}

-- its number in the table of faults
abbrev pub engine_fault_number : EngineFault → ℕ
engine_fault_number GenRange = 22
engine_fault_number StoreFull = 13
engine_fault_number Memory = 255

-- its name
abbrev pub engine_fault_text : EngineFault → List ℕ
engine_fault_text GenRange = codes "GenRange"
engine_fault_text StoreFull = codes "StoreFull"
engine_fault_text Memory = codes "Memory"

-- the refusal of a store, as an engine's
abbrev pub engine_fault_of : StoreFault → EngineFault
engine_fault_of store.StoreFull = StoreFull
engine_fault_of store.Memory = Memory
