-- The refusals of universes of macrocells, as users meet them.
use Rattle.std.specs.Prelude.{ℕ, List, codes}
use Rattle.square_store.specs.declared.fault.StoreFault.{StoreFault}
use Rattle.square_store.specs.declared.fault.StoreFault.TheVariants as store
use Rattle.macrocell_universes.specs.declared.fault.UniverseFault.{UniverseFault}
use Rattle.macrocell_universes.specs.declared.fault.UniverseFault.TheVariants.{OutOfPlane, StateRange, StoreFull, Memory}

-- its number in the table of faults
abbrev pub universe_fault_number : UniverseFault → ℕ
universe_fault_number OutOfPlane = 10
universe_fault_number StateRange = 11
universe_fault_number StoreFull = 13
universe_fault_number Memory = 255

-- its name
abbrev pub universe_fault_text : UniverseFault → List ℕ
universe_fault_text OutOfPlane = codes "OutOfPlane"
universe_fault_text StateRange = codes "StateRange"
universe_fault_text StoreFull = codes "StoreFull"
universe_fault_text Memory = codes "Memory"

-- the refusal of a store, as that of a universe
abbrev pub universe_fault_of : StoreFault → UniverseFault
universe_fault_of store.StoreFull = StoreFull
universe_fault_of store.Memory = Memory
