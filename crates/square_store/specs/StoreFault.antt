-- The refusals of a store, as users meet them.
use Rattle.std.specs.Prelude.{ℕ, List, codes}
use Rattle.square_store.specs.declared.fault.StoreFault.{StoreFault}
use Rattle.square_store.specs.declared.fault.StoreFault.TheVariants.{StoreFull, Memory}

-- its number in the table of faults
abbrev pub store_fault_number : StoreFault → ℕ
store_fault_number StoreFull = 13
store_fault_number Memory = 255

-- its name
abbrev pub store_fault_text : StoreFault → List ℕ
store_fault_text StoreFull = codes "StoreFull"
store_fault_text Memory = codes "Memory"
