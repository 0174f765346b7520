-- The faults of a keeper's turn, as users meet them.
use Rattle.std.specs.Prelude.{ℕ, List, codes}
use Rattle.board_keeper.specs.declared.fault.KeepFault.{KeepFault}
use Rattle.board_keeper.specs.declared.fault.KeepFault.TheVariants as faults

-- its number in the table of faults
abbrev pub keep_fault_number : KeepFault → ℕ
keep_fault_number faults.StoreFull = 13
keep_fault_number faults.Memory = 255
keep_fault_number faults.Write = 37

-- its name there
abbrev pub keep_fault_text : KeepFault → List ℕ
keep_fault_text faults.StoreFull = codes "StoreFull"
keep_fault_text faults.Memory = codes "Memory"
keep_fault_text faults.Write = codes "Write"
