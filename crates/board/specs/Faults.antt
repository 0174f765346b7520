-- The faults of reads, as users meet them.
use Rattle.std.specs.Prelude.{ℕ, List, codes}
use Rattle.board.specs.declared.fault.SeatFault.{SeatFault}
use Rattle.board.specs.declared.fault.SeatFault.TheVariants as seat_faults

-- the number of the fault of a read in the table of faults
abbrev pub seat_fault_number : SeatFault → ℕ
seat_fault_number seat_faults.Closed = 30
seat_fault_number seat_faults.Memory = 255

-- its name
abbrev pub seat_fault_text : SeatFault → List ℕ
seat_fault_text seat_faults.Closed = codes "Closed"
seat_fault_text seat_faults.Memory = codes "Memory"
