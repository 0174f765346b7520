-- The faults of seats and relays, as users meet them.
use Rattle.std.specs.Prelude.{ℕ, List, codes}
use Rattle.relay_board.specs.declared.fault.SubmitFault.{SubmitFault}
use Rattle.relay_board.specs.declared.fault.SubmitFault.TheVariants as submit_faults
use Rattle.relay_board.specs.declared.fault.TurnFault.{TurnFault}
use Rattle.relay_board.specs.declared.fault.TurnFault.TheVariants as turn_faults
use Rattle.relay_board.specs.declared.fault.StartFault.{StartFault}
use Rattle.relay_board.specs.declared.fault.StartFault.TheVariants as start_faults
use Rattle.relay_board.specs.declared.fault.FinishFault.{FinishFault}
use Rattle.relay_board.specs.declared.fault.FinishFault.TheVariants as finish_faults

-- the number of the fault of a submission in the table of faults
abbrev pub submit_fault_number : SubmitFault → ℕ
submit_fault_number submit_faults.NotYours = 28
submit_fault_number submit_faults.StateRange = 11
submit_fault_number submit_faults.OldStamp = 40
submit_fault_number submit_faults.Closed = 30
submit_fault_number submit_faults.Memory = 255
submit_fault_number submit_faults.Full = 29

-- its name
abbrev pub submit_fault_text : SubmitFault → List ℕ
submit_fault_text submit_faults.NotYours = codes "NotYours"
submit_fault_text submit_faults.StateRange = codes "StateRange"
submit_fault_text submit_faults.OldStamp = codes "OldStamp"
submit_fault_text submit_faults.Closed = codes "Closed"
submit_fault_text submit_faults.Memory = codes "Memory"
submit_fault_text submit_faults.Full = codes "Full"

-- the number of the fault of a turn in the table of faults
abbrev pub turn_fault_number : TurnFault → ℕ
turn_fault_number turn_faults.StoreFull = 13
turn_fault_number turn_faults.Memory = 255

-- its name
abbrev pub turn_fault_text : TurnFault → List ℕ
turn_fault_text turn_faults.StoreFull = codes "StoreFull"
turn_fault_text turn_faults.Memory = codes "Memory"

-- the number of the fault of a start in the table of faults
abbrev pub start_fault_number : StartFault → ℕ
start_fault_number start_faults.Size = 32
start_fault_number start_faults.NoPlace = 31
start_fault_number start_faults.Memory = 255

-- its name
abbrev pub start_fault_text : StartFault → List ℕ
start_fault_text start_faults.Size = codes "Size"
start_fault_text start_faults.NoPlace = codes "NoPlace"
start_fault_text start_faults.Memory = codes "Memory"

-- the number of the fault of a finish in the table of faults
abbrev pub finish_fault_number : FinishFault → ℕ
finish_fault_number finish_faults.Closed = 30
finish_fault_number finish_faults.StoreFull = 13
finish_fault_number finish_faults.Memory = 255

-- its name
abbrev pub finish_fault_text : FinishFault → List ℕ
finish_fault_text finish_faults.Closed = codes "Closed"
finish_fault_text finish_faults.StoreFull = codes "StoreFull"
finish_fault_text finish_faults.Memory = codes "Memory"
