-- Why a server of a kept board ends without an account.
use Rattle.std.specs.Prelude.{ℕ, List, codes}
use Rattle.board_keeper.specs.Faults.{keep_fault_text}
use Rattle.board_keeper.specs.declared.ending.EndFault.{EndFault}
use Rattle.board_keeper.specs.declared.ending.EndFault.TheVariants as ends
use Rattle.relay_board.specs.Faults.{finish_fault_text}
use Rattle.seat_server.specs.declared.fault.ServerFault.{ServerFault}
use Rattle.seat_server.specs.declared.fault.ServerFault.TheVariants as server
use Rattle.kept_server.specs.declared.fault.KeptFault.{KeptFault}
use Rattle.kept_server.specs.declared.fault.KeptFault.TheVariants.{Read, Keep, Finish, Memory}

-- its name
abbrev pub kept_fault_text : KeptFault → List ℕ
kept_fault_text Read = codes "Read"
kept_fault_text (Keep fault) = keep_fault_text fault
kept_fault_text (Finish fault) = finish_fault_text fault
kept_fault_text Memory = codes "Memory"

-- why seats were not served; no turn and no finish is among it
abbrev pub kept_fault_of : ServerFault → KeptFault
kept_fault_of server.Read = Read
kept_fault_of (server.Turn fault) = Memory
kept_fault_of (server.Finish fault) = Finish fault
kept_fault_of server.Memory = Memory

abbrev pub kept_fault_of_end : EndFault → KeptFault
kept_fault_of_end (ends.Keep why) = Keep why
kept_fault_of_end (ends.Finish why) = Finish why
