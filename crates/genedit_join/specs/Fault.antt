-- Why a client ends before its commands do, as users meet it.
use Rattle.std.specs.Prelude.{ℕ, ◌==◌, if◌then◌else◌, List, None, codes}
use Rattle.board_client.specs.declared.fault.ClientFault.{ClientFault}
use Rattle.board_client.specs.declared.fault.ClientFault.TheVariants as client
use Rattle.client_session.specs.declared.fault.CommandFault.{CommandFault}
use Rattle.client_session.specs.declared.fault.CommandFault.TheVariants as command
use Rattle.frame_line.specs.declared.fault.LineFault.{LineFault}
use Rattle.frame_line.specs.declared.fault.LineFault.TheVariants as line
use Rattle.genedit_io.specs.declared.fault.RunFault.TheVariants.{Memory, Refused, StoreFull}
use Rattle.genedit_io.specs.RunFault.{exit_status, run_fault_text}
use Rattle.replica_core.specs.declared.fault.Fault.{Fault}
use Rattle.replica_core.specs.declared.fault.Fault.TheVariants as text
use Rattle.genedit_join.specs.declared.fault.JoinFault.{JoinFault}
use Rattle.genedit_join.specs.declared.fault.JoinFault.TheVariants.{Gone, NoReply, NoSeat, NoServer, OtherRule, Run, Script}

-- the status of the process
abbrev pub join_status : JoinFault → ℕ
join_status (Run fault) = exit_status fault
join_status NoServer = 3
join_status NoSeat = 2
join_status Script = 2
join_status Gone = 3
join_status NoReply = 3
join_status OtherRule = 3

-- what the program says
abbrev pub join_fault_text : JoinFault → List ℕ
join_fault_text (Run fault) = run_fault_text fault
join_fault_text NoServer = codes "no server answers"
join_fault_text NoSeat = codes "all seats of the board are taken"
join_fault_text Script = codes "this is a script: run it by `genedit run`"
join_fault_text Gone = codes "the server went away"
join_fault_text NoReply = codes "the server sent what is no reply"
join_fault_text OtherRule = codes "the board that answers has another rule"

abbrev pub memory_wanted : JoinFault
memory_wanted = Run Memory

-- a line on which nothing is said or heard any more
abbrev pub fault_of_line : LineFault → JoinFault
fault_of_line line.FrameTooLong = NoReply
fault_of_line line.Memory = memory_wanted
fault_of_line _ = Gone

-- a text that is not taken: memory or room is wanting, or it is none
abbrev pub fault_of_text : Fault → JoinFault
fault_of_text text.Memory = memory_wanted
fault_of_text text.StoreFull = Run StoreFull
fault_of_text _ = NoReply

abbrev pub fault_of_client : ClientFault → JoinFault
fault_of_client (client.Line fault) = fault_of_line fault
fault_of_client client.NoReply = NoReply
fault_of_client (client.Text fault) = fault_of_text fault
fault_of_client client.Memory = memory_wanted

-- a refusal, of the greeting or of a poll, is told as such, but one of the greeting by 45, for want of a seat
abbrev pub fault_of_refusal : ℕ → JoinFault
fault_of_refusal number = if number == 45 then NoSeat else Run (Refused number None)

-- where nothing comes at the greeting, there is no server
abbrev pub without_greeting : JoinFault → JoinFault
without_greeting Gone = NoServer
without_greeting fault = fault

abbrev pub fault_of_command : CommandFault → JoinFault
fault_of_command (command.Client fault) = fault_of_client fault
fault_of_command (command.Refused number) = fault_of_refusal number
fault_of_command command.Memory = memory_wanted
fault_of_command command.StoreFull = Run StoreFull
