-- The refusals of a session itself, as users meet them.
use Rattle.std.specs.Prelude.{ℕ}
use Rattle.delta_exchange.specs.Fault.{read_fault_number}
use Rattle.replica_sessions.specs.declared.fault.SessionFault.{SessionFault}
use Rattle.replica_sessions.specs.declared.fault.SessionFault.TheVariants.{Unread, Request, FrameTooLong, Memory}

-- its number in the table of faults
abbrev pub session_fault_number : SessionFault → ℕ
session_fault_number (Unread fault) = read_fault_number fault
session_fault_number Request = 33
session_fault_number FrameTooLong = 21
session_fault_number Memory = 255
