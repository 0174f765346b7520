-- Why a server ends without an account.
use Rattle.std.specs.Prelude.{⊤, ℕ, true, List, None, Some, codes}
use mathlib.Core.List.{IsPrefix}
use Rattle.relay_board.specs.Faults.{turn_fault_text}
use Rattle.relay_board.specs.Relaying.{Relaying}
use Rattle.relay_board.specs.Same.{Same}
use Rattle.relay_board.specs.Faults.{finish_fault_text}
use Rattle.relay_board.specs.Closing.{IsLeft}
use Rattle.relay_board.specs.Seating.{Seating}
use Rattle.relay_board.specs.declared.fault.FinishFault.{FinishFault}
use Rattle.seat_server.specs.Sessions.{AreAttended, VisitValue}
use Rattle.seat_server.specs.Turning.{IsTurned}
use Rattle.seat_server.specs.declared.fault.ServerFault.{ServerFault}
use Rattle.seat_server.specs.declared.fault.ServerFault.TheVariants.{Read, Turn, Finish, Memory}

-- its name
abbrev pub server_fault_text : ServerFault → List ℕ
server_fault_text Read = codes "Read"
server_fault_text (Turn fault) = turn_fault_text fault
server_fault_text (Finish fault) = finish_fault_text fault
server_fault_text Memory = codes "Memory"

-- why the seats could not be served
abbrev pub IsAttendFault : ServerFault → Type 0
IsAttendFault Read = ⊤
IsAttendFault (Turn fault) = ⊥
IsAttendFault (Finish fault) = ⊥
IsAttendFault Memory = ⊤

-- A closed relay was to finish with these seats, and was refused so. It is the same relay still; its list goes on from
-- what was published before.
pub record IsUnfinished (relay : Relaying) (seats : List Seating) (fault : FinishFault) : Type 0 where
  pub left : Relaying
  pub same : Same relay left
  pub goes_on : IsPrefix relay.list left.list
  pub is_left : IsLeft fault relay seats left

-- why there is no account of seats that were served
abbrev pub IsCloseFault : Relaying → List Seating → ServerFault → Type 0
IsCloseFault relay seats Read = ⊥
IsCloseFault relay seats (Turn fault) = ⊥
IsCloseFault relay seats (Finish fault) = IsUnfinished relay seats fault
IsCloseFault relay seats Memory = ⊤

-- The relay took its turns up to an idle one, and was closed. Each of these seats was served, and with the seats as
-- their sessions left them it was refused so.
pub record IsServedInVain (most : ℕ) (relay : Relaying) (before : List Seating) (fault : FinishFault) : Type 0 where
  pub turned : Relaying
  pub turns : IsTurned most relay None turned
  pub after : List Seating
  pub visits : List (List VisitValue)
  pub attended : AreAttended before visits after
  pub unfinished : IsUnfinished (record turned { closed = true }) after fault

-- Why the server of a relay and these seats gives no account. The fault of a turn is told only where too many failed,
-- the last of them so; that of a finish only where the finish was refused so.
abbrev pub IsReason : ℕ → Relaying → List Seating → ServerFault → Type 0
IsReason most relay seats Read = ⊤
IsReason most relay seats (Turn fault) = (b : Relaying) × IsTurned most relay (Some fault) b
IsReason most relay seats (Finish fault) = IsServedInVain most relay seats fault
IsReason most relay seats Memory = ⊤
