-- What a server does.
use Rattle.std.specs.Prelude.{◌≡◌, ◌⊎◌, ℕ, List, [], false, length, Result, Ok, Err}
use Rattle.square_store.specs.Limits.{usual_room}
use Rattle.board.specs.Showing.{Origin}
use Rattle.devices.specs.Count.{one_more}
use Rattle.devices.specs.Sink.{IsPush, KnownSink}
use Rattle.generations_rule.specs.Rule.{GenerationsRule}
use Rattle.genedit_io.specs.declared.fault.RunFault.{RunFault}
use Rattle.genedit_io.specs.declared.fault.RunFault.TheVariants.{Script, Refused, Read, Turns, Write, Memory, StoreFull}
use Rattle.relay_board.specs.Seating.{AllFresh, Seating}
use Rattle.relay_board.specs.Relaying.{Relaying}
use Rattle.relay_board.specs.declared.fault.StartFault.TheVariants.{NoPlace}
use Rattle.seat_server.specs.Faults.{IsReason}
use Rattle.seat_server.specs.Serving.{FinishedValue, IsServed}
use Rattle.seat_server.specs.declared.fault.ServerFault.{ServerFault}
use Rattle.genedit_serve.specs.Closing.{address_text, closing_text}
use Rattle.genedit_serve.specs.Faults.{run_fault_of_server, run_fault_of_start}
use Rattle.genedit_serve.specs.declared.address.Address.{Address}

-- a push that did not fail
abbrev pub Pushes : KnownSink → KnownSink → List ℕ → Type 0
Pushes from to bytes = IsPush {A = Unit {0}} {E = Unit {0}} from to (Ok tt) bytes

-- a push that failed; how many of its bytes were taken is not known
abbrev pub Fails : KnownSink → KnownSink → Type 0
Fails from to = (to.pushes ≡ one_more from.pushes) × (to.failures ≡ one_more from.failures)

-- so many seats that nothing was done with, numbered from the first on, over an inbox for 64 submissions
abbrev pub AreFreshSeats : GenerationsRule → ℕ → ℕ → List Seating → Type 0
AreFreshSeats r first sessions seats = AllFresh first r 64 0 seats × (length seats ≡ sessions)

-- A board under the rule was served to its end: of so many seats that nothing had been done with, numbered from the first on, each was served over streams
-- that nobody had used before; what tells where it listens was pushed, and behind it the lines of the seats and of the
-- published list.
pub record IsServedBoard (r : GenerationsRule) (first sessions : ℕ) (told : List ℕ) (from to : KnownSink) : Type 0 where
  pub board : Origin
  pub states : board.states ≡ r.states
  pub seats : List Seating
  pub fresh : AreFreshSeats r first sessions seats
  pub finished : FinishedValue
  pub served : IsServed board seats finished
  pub between : KnownSink
  pub listens : Pushes from between told
  pub closes : Pushes between to (closing_text first finished)

-- a relay of so many seats that has taken, kept and published nothing, with room for 2^26 squares
pub record IsFreshRelay (sessions : ℕ) (relay : Relaying) : Type 0 where
  pub published : relay.list ≡ []
  pub taken : relay.out ≡ []
  pub kept : relay.kept ≡ []
  pub seats : relay.made ≡ sessions
  pub closed : relay.closed ≡ false
  pub squares : relay.room ≡ usual_room

-- What tells where it listens was pushed, and the server of a fresh relay and its seats gave no account, for a reason
-- that is told so.
pub record IsUnserved (r : GenerationsRule) (first sessions : ℕ) (told : List ℕ) (from to : KnownSink) (fault : RunFault) : Type 0 where
  pub listens : Pushes from to told
  pub relay : Relaying
  pub board : IsFreshRelay sessions relay
  pub seats : List Seating
  pub fresh : AreFreshSeats r first sessions seats
  pub cause : ServerFault
  pub named : fault ≡ run_fault_of_server cause
  pub reason : IsReason 1000 relay seats cause

-- Why a board was not served to its end, and what was pushed by then: at most what tells where it listens. A fault of
-- the sink comes only where this push failed, or the one behind it; a full store, only of a relay that was served; a
-- refusal, only where there was no place at the start, or where the relay did not finish.
abbrev pub IsGivenUp : GenerationsRule → ℕ → ℕ → List ℕ → KnownSink → KnownSink → RunFault → Type 0
IsGivenUp r first sessions told from to (Script line) = ⊥
IsGivenUp r first sessions told from to (Refused number place) =
    ((Refused number place ≡ run_fault_of_start NoPlace) × (to ≡ from)) ⊎ IsUnserved r first sessions told from to (Refused number place)
IsGivenUp r first sessions told from to Read = (to ≡ from) ⊎ Pushes from to told
IsGivenUp r first sessions told from to Turns = ⊥
IsGivenUp r first sessions told from to Write = Fails from to ⊎ ((between : KnownSink) × Pushes from between told × Fails between to)
IsGivenUp r first sessions told from to Memory = (to ≡ from) ⊎ Pushes from to told
IsGivenUp r first sessions told from to StoreFull = IsUnserved r first sessions told from to StoreFull

-- by its result, where this tells where it listens
abbrev pub ServesAt : {A : Type 0} → GenerationsRule → ℕ → ℕ → List ℕ → KnownSink → KnownSink → Result A RunFault → Type 0
ServesAt r first sessions told from to (Ok done) = IsServedBoard r first sessions told from to
ServesAt r first sessions told from to (Err fault) = IsGivenUp r first sessions told from to fault

-- the same at its address; of the port of its listener contracts know nothing
abbrev pub Serves : {A : Type 0} → GenerationsRule → ℕ → ℕ → Address → KnownSink → KnownSink → Result A RunFault → Type 0
Serves r first sessions address from to result = (port : ℕ) × ServesAt r first sessions (address_text address port) from to result

-- why it is not known where a server listens
abbrev pub IsUnbound : RunFault → Type 0
IsUnbound fault = (fault ≡ Read) ⊎ (fault ≡ Memory)
