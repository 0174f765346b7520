-- How a server ends.
use Rattle.std.proofs.Common.{◌≡◌, ◌∙◌, ◌++◌, ◌+◌, ◌⊎◌, ℕ, List, [], ◌∷◌, ap, refl, sym, subst, inl, inr, arith}
use Rattle.std.proofs.lemmas.List.{append-nil}
use Rattle.std.specs.Prelude.{Option, Result, Ok, Err, IfErr, length}
use Rattle.board.specs.Showing.{Origin}
use Rattle.devices.specs.Sink.{IsPush, KnownSink}
use Rattle.generations_rule.specs.Rule.{GenerationsRule}
use Rattle.genedit_io.specs.declared.fault.RunFault.{RunFault}
use Rattle.genedit_io.specs.declared.fault.RunFault.TheVariants.{Write}
use Rattle.relay_board.specs.Seating.{AllFresh, Numbered, Seating}
use Rattle.relay_board.specs.declared.fault.FinishFault.TheVariants as finish
use Rattle.relay_board.specs.Relaying.{Relaying}
use Rattle.relay_board.specs.declared.fault.TurnFault.TheVariants as turn
use Rattle.seat_server.specs.Faults.{IsAttendFault, IsReason}
use Rattle.seat_server.specs.Serving.{FinishedValue, IsServed}
use Rattle.seat_server.specs.Sessions.{SessionEnd}
use Rattle.seat_server.specs.declared.fault.ServerFault.{ServerFault}
use Rattle.seat_server.specs.declared.fault.ServerFault.TheVariants as server
use Rattle.genedit_serve.specs.Closing.{address_text, closing_text, session_lines}
use Rattle.genedit_serve.specs.Faults.{run_fault_of_server}
use Rattle.genedit_serve.specs.declared.address.Address.{Address}
use Rattle.genedit_serve.specs.Serving.{AreFreshSeats, Fails, IsFreshRelay, IsGivenUp, IsUnbound, IsUnserved, Pushes, Serves, ServesAt}

-- fresh seats stand in the order of their numbers
pub numbered : (first : ℕ) (rule : GenerationsRule) (room n : ℕ) (seats : List Seating) → AllFresh first rule room n seats → Numbered n seats
numbered first rule room n [] fresh = tt
numbered first rule room n (s ∷ seats) fresh = (ap (λ (s : Seating). s.place) fresh.0, numbered first rule room (n + 1) seats fresh.1)

-- a push of these bytes that did not fail, whatever its faults would be
made : {A E : Type 0} (from to : KnownSink) (done : A) (bytes text : List ℕ) → bytes ≡ text → IsPush {A = A} {E = E} from to (Ok done) bytes
    → IsPush {A = Unit {0}} {E = Unit {0}} from to (Ok tt) text
made {A} {E} from to done bytes text is push =
    subst (λ (b : List ℕ). IsPush {A = Unit {0}} {E = Unit {0}} from to (Ok tt) b) is (record { added = push.added; pushes = push.pushes; failures = push.failures })

-- no seat was served, and nothing pushed
pub unattended : (rule : GenerationsRule) (first sessions : ℕ) (lines : List ℕ) (from : KnownSink) (cause : ServerFault) (fault : RunFault) → IsAttendFault cause → fault ≡ run_fault_of_server cause → IsGivenUp rule first sessions lines from from fault
unattended rule first sessions lines from cause fault attend is = subst (λ (f : RunFault). IsGivenUp rule first sessions lines from from f) (sym is) (by_cause cause attend)
  where
    by_cause : (cause : ServerFault) → IsAttendFault cause → IsGivenUp rule first sessions lines from from (run_fault_of_server cause)
    by_cause server.Read attend = inl refl
    by_cause (server.Turn fault) attend = absurd attend
    by_cause (server.Finish fault) attend = absurd attend
    by_cause server.Memory attend = inl refl

-- what tells where it listens was not pushed
pub untold : (rule : GenerationsRule) (first sessions : ℕ) (lines : List ℕ) (from to : KnownSink) (fault : RunFault) → (fault ≡ Write) × Fails from to → IsGivenUp rule first sessions lines from to fault
untold rule first sessions lines from to fault fails = subst (λ (f : RunFault). IsGivenUp rule first sessions lines from to f) (sym fails.0) (inl fails.1)

-- it is not known where it would listen, and nothing was pushed
pub unbound : (rule : GenerationsRule) (first sessions : ℕ) (lines : List ℕ) (from : KnownSink) (fault : RunFault) → IsUnbound fault → IsGivenUp rule first sessions lines from from fault
unbound rule first sessions lines from fault (inl read) = subst (λ (f : RunFault). IsGivenUp rule first sessions lines from from f) (sym read) (inl refl)
unbound rule first sessions lines from fault (inr want) = subst (λ (f : RunFault). IsGivenUp rule first sessions lines from from f) (sym want) (inl refl)

-- where it listens is told as its address says
pub serves_at : {A : Type 0} (rule : GenerationsRule) (first sessions : ℕ) (address : Address) (from to : KnownSink) (result : Result A RunFault) (lines : List ℕ)
    → (port : ℕ) × (lines ≡ address_text address port) → ServesAt rule first sessions lines from to result → Serves rule first sessions address from to result
serves_at rule first sessions address from to result lines told serves = (told.0, subst (λ (text : List ℕ). ServesAt rule first sessions text from to result) told.1 serves)

module _ (rule : GenerationsRule) (first sessions : ℕ) (from between : KnownSink) (lines : List ℕ) (told : Pushes from between lines) where
  -- it was told where it listens, and nothing behind that
  pub unserved : (relay : Relaying) (seats : List Seating) (cause : ServerFault) (fault : RunFault) → IsFreshRelay sessions relay → AreFreshSeats rule first sessions seats
      → IsReason 1000 relay seats cause → fault ≡ run_fault_of_server cause → IsGivenUp rule first sessions lines from between fault
  unserved relay seats cause fault board fresh reason is = subst (λ (f : RunFault). IsGivenUp rule first sessions lines from between f) (sym is) (by_cause cause reason)
    where
      so : (cause : ServerFault) → IsReason 1000 relay seats cause → IsUnserved rule first sessions lines from between (run_fault_of_server cause)
      so cause reason = record { listens = told; relay = relay; board = board; seats = seats; fresh = fresh; cause = cause; named = refl; reason = reason }

      by_cause : (cause : ServerFault) → IsReason 1000 relay seats cause → IsGivenUp rule first sessions lines from between (run_fault_of_server cause)
      by_cause server.Read reason = inr told
      by_cause (server.Turn turn.StoreFull) reason = so (server.Turn turn.StoreFull) reason
      by_cause (server.Turn turn.Memory) reason = inr told
      by_cause (server.Finish finish.Closed) reason = inr (so (server.Finish finish.Closed) reason)
      by_cause (server.Finish finish.StoreFull) reason = so (server.Finish finish.StoreFull) reason
      by_cause (server.Finish finish.Memory) reason = inr told
      by_cause server.Memory reason = inr told

  -- the closing lines were pushed too, or that failed
  pub ends : {T : Type 0} (board : Origin) (seats : List Seating) (finished : FinishedValue) (to : KnownSink) (r : Result T RunFault) (text : List ℕ)
      → board.states ≡ rule.states → AreFreshSeats rule first sessions seats → IsServed board seats finished → text ≡ closing_text first finished → IsPush between to r text → IfErr r (λ fault. fault ≡ Write)
      → ServesAt rule first sessions lines from to r
  ends board seats finished to (Ok t) text states fresh served is_text pushed fault = record {
    board = board;
    states = states;
    seats = seats;
    fresh = fresh;
    finished = finished;
    served = served;
    between = between;
    listens = told;
    closes = made between to t text (closing_text first finished) is_text pushed;
  }
  ends board seats finished to (Err fault) text states fresh served is_text pushed is =
      subst (λ (f : RunFault). IsGivenUp rule first sessions lines from to f) (sym is) (inr (between, told, (pushed.pushes, pushed.failures)))

-- ---- the lines of the sessions

-- none is left
pub no_line : (out all : List ℕ) (number : ℕ) (accepted : List ℕ) (ends : List (Option SessionEnd)) → (length accepted ≡ 0) ⊎ (length ends ≡ 0)
    → out ++ session_lines number accepted ends ≡ all → out ≡ all
no_line out all number [] ends none so_far = sym (append-nil out) ∙ so_far
no_line out all number (edits ∷ accepted) [] none so_far = sym (append-nil out) ∙ so_far
no_line out all number (edits ∷ accepted) (end ∷ ends) (inl none) so_far = absurd (omega (arith, none))
no_line out all number (edits ∷ accepted) (end ∷ ends) (inr none) so_far = absurd (omega (arith, none))
