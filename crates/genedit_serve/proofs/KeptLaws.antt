-- Boards that are kept: their seats, and how they end.
use Rattle.std.proofs.Common.{◌≡◌, ◌⊎◌, ◌∙◌, ◌++◌, ◌+◌, ◌-◌, ℕ, List, [], ◌∷◌, length, map, ap, refl, sym, subst, inl, inr, arith, length-append}
use Rattle.std.proofs.lemmas.List.{length-map}
use Rattle.std.specs.Prelude.{Result}
use Rattle.board.specs.Entries.{edits_of}
use Rattle.board.specs.declared.entry.Entry.{Entry}
use Rattle.board_keeper.specs.Loading.{AreRaised, raised}
use Rattle.devices.specs.Sink.{KnownSink}
use Rattle.document_bodies.specs.Bodies.{edit_bodies, edit_body}
use Rattle.document_bodies.specs.Counters.{AreNewestOf}
use Rattle.document_bodies.specs.Newest.{RiseByReplica}
use Rattle.generations_rule.specs.Rule.{GenerationsRule}
use Rattle.genedit_io.specs.declared.fault.RunFault.{RunFault}
use Rattle.genedit_io.specs.declared.fault.RunFault.TheVariants.{Script, Refused, Read, Turns, Write, Memory, StoreFull}
use Rattle.relay_board.specs.Seating.{AllFresh, Numbered, Seating}
use Rattle.seat_server.specs.Faults.{IsAttendFault}
use Rattle.seat_server.specs.declared.fault.ServerFault.{ServerFault}
use Rattle.seat_server.specs.declared.fault.ServerFault.TheVariants as server
use Rattle.genedit_serve.specs.Faults.{run_fault_of_server}
use Rattle.genedit_serve.specs.Keeping.{AreInOrder, AreKeptSeats, IsKeptGivenUp, IsToldSoFar, IsUnopened, IsUntold, ServesKept, ServesKeptAt, TellsKept}
use Rattle.genedit_serve.specs.Serving.{Fails, IsUnbound}
use Rattle.genedit_serve.specs.Closing.{address_text}
use Rattle.genedit_serve.specs.declared.address.Address.{Address}
use Rattle.document_files.specs.declared.refusal.FileRefusal.{FileRefusal}
use Rattle.genedit_serve.proofs.ServingLaws.{numbered}

-- ---- seats

-- the first of fresh seats are fresh
front_fresh : (start : ℕ) (rule : GenerationsRule) (room n : ℕ) (xs : List Seating) (x : Seating) → AllFresh start rule room n (xs ++ x ∷ []) → AllFresh start rule room n xs
front_fresh start rule room n [] x all = tt
front_fresh start rule room n (y ∷ xs) x all = (all.0, front_fresh start rule room (n + 1) xs x all.1)

-- and the last stands behind them
last_place : (start : ℕ) (rule : GenerationsRule) (room n : ℕ) (xs : List Seating) (x : Seating) → AllFresh start rule room n (xs ++ x ∷ []) → x.place ≡ n + length xs
last_place start rule room n [] x all = ap (λ (s : Seating). s.place) all.0 ∙ omega arith
last_place start rule room n (y ∷ xs) x all = last_place start rule room (n + 1) xs x all.1 ∙ omega arith

-- seats that are raised stand where they stood
raised_numbered : (newest : List ℕ) (n : ℕ) (ss : List Seating) → Numbered n ss → Numbered n (map (raised newest) ss)
raised_numbered newest n [] order = tt
raised_numbered newest n (s ∷ ss) order = (order.0, raised_numbered newest (n + 1) ss order.1)

module _ (start : ℕ) (rule : GenerationsRule) (count : ℕ) (newest : List ℕ) (before after : List Seating) (file : Seating) (fresh : AllFresh start rule 64 0 before) (many : length before ≡ count) (are : AreRaised newest before after file) where
  all_fresh : AllFresh start rule 64 0 (are.first ++ are.last ∷ [])
  all_fresh = subst (AllFresh start rule 64 0) are.all fresh

  counted : length are.first + 1 ≡ count
  counted = sym (length-append are.first (are.last ∷ [])) ∙ (sym (ap length are.all) ∙ many)

  long : length after ≡ length are.first
  long = ap length are.raised ∙ length-map are.first (raised newest)

  -- what a file had stands on a board: its seats are those of a kept board
  pub kept_seats : (edits : List Entry) → file.mine ≡ edits → RiseByReplica (edits_of edits) → AreNewestOf (edits_of edits) newest → AreKeptSeats rule start (count - 1) after file
  kept_seats edits mine rise counters = record {
    rise = subst (λ (l : List Entry). RiseByReplica (edits_of l)) (sym mine) rise;
    newest = newest;
    counters = subst (λ (l : List Entry). AreNewestOf (edits_of l) newest) (sym mine) counters;
    unused = are.first;
    fresh = (front_fresh start rule 64 0 are.first are.last all_fresh, omega (arith, counted));
    raised = are.raised;
  }

  -- and stand in their order
  pub kept_order : (made : ℕ) → made ≡ count → AreInOrder made after file
  kept_order made all = record {
    all = all ∙ (sym counted ∙ ap (λ n. n + 1) (sym long));
    order = subst (Numbered 0) (sym are.raised) (raised_numbered newest 0 are.first (numbered start rule 64 0 are.first (front_fresh start rule 64 0 are.first are.last all_fresh)));
    last = are.same.place ∙ (last_place start rule 64 0 are.first are.last all_fresh ∙ omega (arith, long));
  }

-- ---- ends

-- no fault of a script ends it, wherever the lines were
pub given_up : (lines : List ℕ) (from to : KnownSink) (fault : RunFault) → IsUnopened fault → IsToldSoFar lines from to → IsKeptGivenUp lines from to fault
given_up lines from to (Script line) unscripted so_far = absurd unscripted
given_up lines from to (Refused number place) unscripted so_far = so_far
given_up lines from to Read unscripted so_far = so_far
given_up lines from to Turns unscripted so_far = absurd unscripted
given_up lines from to Write unscripted so_far = inl so_far
given_up lines from to Memory unscripted so_far = so_far
given_up lines from to StoreFull unscripted so_far = so_far

-- before any line
pub untold_yet : (lines : List ℕ) (from : KnownSink) (fault told : RunFault) → told ≡ fault → IsUnopened fault → IsKeptGivenUp lines from from told
untold_yet lines from fault told same unscripted = subst (λ (f : RunFault). IsKeptGivenUp lines from from f) (sym same) (given_up lines from from fault unscripted (inl refl))

-- it is not known where it would listen
pub unbound : (lines : List ℕ) (from : KnownSink) (fault told : RunFault) → told ≡ fault → IsUnbound fault → IsKeptGivenUp lines from from told
unbound lines from fault told same (inl read) = subst (λ (f : RunFault). IsKeptGivenUp lines from from f) (sym (same ∙ read)) (inl refl)
unbound lines from fault told same (inr want) = subst (λ (f : RunFault). IsKeptGivenUp lines from from f) (sym (same ∙ want)) (inl refl)

-- where it listens is told as its address says
pub serves_at : {A : Type 0} (rule : GenerationsRule) (first sessions : ℕ) (address : Address) (from to : KnownSink) (result : Result A FileRefusal) (lines : List ℕ)
    → (port : ℕ) × (lines ≡ address_text address port) → ServesKeptAt rule first sessions lines from to result → ServesKept rule first sessions address from to result
serves_at rule first sessions address from to result lines told serves = (told.0, subst (λ (text : List ℕ). ServesKeptAt rule first sessions text from to result) told.1 serves)

-- amid the two pushes
pub untold : (lines : List ℕ) (edits lost : ℕ) (from to : KnownSink) (fault told : RunFault) → told ≡ fault → IsUntold edits lost from to fault → IsKeptGivenUp lines from to told
untold lines edits lost from to fault told same h = subst (λ (f : RunFault). IsKeptGivenUp lines from to f) (sym same) (go fault h)
  where
    go : (fault : RunFault) → IsUntold edits lost from to fault → IsKeptGivenUp lines from to fault
    go (Script line) h = absurd h
    go (Refused number place) h = absurd h
    go Read h = absurd h
    go Turns h = absurd h
    go Write (inl fails) = inr (from, inl refl, fails)
    go Write (inr line) = inr (line.0, inr (edits, lost, inl line.1), line.2)
    go Memory (inl same) = inl same
    go Memory (inr line) = inr (edits, lost, inl line)
    go StoreFull h = absurd h

-- behind them
pub told_both : (lines : List ℕ) (edits lost : ℕ) (from to : KnownSink) (fault : RunFault) → TellsKept edits lost lines from to → IsUnopened fault → IsKeptGivenUp lines from to fault
told_both lines edits lost from to fault tells unscripted = given_up lines from to fault unscripted (inr (edits, lost, inr tells))

-- and the closing lines were not pushed
pub unclosed : (lines : List ℕ) (edits lost : ℕ) (from between to : KnownSink) (fault told : RunFault) → TellsKept edits lost lines from between → told ≡ fault
    → ((fault ≡ Memory) × (to ≡ between)) ⊎ ((fault ≡ Write) × Fails between to) → IsKeptGivenUp lines from to told
unclosed lines edits lost from between to fault told tells same (inl want) =
    subst (λ (f : RunFault). IsKeptGivenUp lines from to f) (sym (same ∙ want.0)) (subst (IsToldSoFar lines from) (sym want.1) (inr (edits, lost, inr tells)))
unclosed lines edits lost from between to fault told tells same (inr fails) =
    subst (λ (f : RunFault). IsKeptGivenUp lines from to f) (sym (same ∙ fails.0)) (inr (between, inr (edits, lost, inr tells), fails.1))

-- ---- edits

-- as many edits as bodies
pub as_many_edits : (r : GenerationsRule) (list : List Entry) (bodies : List (List ℕ)) → edit_bodies r (edits_of list) ≡ bodies → length list ≡ length bodies
as_many_edits r list bodies are = sym (length-map list (λ (e : Entry). e.edit)) ∙ (sym (length-map (edits_of list) (edit_body r)) ∙ ap length are)

-- ---- seats that were not served

-- no fault of a script comes of it
attend_unopened : (cause : ServerFault) → IsAttendFault cause → IsUnopened (run_fault_of_server cause)
attend_unopened server.Read attend = tt
attend_unopened (server.Turn fault) attend = absurd attend
attend_unopened (server.Finish fault) attend = absurd attend
attend_unopened server.Memory attend = tt

-- before any line
pub unattended_yet : (lines : List ℕ) (from : KnownSink) (cause : ServerFault) (fault told : RunFault) → told ≡ fault → fault ≡ run_fault_of_server cause → IsAttendFault cause → IsKeptGivenUp lines from from told
unattended_yet lines from cause fault told same is attend = untold_yet lines from (run_fault_of_server cause) told (same ∙ is) (attend_unopened cause attend)

-- seats that are served stand in the order of those that they were
pub attended_order : (made : ℕ) (seats attended : List Seating) (file : Seating) → attended ≡ seats → AreInOrder made seats file → AreInOrder made attended file
attended_order made seats attended file same order = subst (λ (ss : List Seating). AreInOrder made ss file) (sym same) order
