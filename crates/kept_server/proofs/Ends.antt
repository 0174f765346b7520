-- How a server of a kept board ends, from how its parts went.
use Rattle.std.proofs.Common.{◌≡◌, ◌++◌, ◌∷◌, [], ℕ, suc, ◌+◌, List, length, Option, Result, Ok, Err, refl, sym, subst, ◌∙◌, add-zero, zero-add, arith}
use Rattle.std.specs.Prelude.{IfOk}
use Rattle.board.specs.Origins.{list_of}
use Rattle.board.specs.Showing.{Origin}
use Rattle.board_keeper.proofs.Ends.{whole_before}
use Rattle.board_keeper.specs.Ending.{IsEndFault}
use Rattle.board_keeper.specs.Keeping.{Keeping}
use Rattle.board_keeper.specs.declared.ending.EndFault.{EndFault}
use Rattle.board_keeper.specs.declared.ending.EndFault.TheVariants as ends
use Rattle.board.specs.declared.entry.Entry.{Entry}
use Rattle.relay_board.specs.Closing.{IsWhole}
use Rattle.relay_board.specs.Seating.{Numbered, Seating}
use Rattle.seat_server.specs.Faults.{IsAttendFault}
use Rattle.seat_server.specs.declared.fault.ServerFault.{ServerFault}
use Rattle.seat_server.specs.declared.fault.ServerFault.TheVariants as server
use Rattle.seat_server.specs.Serving.{FinishedValue}
use Rattle.seat_server.specs.Sessions.{AreAttended, AreServed, SessionEnd, VisitValue}
use Rattle.kept_server.specs.declared.fault.KeptFault.{KeptFault}
use Rattle.kept_server.specs.declared.fault.KeptFault.TheVariants.{Read, Keep, Finish, Memory}
use Rattle.kept_server.specs.Faults.{kept_fault_of, kept_fault_of_end}
use Rattle.kept_server.specs.Serving.{IsCloseReason, IsKeptReason, IsServedBeside, IsTurnReason}

-- two facts of a result are one
pub both_ok : {A E : Type 0} (r : Result A E) (P Q : A → Type 0) → IfOk r P → IfOk r Q → IfOk r (λ a. P a × Q a)
both_ok (Ok a) P Q p q = (p, q)
both_ok (Err e) P Q p q = tt

-- ---- reasons

pub turn_reason : (before : List Seating) (file : Seating) (why : KeptFault) (b : Keeping) → IsTurnReason why b → IsKeptReason before file why b
turn_reason before file Read b why = tt
turn_reason before file (Keep fault) b why = why
turn_reason before file (Finish fault) b why = absurd why
turn_reason before file Memory b why = tt

pub close_reason : (before after : List Seating) (file : Seating) (visits : List (List VisitValue)) (why : KeptFault) (b : Keeping) → AreAttended before visits after → IsCloseReason (after ++ file ∷ []) why b
    → IsKeptReason before file why b
close_reason before after file visits Read b met why = absurd why
close_reason before after file visits (Keep fault) b met why = why
close_reason before after file visits (Finish fault) b met why = record { after = after; visits = visits; attended = met; reason = why }
close_reason before after file visits Memory b met why = tt

-- ---- a good end

-- the account is that of the seats that were served, and of the file's
pub served_beside : (o p : Origin) (before after : List Seating) (file : Seating) (ends : List (Option SessionEnd)) (list : List Entry) (f : FinishedValue)
    → p ≡ o → AreServed before ends after → f.ends ≡ ends → IsWhole p list (list_of f.account.front) (after ++ file ∷ []) f.account → IsServedBeside o before file f
served_beside o p before after file ends list f same met are whole = record {
  after = after;
  served = subst (λ (es : List (Option SessionEnd)). AreServed before es after) (sym are) met;
  whole = whole_before o p [] list (list_of f.account.front) (after ++ file ∷ []) f.account same (list, refl) whole;
}

-- ---- parts

-- the file's seat stands behind the others
numbered_more : (n : ℕ) (ss : List Seating) (s : Seating) → Numbered n ss → s.place ≡ n + length ss → Numbered n (ss ++ s ∷ [])
numbered_more n [] s order last = (last ∙ add-zero n, tt)
numbered_more n (x ∷ ss) s order last =
    let next : n + suc (length ss) ≡ n + 1 + length ss = omega arith in
    (order.0, numbered_more (n + 1) ss s order.1 (last ∙ next))

pub numbered_all : (ss : List Seating) (s : Seating) → Numbered 0 ss → s.place ≡ length ss → Numbered 0 (ss ++ s ∷ [])
numbered_all ss s order last = numbered_more 0 ss s order (last ∙ sym (zero-add (length ss)))

-- why a keeper did not finish
pub end_reason : (f : EndFault) (k : Keeping) (seats all : List Seating) (why : KeptFault) → seats ≡ all → why ≡ kept_fault_of_end f → IsEndFault f k seats → IsCloseReason all why k
end_reason f k seats all why same told h = subst (λ (w : KeptFault). IsCloseReason all w k) (sym told) (go f (subst (λ (ss : List Seating). IsEndFault f k ss) same h))
  where
    go : (f : EndFault) → IsEndFault f k all → IsCloseReason all (kept_fault_of_end f) k
    go (ends.Keep w) h = h
    go (ends.Finish w) h = h

-- why the seats were not served
pub attend_reason : (f : ServerFault) (why : KeptFault) (b : Keeping) → IsAttendFault f → why ≡ kept_fault_of f → IsTurnReason why b
attend_reason f why b h told = subst (λ (w : KeptFault). IsTurnReason w b) (sym told) (go f h)
  where
    go : (f : ServerFault) → IsAttendFault f → IsTurnReason (kept_fault_of f) b
    go server.Read h = tt
    go (server.Turn w) h = absurd h
    go (server.Finish w) h = absurd h
    go server.Memory h = tt
