-- Why a relay did not finish, from its turns.
use Rattle.std.specs.Prelude.{IfErr, IfOk}
use Rattle.std.proofs.Common.{◌≡◌, ◌≢◌, List, Some, Result, Ok, Err, inl, inr}
use Rattle.relay_board.specs.Relaying.{Relaying}
use Rattle.relay_board.specs.Turns.{Takes}
use Rattle.relay_board.specs.declared.fault.TurnFault.{TurnFault}
use Rattle.relay_board.specs.declared.fault.TurnFault.TheVariants as turns
use Rattle.relay_board.specs.Closing.{IsDrained, IsLeft}
use Rattle.relay_board.specs.FaultsOf.{finish_fault_of}
use Rattle.relay_board.specs.Seating.{Seating, BeginsWithAll}
use Rattle.relay_board.specs.declared.fault.FinishFault.{FinishFault}
use Rattle.relay_board.specs.declared.fault.FinishFault.TheVariants.{Closed, StoreFull, Memory}

-- a full store is told of no other turn
pub full_only : (fault : TurnFault) → finish_fault_of fault ≡ StoreFull → fault ≡ turns.StoreFull
full_only turns.StoreFull h = cc
full_only turns.Memory h = absurd (cc (h))

-- the store of a relay whose last turn failed for want of room is full
pub takes_full : (a b : Relaying) (fault : TurnFault) → Takes a (Some fault) b → fault ≡ turns.StoreFull → b.stored ≡ b.room
takes_full a b fault took full = took.ends.turned.4 full

-- where a turn failed
pub turn_left : (fault : TurnFault) (a : Relaying) (seats : List Seating) (b : Relaying) → Takes a (Some fault) b → IsLeft (finish_fault_of fault) a seats b
turn_left turns.StoreFull a seats b took = took
turn_left turns.Memory a seats b took = inl took

-- where none did
pub closing_left : (fault : FinishFault) (a : Relaying) (seats : List Seating) (b : Relaying) → IsDrained a seats b → fault ≢ StoreFull
    → (fault ≡ Closed → ¬ (BeginsWithAll b.list seats)) → IsLeft fault a seats b
closing_left Closed a seats b drained not_full ahead = (drained, ahead cc)
closing_left StoreFull a seats b drained not_full ahead = absurd (not_full cc)
closing_left Memory a seats b drained not_full ahead = inr drained

-- ---- the end

-- what is known of an account tells what is asked of it
pub told_ok : {A E : Type 0} (r : Result A E) (P Q : A → Type 0) → ((a : A) → P a → Q a) → IfOk r P → IfOk r Q
told_ok (Ok a) P Q f p = f a p
told_ok (Err e) P Q f p = p

-- the same of why there is none
pub told_err : {A E : Type 0} (r : Result A E) (P Q R S : E → Type 0) → ((e : E) → P e → Q e → R e → S e) → IfErr r P → IfErr r Q → IfErr r R → IfErr r S
told_err (Ok a) P Q R S f p q r = p
told_err (Err e) P Q R S f p q r = f e p q r
