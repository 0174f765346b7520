-- Seats whose stamps rise, with one entry more.
use Rattle.std.proofs.Common.{◌≡◌, ℕ, true, List, [], ◌∷◌, ◌++◌, Option, Some, None, IfSome, sym, refl, ap, ◌∙◌, arith}
use borrow.Author.Tests.{ltb-true}
use Rattle.edit_stamps.specs.Edit.{PlaneEdit}
use Rattle.edit_stamps.specs.Stamp.{counter_in, replica_in}
use Rattle.board.specs.declared.entry.Entry.{Entry}
use Rattle.relay_board.specs.declared.fault.SubmitFault.{SubmitFault}
use Rattle.relay_board.specs.declared.fault.SubmitFault.TheVariants.{NotYours, StateRange, OldStamp, Closed, Memory, Full}
use Rattle.relay_board.specs.Refusals.{Looks, Passes, Refuses, BringRefuses}
use Rattle.relay_board.specs.Rising.{last_counter, is_newer, has_risen, RisesFrom, AreOfReplica, IsRising, GoesOn}

last_more : (floor : ℕ) (mine : List Entry) (e : Entry) → last_counter floor (mine ++ e ∷ []) ≡ counter_in e.edit.stamp
last_more floor [] e = refl
last_more floor (x ∷ mine) e = last_more (counter_in x.edit.stamp) mine e

rises_more : (floor : ℕ) (mine : List Entry) (e : Entry) → RisesFrom floor mine → is_newer (Some floor) mine e.edit ≡ true → RisesFrom floor (mine ++ e ∷ [])
rises_more floor [] e rises newer = (omega (arith, ltb-true floor (counter_in e.edit.stamp) newer), tt)
rises_more floor (x ∷ mine) e rises newer = (rises.0, rises_more (counter_in x.edit.stamp) mine e rises.1 newer)

of_more : (number : ℕ) (mine : List Entry) (e : Entry) → AreOfReplica number mine → replica_in e.edit.stamp ≡ number → AreOfReplica number (mine ++ e ∷ [])
of_more number [] e are own = (own, tt)
of_more number (x ∷ mine) e are own = (are.0, of_more number mine e are.1 own)

-- one entry more that may be put
pub rising_more : (floor : Option ℕ) (number : ℕ) (mine : List Entry) (e : Entry) → IsRising floor number mine → GoesOn floor number mine e.edit → IsRising floor number (mine ++ e ∷ [])
rising_more None number mine e rises on = tt
rising_more (Some floor) number mine e rises on = (rises_more floor mine e rises.0 on.1, of_more number mine e rises.1 on.0)

-- its counter is the last one then
pub newest_more : (floor : Option ℕ) (mine : List Entry) (e : Entry) (counter : ℕ) → counter ≡ counter_in e.edit.stamp → IfSome floor (λ n. counter ≡ last_counter n (mine ++ e ∷ []))
newest_more None mine e counter is = tt
newest_more (Some floor) mine e counter is = is ∙ sym (last_more floor mine e)

-- a seat that knows the last counter tells whether an edit is newer
pub risen_is : (floor : Option ℕ) (newest : ℕ) (mine : List Entry) (edit : PlaneEdit) → IfSome floor (λ n. newest ≡ last_counter n mine) → has_risen floor newest edit ≡ is_newer floor mine edit
risen_is None newest mine edit is = refl
risen_is (Some floor) newest mine edit is = ap (λ n. has_risen (Some floor) n edit) is

-- an edit that passes may be put
pub goes_on : (floor : Option ℕ) (number : ℕ) (mine : List Entry) (edit : PlaneEdit) → replica_in edit.stamp ≡ number → is_newer floor mine edit ≡ true → GoesOn floor number mine edit
goes_on None number mine edit own newer = tt
goes_on (Some floor) number mine edit own newer = (own, newer)

-- what refuses an edit that passes refuses it behind the looks
pub refuses_behind : (fault : SubmitFault) (l : Looks) (a b : ℕ) (held : Type 0) → Passes l → BringRefuses fault true a b held → Refuses fault l a b held
refuses_behind NotYours l a b held passes r = absurd r
refuses_behind StateRange l a b held passes r = absurd (cc (r.0))
refuses_behind OldStamp l a b held passes r = absurd r
refuses_behind Closed l a b held passes r = (passes, r.1)
refuses_behind Memory l a b held passes r = (passes, r.1)
refuses_behind Full l a b held passes r = (passes, r.1, r.2)
