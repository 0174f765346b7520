-- How a keeper ends.
use Rattle.std.specs.Prelude.{IfErr, IfOk}
use Rattle.std.proofs.Common.{◌≡◌, ◌≢◌, ◌<◌, ◌⊎◌, inl, inr, ℕ, zero, suc, List, [], ◌∷◌, length, Result, Ok, Err, refl, sym, ap, subst, ◌∙◌, arith, Vec, Global}
use mathlib.Core.List.{IsPrefix}
use Rattle.board.specs.declared.entry.Entry.{Entry}
use Rattle.board.specs.Showing.{Origin}
use Rattle.board.proofs.Fronts.{prefix_trans}
use Rattle.kept_log.specs.Kept.{Keeps}
use Rattle.relay_board.specs.Closing.{IsWhole}
use Rattle.relay_board.specs.Seating.{BeginsWithAll, Seating}
use Rattle.relay_board.specs.declared.finish.Account.{Account}
use Rattle.relay_board.specs.declared.fault.FinishFault.{FinishFault}
use Rattle.relay_board.specs.declared.fault.FinishFault.TheVariants as relay
use Rattle.board_keeper.specs.Ending.{IsEndFault}
use Rattle.board_keeper.specs.Keeping.{Keeping, bodies_in}
use Rattle.board_keeper.specs.Kept.{IsKeeper}
use Rattle.board_keeper.specs.Steps.{AreSteps, IsStep}
use Rattle.board_keeper.specs.declared.ending.EndFault.TheVariants as ends
use Rattle.board_keeper.proofs.Doing.{is_open, listed}
use Rattle.board_keeper.proofs.Files.{begins_itself, begins_with}
use Rattle.board_keeper.proofs.Turning.{tried_list}
use Rattle.relay_board.specs.Relaying.{Relaying}

-- where nothing is kept the file takes bodies, and has just what is published
pub ended_file : (k : Keeping) (bodies : List (Vec ℕ Global)) (list : List Entry) → IsKeeper k bodies → k.relay.kept ≡ [] → list ≡ k.relay.list → Keeps (bodies_in k.rule list) k.file
ended_file k bodies list i none same =
    let takes = is_open k.takes i.begun (λ f. absurd (omega (arith, i.failed f, i.ready, ap length none))) in
    let committed : k.committed ≡ 0 = omega (arith, i.within, i.ready, ap length none) in
    subst (λ (l : List Entry). Keeps (bodies_in k.rule l) k.file) (sym same) (listed k committed (i.in_file takes))

pub end_fault : (f : FinishFault) (k : Keeping) (seats : List Seating) → f ≢ relay.StoreFull → (f ≡ relay.Closed → ¬ (BeginsWithAll k.relay.list seats)) → IsEndFault (ends.Finish f) k seats
end_fault relay.Closed k seats not_full ahead = ahead refl
end_fault relay.StoreFull k seats not_full ahead = absurd (not_full refl)
end_fault relay.Memory k seats not_full ahead = tt

-- an account of what was published in the end is one of what was published before
pub whole_before : (o p : Origin) (before list all : List Entry) (seats : List Seating) (a : Account) → p ≡ o → IsPrefix before list → IsWhole p list all seats a → IsWhole o before all seats a
whole_before o p before list all seats a same grows w =
    let v : IsWhole o list all seats a = subst (λ (q : Origin). IsWhole q list all seats a) same w in record {
      of = v.of;
      below = v.below;
      states = v.states;
      goes_on = prefix_trans before list all grows v.goes_on;
      seen = v.seen;
      whole = v.whole;
      account = v.account;
      accepted = v.accepted;
    }

-- ---- what steps publish

same_list : (a b : List Entry) → b ≡ a → IsPrefix a b
same_list a b e = subst (IsPrefix a) (sym e) (begins_itself a)

step_grows : (a b : Keeping) → IsStep a b → IsPrefix a.relay.list b.relay.list
step_grows a b (inl (inl h)) = same_list a.relay.list b.relay.list (tried_list a.relay b.relay h.readiness h.readied)
step_grows a b (inl (inr h)) = subst (IsPrefix a.relay.list) (sym (ap (λ (r : Relaying). r.list) h.shown.3)) (begins_with a.relay.list (h.shown.0 ∷ []))
step_grows a b (inr (inl h)) = same_list a.relay.list b.relay.list (ap (λ (k : Keeping). k.relay.list) h.left)
step_grows a b (inr (inr h)) = same_list a.relay.list b.relay.list (ap (λ (k : Keeping). k.relay.list) h.left)

pub steps_grow : (n : ℕ) (a b : Keeping) → AreSteps n a b → IsPrefix a.relay.list b.relay.list
steps_grow zero a b steps = same_list a.relay.list b.relay.list (ap (λ (k : Keeping). k.relay.list) steps)
steps_grow (suc n) a b steps = prefix_trans a.relay.list steps.0.relay.list b.relay.list (steps_grow n a steps.0 steps.1) (step_grows steps.0 b steps.2)

-- ---- results

pub on_ok : {A E : Type 0} (r : Result A E) (P Q : A → Type 0) → ((a : A) → P a → Q a) → IfOk r P → IfOk r Q
on_ok (Ok a) P Q f p = f a p
on_ok (Err e) P Q f p = p

pub on_err : {A E : Type 0} (r : Result A E) (P Q : E → Type 0) → ((e : E) → P e → Q e) → IfErr r P → IfErr r Q
on_err (Ok a) P Q f p = p
on_err (Err e) P Q f p = f e p
