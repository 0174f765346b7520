use Rattle.std.proofs.Common.{◌≡◌, ◌<◌, List, refl, sym, ◌∙◌, subst, Option, None, Some}
use Rattle.board.specs.declared.entry.Entry.{Entry}
use Rattle.board.specs.Entries.{edits_of}
use Rattle.board.specs.Origins.{list_of}
use Rattle.board.specs.Showing.{Origin}
use mathlib.Core.List.{IsPrefix}
use Rattle.edit_stamps.specs.Edit.{HaveStatesBelow}
use Rattle.edit_stamps.specs.PlaneMap.{HasStatesBelow}
use Rattle.stamped_tree.specs.Plane.{map_of}
use Rattle.inbox.specs.Settled.{HasAsMany}
use Rattle.relay_board.specs.Relaying.{Relaying}
use Rattle.relay_board.specs.Turns.{Takes}
use Rattle.relay_board.specs.declared.fault.TurnFault.{TurnFault}
use Rattle.relay_board.specs.Closing.{AreCountable, IsLeft, IsWhole}
use Rattle.relay_board.specs.Same.{Same}
use Rattle.relay_board.specs.declared.finish.Account.{Account}
use Rattle.board.proofs.Fronts.{prefix_trans}
use Rattle.relay_board.specs.Seating.{Seating, mines_of, BeginsWithAll}
use Rattle.relay_board.proofs.Finishing.{closing_left, told_ok, told_err, full_only, takes_full, turn_left}
use Rattle.relay_board.proofs.relay.Relay.finish.Goals as goal

pub returns-in-Some-clause-err : goal.returns-in-Some-clause-err
returns-in-Some-clause-err g c =
    let a : Relaying = c.args.self in
    let b : Relaying = c.drained.new.relay in
    let takes : Takes a (Some c.in-Some.fault) b = subst (λ (f : Option TurnFault). Takes a f b) c.in-Some.is c.drained.ensures.takes in (
      refl,
      c.drained.ensures.same,
      c.drained.ensures.grows,
      (λ h. takes_full a b c.in-Some.fault takes (full_only c.in-Some.fault (sym c.finish_fault.ensures.value ∙ h))),
      (λ h. absurd (c.finish_fault.ensures.not_closed h)),
    )

pub returns-in-Some-clause-left : goal.returns-in-Some-clause-left
returns-in-Some-clause-left g c =
    let a : Relaying = c.args.self in
    let b : Relaying = c.drained.new.relay in
    let takes : Takes a (Some c.in-Some.fault) b = subst (λ (f : Option TurnFault). Takes a f b) c.in-Some.is c.drained.ensures.takes in
    subst (λ f. IsLeft f a c.args.seats.items b) (sym c.finish_fault.ensures.value) (turn_left c.in-Some.fault a c.args.seats.items b takes)

pub end-requires-clause-many : goal.end-requires-clause-many
end-requires-clause-many g c =
    let b : Relaying = c.drained.new.relay in
    let done = rw c.in_default.is at c.drained.ensures.done in
    subst (λ (ss : List Seating). HasAsMany b.list (mines_of ss)) c.as_slice.ensures.value done.0

pub end-requires-clause-countable : goal.end-requires-clause-countable
end-requires-clause-countable g c =
    let done = rw c.in_default.is at c.drained.ensures.done in
    subst (λ (ss : List Seating). AreCountable (mines_of ss)) c.as_slice.ensures.value done.1

-- an account of what was published in the end is one of what was published before
whole_before : (o p : Origin) (before list all : List Entry) (seats : List Seating) (a : Account) → p ≡ o → IsPrefix before list → IsWhole p list all seats a → IsWhole o before all seats a
whole_before o p before list all seats a same grows w = record {
  of = w.of ∙ same;
  below = subst (λ (q : Origin). HaveStatesBelow q.states (edits_of all)) same w.below;
  states = subst (λ (q : Origin). 0 < q.states → HasStatesBelow q.states (map_of a.plane)) same w.states;
  goes_on = prefix_trans before list all grows w.goes_on;
  seen = w.seen;
  whole = w.whole;
  account = w.account;
  accepted = w.accepted;
}

pub returns-clause-whole : goal.returns-clause-whole
returns-clause-whole g c =
    let b : Relaying = c.drained.new.relay in
    told_ok c.end.result _ _ (λ (a : Account) w. whole_before c.args.self.origin b.origin c.args.self.list b.list (list_of a.front) c.args.seats.items a c.drained.ensures.same.origin c.drained.ensures.grows w)
    c.end.ensures.whole

pub returns-clause-err : goal.returns-clause-err
returns-clause-err g c =
    let a : Relaying = c.args.self in
    let b : Relaying = c.drained.new.relay in
    told_err c.end.result _ _ _ _
    (λ e same fault unseen. (
      same.1,
      subst (λ (r : Relaying). Same a r) (sym same.0) c.drained.ensures.same,
      subst (λ (r : Relaying). IsPrefix a.list r.list) (sym same.0) c.drained.ensures.grows,
      (λ h. absurd (fault h)),
      (λ h begun. unseen h (subst (λ (ss : List Seating). BeginsWithAll b.list ss) same.1 (subst (λ (r : Relaying). BeginsWithAll r.list e.1.items) same.0 begun))),
    ))
    c.end.ensures.same c.end.ensures.fault c.end.ensures.unseen

pub returns-clause-left : goal.returns-clause-left
returns-clause-left g c =
    let a : Relaying = c.args.self in
    let b : Relaying = c.drained.new.relay in
    let done = rw c.in_default.is at c.drained.ensures.done in
    let takes : Takes a None b = subst (λ (f : Option TurnFault). Takes a f b) c.in_default.is c.drained.ensures.takes in
    let all : HasAsMany b.list (mines_of c.args.seats.items) = subst (λ (ss : List Seating). HasAsMany b.list (mines_of ss)) c.as_slice.ensures.value done.0 in
    told_err c.end.result _ _ _ _
    (λ e same fault unseen. subst (λ (r : Relaying). IsLeft e.2 a e.1.items r) (sym same.0)
    (subst (λ (ss : List Seating). IsLeft e.2 a ss b) (sym same.1) (closing_left e.2 a c.args.seats.items b (takes, done.2, all) fault unseen)))
    c.end.ensures.same c.end.ensures.fault c.end.ensures.unseen
