-- What a client knows of, and what is found.
use Rattle.std.proofs.Common.{◌≡◌, ℕ, Bool, true, false, List, [], ◌∷◌, ◌++◌, Result, Ok, Err, refl, sym, ap, subst, ◌∙◌, inr, append-nil}
use Rattle.std.specs.Prelude.{IsTrue, ◌↔◌, not, filter, cond, Option, Some}
use Rattle.std.specs.List.{list_any}
use Rattle.stamped_writes.specs.Write.{Writes, AreSame, IsBelow, at_most}
use Rattle.edit_stamps.specs.Edit.{PlaneEdit, is_edit, writes_of}
use Rattle.edit_journal.specs.Journal.{noted}
use Rattle.stamped_tree.specs.Plane.{StampedPlane, map_of}
use Rattle.replica_core.specs.Replica.{IsNew, ReplicaState}
use Rattle.board_client.specs.declared.polling.Polling.{Polling}
use Rattle.board_client.specs.declared.polling.Polling.TheVariants as polling
use Rattle.board_client.specs.Pushed.{PushedEdit}
use Rattle.edit_journal.proofs.NotedLaws.{contains_told, noted_members, told_contains}
use Rattle.client_protocol.specs.declared.greeting.Greeting.TheVariants as greeting
use Rattle.board_client.specs.Client.{LineState}
use Rattle.board_client.specs.declared.fault.ClientFault.{ClientFault}
use Rattle.board_client.specs.Greeting.{IsGreeting}
use Rattle.board_client.specs.Polling.{IsPoll}
use Rattle.square_store.specs.Limits.{usual_room}
use Rattle.client_session.specs.declared.fault.CommandFault.{CommandFault}
use Rattle.client_session.specs.declared.fault.CommandFault.TheVariants as faults
use Rattle.client_session.specs.declared.returning.Before.{Before}
use Rattle.client_session.specs.declared.returning.Return.{Return}
use Rattle.client_session.specs.declared.returning.Return.TheVariants as come
use Rattle.client_session.specs.declared.workspace.Workspace.{Workspace}
use Rattle.client_session.specs.Moment.{Moment}
use Rattle.client_session.specs.Returning.{GivesBack, HoldsOn, IsAnswered, IsFound, IsTold, PollsFirst, PollsInVain, Returns, SitsDown, TakesSeat, TellsReturn, news_in, seated}

either : (a b : Bool) → (a ≡ true → b ≡ true) → (b ≡ true → a ≡ true) → a ≡ b
either true b there back = sym (there refl)
either false true there back = back refl
either false false there back = refl

-- a journal that notes two lists has the edits of both
pub noted_both : (D J : List PlaneEdit) (e : PlaneEdit) → list_any (is_edit e) (noted D J) ≡ list_any (is_edit e) (D ++ J)
noted_both D J e = either (list_any (is_edit e) (noted D J)) (list_any (is_edit e) (D ++ J))
    (λ h. told_contains (D ++ J) e ((noted_members D J e).0 (contains_told (noted D J) e h)))
    (λ h. told_contains (noted D J) e ((noted_members D J e).1 (contains_told (D ++ J) e h)))

same_filter : (p q : PlaneEdit → Bool) → ((e : PlaneEdit) → p e ≡ q e) → (edits : List PlaneEdit) → filter p edits ≡ filter q edits
same_filter p q same [] = refl
same_filter p q same (e ∷ edits) = ap (λ b. cond b (e ∷ filter p edits) (filter p edits)) (same e) ∙ ap (λ (rest : List PlaneEdit). cond (q e) (e ∷ rest) rest) (same_filter p q same edits)

-- so the news beside such a journal are those beside both
pub news_noted : (D J edits : List PlaneEdit) → news_in (noted D J) edits ≡ news_in (D ++ J) edits
news_noted D J edits = same_filter (λ e. not (list_any (is_edit e) (noted D J))) (λ e. not (list_any (is_edit e) (D ++ J))) (λ e. ap not (noted_both D J e)) edits

-- a map that is another's is below what that is below
pub below_as : (b : Bool) (p q r : Writes) → AreSame p q → IsTrue b ↔ IsBelow p r → IsTrue b ↔ IsBelow q r
below_as b p q r same is = (
  λ h c. subst (λ w. IsTrue (at_most w (r c))) (same c) (is.0 h c),
  λ below. is.1 (λ c. subst (λ w. IsTrue (at_most w (r c))) (sym (same c)) (below c)),
)

-- an edit in doubt is found in a whole plane that it is below
pub found_whole : (heard : Polling) (r : ReplicaState) (doubt : Option PushedEdit) (pushed : PushedEdit) (b : Bool) (writes plane : StampedPlane) (e : PlaneEdit) → doubt ≡ Some pushed → heard ≡ polling.Whole
    → e ≡ pushed.edit → plane ≡ r.plane → AreSame (map_of writes) (writes_of e) → IsTrue b ↔ IsBelow (map_of writes) (map_of plane) → IsFound heard r doubt b
found_whole heard r doubt pushed b writes plane e is whole edit planes same below =
    rw is (rw whole
    (subst (λ (x : PlaneEdit). IsTrue b ↔ IsBelow (writes_of x) (map_of r.plane)) edit
    (subst (λ (q : StampedPlane). IsTrue b ↔ IsBelow (writes_of e) (map_of q)) planes (below_as b (map_of writes) (writes_of e) (map_of plane) same below))))

-- ---- a new seat

contradicts : false ≡ true → ⊥
contradicts is = cc

not_so : (b : Bool) (P : Type 0) → IsTrue b ↔ P → IsTrue (not b) ↔ (P → ⊥)
not_so true P is = (λ h p. contradicts h, λ never. absurd (never (is.0 refl)))
not_so false P is = (λ h p. contradicts (is.1 p), λ never. refl)

pub gives_back : (before : Before) (old r : ReplicaState) (b : Bool) (p q : StampedPlane) → before ≡ record { replica = old; is_lost = not b } → p ≡ old.plane → q ≡ r.plane
    → IsTrue b ↔ IsBelow (map_of p) (map_of q) → GivesBack before old r
gives_back before old r b p q is first second below = subst (λ (x : Before). GivesBack x old r) (sym is) (record {
  replica = refl;
  lost = not_so b (IsBelow (map_of old.plane) (map_of r.plane))
      (subst (λ (x : StampedPlane). IsTrue b ↔ IsBelow (map_of old.plane) (map_of x)) second (subst (λ (x : StampedPlane). IsTrue b ↔ IsBelow (map_of x) (map_of q)) first below));
})

-- what was told is held, and the seat taken
pub is_told : (heard : Polling) (line : LineState) (r : ReplicaState) (m n : Moment) (told : Workspace) (out : List ℕ) (before : Before) → TellsReturn heard r m.workspace told m.out out
    → n ≡ record { line = line; workspace = seated before.is_lost r told; out = out } → GivesBack before told.replica r → IsTold heard line r m n before
is_told heard line r m n told out before tells is gives = subst (λ (x : Moment). IsTold heard line r m x before) (sym is) (record {
  told = told;
  tells = tells;
  at = refl;
  seat = refl;
  gives = subst (λ (old : ReplicaState). GivesBack before old r) (ap (λ (s : Workspace). s.replica) tells.kept) gives;
})

-- nothing was done
pub holds_on : (m : Moment) → HoldsOn m m
holds_on m = record { line = refl; cut = record { printed = ([], append-nil m.out); kept = refl } }

pub vain : (number : ℕ) (a line : LineState) (m : Moment) (fresh r : ReplicaState) (result : Result Polling ClientFault) → IsNew m.workspace.replica.rule number usual_room fresh → IsPoll a line fresh r result
    → PollsInVain number a m result × HoldsOn m m
vain number a line m fresh r result new polled = (record { line = line; r = r; polls = record { fresh = fresh; is_new = new; polled = polled } }, holds_on m)

pub sits_down : (number : ℕ) (a : LineState) (m n : Moment) (heard : Polling) (line : LineState) (r : ReplicaState) (result : Result Return CommandFault)
    → PollsFirst m.workspace.replica.rule number a line r (Ok heard) → IsAnswered heard → TakesSeat heard line r m n result → SitsDown number a m n result
sits_down number a m n heard line r (Ok (come.Joined before)) polls answered takes = record { heard = heard; is_answer = answered; line = line; r = r; polls = polls; told = takes }
sits_down number a m n heard line r (Ok come.OtherRule) polls answered takes = absurd takes
sits_down number a m n heard line r (Err (faults.Client fault)) polls answered takes = absurd takes.0
sits_down number a m n heard line r (Err (faults.Refused refusal)) polls answered takes = absurd takes.0
sits_down number a m n heard line r (Err faults.Memory) polls answered takes = (tt, takes.1)
sits_down number a m n heard line r (Err faults.StoreFull) polls answered takes = (record { heard = heard; line = line; r = r; polls = polls; full = takes.0 }, takes.1)

pub comes_back : (a greeted : LineState) (m n : Moment) (number : ℕ) (result : Result Return CommandFault) → IsGreeting a greeted (Ok (greeting.Seat number m.workspace.replica.rule))
    → SitsDown number greeted m n result → Returns a m n result
comes_back a greeted m n number (Ok (come.Joined before)) greets sits = record { number = number; greeted = greeted; greets = greets; seated = sits }
comes_back a greeted m n number (Ok come.OtherRule) greets sits = absurd sits
comes_back a greeted m n number (Err fault) greets sits = (inr (record { number = number; greeted = greeted; greets = greets; lacks = sits.0 }), sits.1)
