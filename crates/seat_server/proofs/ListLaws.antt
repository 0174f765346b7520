-- Seats and their sessions, one after another.
use Rattle.std.proofs.Common.{◌≡◌, ℕ, ◌+◌, ◌<◌, ◌++◌, suc, List, [], ◌∷◌, Option, ap, sym, ◌∙◌, refl, subst, length, append_assoc, arith}
use Rattle.std.proofs.lemmas.List.{append-nil}
use Rattle.std.specs.Prelude.{Result, Ok, Err, IfOk, map, drop}
use Rattle.std.specs.PromisedHandle.{KeepsAt, KeepsEach}
use Rattle.core.specs.declared.thread.PromisedHandle.{PromisedHandle}
use Rattle.core.specs.declared.thread.Promise as Promise
use Rattle.board.specs.declared.entry.Entry.{Entry}
use Rattle.board.specs.Entries.{edits_of}
use Rattle.board.specs.Origins.{list_of}
use Rattle.board.specs.Showing.{Origin}
use Rattle.edit_stamps.specs.Edit.{HaveStatesBelow}
use Rattle.edit_stamps.specs.PlaneMap.{HasStatesBelow}
use Rattle.stamped_tree.specs.Plane.{map_of}
use Rattle.relay_board.specs.Closing.{IsWhole}
use Rattle.relay_board.specs.Seating.{Numbered, Seating}
use Rattle.seat_server.specs.declared.fault.ServerFault.{ServerFault}
use Rattle.seat_server.specs.Serving.{FinishedValue, IsServed}
use Rattle.seat_server.specs.Sessions.{AreAttended, AreServed, IsSeated, SessionEnd, VisitValue, last_end}
use Rattle.seat_server.proofs.SeatLaws.{places_stay}

-- as many seats come back as were served
pub as_many : (before : List Seating) (all : List (List VisitValue)) (after : List Seating) → AreAttended before all after → length after ≡ length before
as_many [] [] [] met = refl
as_many (a ∷ before) (vs ∷ all) (b ∷ after) met = ap suc (as_many before all after met.1)
as_many [] [] (b ∷ after) met = absurd met
as_many [] (vs ∷ all) after met = absurd met
as_many (a ∷ before) [] after met = absurd met
as_many (a ∷ before) (vs ∷ all) [] met = absurd met

-- and they stand in the order of their numbers, if they did
pub in_order : (n : ℕ) (before : List Seating) (all : List (List VisitValue)) (after : List Seating) → AreAttended before all after → Numbered n before → Numbered n after
in_order n [] [] [] met order = tt
in_order n (a ∷ before) (vs ∷ all) (b ∷ after) met order = (places_stay vs a b met.0 ∙ order.0, in_order (n + 1) before all after met.1 order.1)
in_order n [] [] (b ∷ after) met order = absurd met
in_order n [] (vs ∷ all) after met order = absurd met
in_order n (a ∷ before) [] after met order = absurd met
in_order n (a ∷ before) (vs ∷ all) [] met order = absurd met

-- ---- threads that begin

-- one more thread, of the seat that was first among those left
pub begins : {A B : Type 0} (f : A → B) (begun begun' : List A) (x : A) (seat : B) (left left' all : List B)
    → begun' ≡ begun ++ x ∷ [] → f x ≡ seat → left ≡ seat ∷ left' → map f begun ++ left ≡ all → map f begun' ++ left' ≡ all
begins {A} {B} f begun begun' x seat left left' all more is first so_far =
    ap (λ (xs : List A). map f xs ++ left') more ∙ (go begun ∙ (ap (λ (b : B). map f begun ++ b ∷ left') is ∙ (ap (λ (l : List B). map f begun ++ l) (sym first) ∙ so_far)))
  where
    go : (xs : List A) → map f (xs ++ x ∷ []) ++ left' ≡ map f xs ++ f x ∷ left'
    go [] = refl
    go (y ∷ ys) = ap (λ (l : List B). f y ∷ l) (go ys)

drop_self : {A : Type 0} (xs : List A) → xs ≡ drop 1 xs → xs ≡ []
drop_self [] e = refl
drop_self (x ∷ xs) e = absurd (omega (arith, ap length e))

-- none is left
pub all_begun : {A B : Type 0} (f : A → B) (begun : List A) (left left' all : List B) → left ≡ left' → left' ≡ drop 1 left → map f begun ++ left ≡ all → map f begun ≡ all
all_begun {A} {B} f begun left left' all same rest so_far =
    let none : left ≡ [] = drop_self left (same ∙ rest) in
    sym (append-nil (map f begun)) ∙ (ap (λ (l : List B). map f begun ++ l) (sym none) ∙ so_far)

-- ---- lists that are taken apart

-- nothing was taken yet
pub parts_begin : {A B : Type 0} (f : A → B) (made : List B) (left all : List A) → made ≡ [] → left ≡ all → made ++ map f left ≡ map f all
parts_begin f made left all none same = ap (λ l. l ++ map f left) none ∙ ap (map f) same

-- one more was taken
pub parts_more : {A B : Type 0} (f : A → B) (made made' : List B) (x : A) (left left' : List A) (all : List B) → made' ≡ made ++ f x ∷ [] → left ≡ x ∷ left' → made ++ map f left ≡ all
    → made' ++ map f left' ≡ all
parts_more f made made' x left left' all more first so_far =
    ap (λ l. l ++ map f left') more ∙ (append_assoc made (f x ∷ []) (map f left') ∙ (ap (λ l. made ++ map f l) (sym first) ∙ so_far))

-- none is left
pub parts_end : {A B : Type 0} (f : A → B) (made : List B) (left left' : List A) (all : List B) → left ≡ left' → left' ≡ drop 1 left → made ++ map f left ≡ all → made ≡ all
parts_end {A} {B} f made left left' all same rest so_far =
    let none : left ≡ [] = drop_self left (same ∙ rest) in
    sym (append-nil made) ∙ (ap (λ l. made ++ map f l) (sym none) ∙ so_far)

-- ---- threads that are joined

-- none
none_served : AreServed [] [] []
none_served = record { visits = []; attended = tt; last = refl }

-- one more in front of the others
one_more_served : (a b : Seating) (end : Option SessionEnd) (before after : List Seating) (ends : List (Option SessionEnd)) → IsSeated a end b → AreServed before ends after → AreServed (a ∷ before) (end ∷ ends) (b ∷ after)
one_more_served a b end before after ends one others = record {
  visits = one.visits ∷ others.visits;
  attended = (one.are, others.attended);
  last = ap (λ (e : Option SessionEnd). e ∷ ends) one.last ∙ ap (λ (es : List (Option SessionEnd)). last_end one.visits ∷ es) others.last;
}

module _ {T P : Type 0} (g : Promise.Ghosts P T) (seat_in : P → Seating) (seat_of : T → Seating) (end_of : T → Option SessionEnd)
    (keeps : (p : P) (r : T) → g.kept_by p r → IsSeated (seat_in p) (end_of r) (seat_of r)) where
  -- what each gave is what it was promised to give
  all_ended : (hs : List (PromisedHandle T P)) (rs : List T) → length rs ≡ length hs → KeepsEach g (length hs) hs rs
      → AreServed (map (λ h. seat_in h.promise) hs) (map end_of rs) (map seat_of rs)
  all_ended [] [] same each = none_served
  all_ended [] (r ∷ rs) same each = absurd (omega (arith, same))
  all_ended (h ∷ hs) [] same each = absurd (omega (arith, same))
  all_ended (h ∷ hs) (r ∷ rs) same each =
      let first : KeepsAt g (h ∷ hs) 0 r = (each 0 r (omega arith)).1 in
      let is : first.handle ≡ h = first.handle_is in
      let kept : g.kept_by h.promise r = subst (λ (x : PromisedHandle T P). g.kept_by x.promise r) is first.kept in
      one_more_served (seat_in h.promise) (seat_of r) (end_of r) (map (λ h. seat_in h.promise) hs) (map seat_of rs) (map end_of rs) (keeps h.promise r kept)
      (all_ended hs rs (omega (arith, same)) (λ i d below.
      let next = each (suc i) d (omega (arith, below)) in
      (refl, record { handle = next.1.handle; handle_is = next.1.handle_is; kept = next.1.kept })))

  pub each_ended : (n : ℕ) (hs : List (PromisedHandle T P)) (rs : List T) → n ≡ length hs → length rs ≡ n → KeepsEach g n hs rs
      → AreServed (map (λ h. seat_in h.promise) hs) (map end_of rs) (map seat_of rs)
  each_ended n hs rs many same each = all_ended hs rs (same ∙ many) (subst (λ (m : ℕ). KeepsEach g m hs rs) many each)

-- ---- the account

pub served : (r : Result FinishedValue ServerFault) (board closed : Origin) (before : List Seating) (ends : List (Option SessionEnd)) (after : List Seating) (list : List Entry) → closed ≡ board → AreServed before ends after
    → IfOk r (λ f. f.ends ≡ ends) → IfOk r (λ f. IsWhole closed list (list_of f.account.front) after f.account) → IfOk r (IsServed board before)
served (Err fault) board closed before ends after list of are same whole = tt
served (Ok f) board closed before ends after list of are same whole = record {
  after = after;
  served = subst (λ (es : List (Option SessionEnd)). AreServed before es after) (sym same) are;
  whole = record {
    of = whole.of ∙ of;
    below = subst (λ (o : Origin). HaveStatesBelow o.states (edits_of (list_of f.account.front))) of whole.below;
    states = subst (λ (o : Origin). 0 < o.states → HasStatesBelow o.states (map_of f.account.plane)) of whole.states;
    goes_on = (list_of f.account.front, refl);
    seen = whole.seen;
    whole = whole.whole;
    account = whole.account;
    accepted = whole.accepted;
  };
}
