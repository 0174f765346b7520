-- What histories obey: every edit in one is an edit, has the only one of its stamp, and its replica has taken it.
use Rattle.std.proofs.Common.{◌≡◌, ◌≢◌, ◌⊎◌, ℕ, zero, suc, ◌+◌, ◌-◌, ◌^◌, ◌<◌, ◌≤◌, Bool, true, false, List, [], ◌∷◌, ◌++◌, length, max, refl, sym, ◌∙◌, ap, subst, arith, inl, inr, length-set, append_assoc}
use Rattle.std.specs.Prelude.{Contains, Option, Some, None, slice_get, slice_set, Result, Ok, Err, fold, nat_lt, not, slice_index_or, drop}
use Rattle.std.specs.Option.{ok_or}
use Rattle.std.proofs.Math.ListN.{replicate}
use Rattle.std.proofs.lemmas.Bool.{cases_eq}
use Rattle.std.proofs.lemmas.List.{append-nil, length-replicate}
use Rattle.std.proofs.lemmas.List.Elements.{Contains-append_left, Contains-append_right, Contains-append_cases}
use Rattle.std.proofs.lemmas.Option.{slice_get_within}
use Rattle.generations_rule.specs.Refusal.{◌>>=◌, when, unless}
use Rattle.generations_rule.specs.Rule.{GenerationsRule}
use Rattle.edit_stamps.specs.Edit.{PlaneEdit, greatest_counter}
use Rattle.edit_stamps.specs.Stamp.{counter_in, last_counter, replica_in, stamp_of}
use Rattle.replica_events.specs.declared.event.Event.{Event}
use Rattle.replica_events.specs.declared.event.Event.TheVariants.{Draw, SendDelta, SendState, Deliver, Show, Same, Dump, Export, Cut, Count}
use Rattle.replica_core.specs.declared.fault.Fault.{Fault}
use Rattle.replica_core.specs.declared.fault.Fault.TheVariants as faults
use Rattle.replica_events.specs.declared.edit_spec.EditSpec.{EditSpec}
use Rattle.replica_core.specs.Replica.{edit_drawn, made, or_edit_fault}
use Rattle.replica_core.specs.World.{IsEditUnder, History, ReplicaHistory, Sent, Delta, State, named_entries, AreEdits, IsIn, after, after_all, after_drawing, after_message, beginner, changed, delivered, drawn, edits_sent, message, opening, replica, with_message, with_replica}
use Rattle.edit_journal.proofs.NotedLaws.{noted_members}
use Rattle.replica_core.specs.Exchange.{entries}
use Rattle.replica_core.proofs.DrawLaws.{made_stamp}
use Rattle.replica_core.proofs.ExchangeLaws.{among_dropped, among_taken, entries_are}
use Rattle.replica_core.proofs.SideBySide.{get_pushed, get_replicate, get_set_elsewhere, get_set_here, some_is}

-- ---- what stands at a number

pub some_of_ok : {A : Type 0} (o : Option A) (fault : Fault) (x : A) → ok_or o fault ≡ Ok x → o ≡ Some x
some_of_ok None fault x h = absurd (cc)
some_of_ok (Some y) fault x h = cc

pub same_ok : {A : Type 0} (o : Result A Fault) (x y : A) → o ≡ Ok x → o ≡ Ok y → x ≡ y
same_ok (Ok z) x y is also = cc
same_ok (Err fault) x y is also = absurd (cc)

-- a replica of a history that was changed at one number
replica_changed : (w : History) (r s : ℕ) (h new k : ReplicaHistory) → replica w r ≡ Ok h → replica (with_replica w r new) s ≡ Ok k
    → ((s ≡ r) × (k ≡ new)) ⊎ (replica w s ≡ Ok k)
replica_changed w zero s h new k is found = absurd (cc)
replica_changed w (suc i) zero h new k is found = absurd (cc)
replica_changed w (suc i) (suc j) h new k is found =
    let there : slice_get w.replicas i ≡ Some h = some_of_ok (slice_get w.replicas i) faults.NoReplica h is in
    let back : suc i - 1 ≡ i = omega arith in
    let here : slice_get (slice_set w.replicas i new) j ≡ Some k =
    ap (λ m. slice_get (slice_set w.replicas m new) j) (sym back) ∙ some_of_ok (slice_get (slice_set w.replicas (suc i - 1) new) j) faults.NoReplica k found in
    elim (cases_eq i j) [
      | inl same ↦ inl (ap suc (sym same), sym (some_is (sym (get_set_here w.replicas i new (slice_get_within w.replicas i h there)) ∙ ap (slice_get (slice_set w.replicas i new)) same ∙ here)))
      | inr apart ↦ inr (ap (λ o. ok_or o faults.NoReplica) (sym (get_set_elsewhere w.replicas i j new apart) ∙ here))
    ]

-- the replica that was changed, and the others
here_changed : (w : History) (r : ℕ) (h new : ReplicaHistory) → replica w r ≡ Ok h → replica (with_replica w r new) r ≡ Ok new
here_changed w zero h new is = absurd (cc)
here_changed w (suc i) h new is =
    let there : slice_get w.replicas i ≡ Some h = some_of_ok (slice_get w.replicas i) faults.NoReplica h is in
    let back : suc i - 1 ≡ i = omega arith in
    ap (λ o. ok_or o faults.NoReplica) (ap (λ m. slice_get (slice_set w.replicas m new) i) back ∙ get_set_here w.replicas i new (slice_get_within w.replicas i h there))

elsewhere_same : (w : History) (r s : ℕ) (new : ReplicaHistory) → 1 ≤ r → s ≢ r → replica (with_replica w r new) s ≡ replica w s
elsewhere_same w zero s new one apart = absurd (omega (arith, one))
elsewhere_same w (suc i) zero new one apart = refl
elsewhere_same w (suc i) (suc j) new one apart =
    let back : suc i - 1 ≡ i = omega arith in
    ap (λ o. ok_or o faults.NoReplica) (ap (λ m. slice_get (slice_set w.replicas m new) j) back ∙ get_set_elsewhere w.replicas i j new (λ e. apart (ap suc (sym e))))

pub at_least_one : (w : History) (r : ℕ) (h : ReplicaHistory) → replica w r ≡ Ok h → 1 ≤ r
at_least_one w zero h is = absurd (cc)
at_least_one w (suc i) h is = omega arith

within : (w : History) (r : ℕ) (h : ReplicaHistory) → replica w r ≡ Ok h → r ≤ length w.replicas
within w zero h is = absurd (cc)
within w (suc i) h is = omega (arith, slice_get_within w.replicas i h (some_of_ok (slice_get w.replicas i) faults.NoReplica h is))

-- a message of a history with one more
message_added : (w : History) (s sent : Sent) (m : ℕ) → message (with_message w s) m ≡ Ok sent → (message w m ≡ Ok sent) ⊎ (sent ≡ s)
message_added w s sent zero found = absurd (cc)
message_added w s sent (suc j) found = elim (get_pushed w.messages s j sent (some_of_ok (slice_get (w.messages ++ s ∷ []) j) faults.NoMessage sent found)) [
  | inl old ↦ inl (ap (λ o. ok_or o faults.NoMessage) old)
  | inr new ↦ inr new.1
]

-- ---- where the edits of a history come from

-- the edit that is drawn at an event
pub record IsDrawnAt (w : History) (event : Event) (e : PlaneEdit) : Type 0 where
  pub number : ℕ
  pub spec : EditSpec
  pub held : ReplicaHistory
  pub event_is : event ≡ Draw number spec
  pub replica_is : replica w number ≡ Ok held
  pub edit_is : edit_drawn w.rule (greatest_counter held.taken) number spec ≡ Ok e

in_replica : (w : History) (r : ℕ) (h : ReplicaHistory) (e : PlaneEdit) → replica w r ≡ Ok h → Contains h.taken e → IsIn w e
in_replica w r h e is here = inl (r, h, is, here)

in_journal : (w : History) (r : ℕ) (h : ReplicaHistory) (e : PlaneEdit) → replica w r ≡ Ok h → Contains h.journal e → IsIn w e
in_journal w r h e is here = inr (inl (r, h, is, here))

none_in : (e : PlaneEdit) → Contains [] e → ⊥
none_in e (k, below, is) = absurd (omega (arith, below))

pub only_one : (x y : PlaneEdit) → Contains (x ∷ []) y → y ≡ x
only_one x y (zero, below, is) = sym is
only_one x y (suc k, below, is) = absurd (omega (arith, below))

-- the edits of a replica's lists after a change
from_changed : (w : History) (r : ℕ) (h new : ReplicaHistory) (e : PlaneEdit) (D : Type 0) → replica w r ≡ Ok h
    → (Contains new.taken e → IsIn w e ⊎ D) → (Contains new.journal e → IsIn w e ⊎ D)
    → IsIn (with_replica w r new) e → IsIn w e ⊎ D
from_changed w r h new e D is taken noted (inl (s, k, found, here)) = elim (replica_changed w r s h new k is found) [
  | inl changed_there ↦ taken (subst (λ x. Contains x.taken e) changed_there.1 here)
  | inr same ↦ inl (in_replica w s k e same here)
]
from_changed w r h new e D is taken noted (inr (inl (s, k, found, here))) = elim (replica_changed w r s h new k is found) [
  | inl changed_there ↦ noted (subst (λ x. Contains x.journal e) changed_there.1 here)
  | inr same ↦ inl (in_journal w s k e same here)
]
from_changed w r h new e D is taken noted (inr (inr sent)) = inl (inr (inr sent))

from_draw : (w : History) (r : ℕ) (spec : EditSpec) (e : PlaneEdit) (o : Result ReplicaHistory Fault) → replica w r ≡ o
    → (d : Result PlaneEdit Fault) (h : ReplicaHistory) → o ≡ Ok h → edit_drawn w.rule (greatest_counter h.taken) r spec ≡ d
    → IsIn (changed {A = PlaneEdit × ReplicaHistory} w (d >>= (λ x. Ok (x, after_drawing h x))) (λ p. with_replica w r p.1)) e → IsIn w e ⊎ IsDrawnAt w (Draw r spec) e
from_draw w r spec e o is (Err fault) h o_is d_is inside = inl inside
from_draw w r spec e o is (Ok x) h o_is d_is inside =
    let new : PlaneEdit → IsDrawnAt w (Draw r spec) x = λ _. record { number = r; spec = spec; held = h; event_is = refl; replica_is = is ∙ o_is; edit_is = d_is } in
    let made_now : e ≡ x → IsIn w e ⊎ IsDrawnAt w (Draw r spec) e = λ same. inr (subst (IsDrawnAt w (Draw r spec)) (sym same) (new x)) in
    from_changed w r h (after_drawing h x) e (IsDrawnAt w (Draw r spec) e) (is ∙ o_is)
    (λ here. elim (Contains-append_cases h.taken (x ∷ []) e here) [ inl old ↦ inl (in_replica w r h e (is ∙ o_is) old) | inr last ↦ made_now (only_one x e last) ])
    (λ here. elim (Contains-append_cases h.journal (x ∷ []) e here) [ inl old ↦ inl (in_journal w r h e (is ∙ o_is) old) | inr last ↦ made_now (only_one x e last) ])
    inside

from_drawing : (w : History) (r : ℕ) (spec : EditSpec) (e : PlaneEdit) (o : Result ReplicaHistory Fault) → replica w r ≡ o
    → IsIn (changed {A = PlaneEdit × ReplicaHistory} w (o >>= (λ h. edit_drawn w.rule (greatest_counter h.taken) r spec >>= (λ x. Ok (x, after_drawing h x)))) (λ p. with_replica w r p.1)) e
    → IsIn w e ⊎ IsDrawnAt w (Draw r spec) e
from_drawing w r spec e (Err fault) is inside = inl inside
from_drawing w r spec e (Ok h) is inside = from_draw w r spec e (Ok h) is (edit_drawn w.rule (greatest_counter h.taken) r spec) h refl refl inside

from_sending : (w : History) (r : ℕ) (e : PlaneEdit) (o : Result ReplicaHistory Fault) → replica w r ≡ o
    → IsIn (changed w o (λ h. with_message w (State h.taken))) e → IsIn w e
from_sending w r e (Err fault) is inside = inside
from_sending w r e (Ok h) is (inl taken) = inl taken
from_sending w r e (Ok h) is (inr (inl noted)) = inr (inl noted)
from_sending w r e (Ok h) is (inr (inr (m, sent, found, here))) = elim (message_added w (State h.taken) sent m found) [
  | inl old ↦ inr (inr (m, sent, old, here))
  | inr new ↦ in_replica w r h e is (subst (λ s. Contains (edits_sent s) e) new here)
]

-- entries of a journal are edits of it
in_entries : (journal : List PlaneEdit) (from count : ℕ) (edits : List PlaneEdit) (e : PlaneEdit) → entries journal from count ≡ Ok edits → Contains edits e → Contains journal e
in_entries journal from count edits e is here =
    among_dropped from journal e (among_taken count (drop from journal) e (subst (λ l. Contains l e) (sym (entries_are journal from count edits is)) here))

from_sending_delta : (w : History) (r from count : ℕ) (e : PlaneEdit) (o : Result ReplicaHistory Fault) → replica w r ≡ o
    → (d : Result (List PlaneEdit) Fault) (h : ReplicaHistory) → o ≡ Ok h → entries h.journal from count ≡ d
    → IsIn (changed {A = List PlaneEdit} w d (λ edits. with_message w (Delta edits))) e → IsIn w e
from_sending_delta w r from count e o is (Err fault) h o_is d_is inside = inside
from_sending_delta w r from count e o is (Ok edits) h o_is d_is (inl taken) = inl taken
from_sending_delta w r from count e o is (Ok edits) h o_is d_is (inr (inl noted_there)) = inr (inl noted_there)
from_sending_delta w r from count e o is (Ok edits) h o_is d_is (inr (inr (m, sent, found, here))) = elim (message_added w (Delta edits) sent m found) [
  | inl old ↦ inr (inr (m, sent, old, here))
  | inr new ↦ in_journal w r h e (is ∙ o_is) (in_entries h.journal from count edits e d_is (subst (λ s. Contains (edits_sent s) e) new here))
]

from_sending_entries : (w : History) (r from count : ℕ) (e : PlaneEdit) (o : Result ReplicaHistory Fault) → replica w r ≡ o
    → IsIn (changed {A = List PlaneEdit} w (o >>= (λ h. entries h.journal from count)) (λ edits. with_message w (Delta edits))) e → IsIn w e
from_sending_entries w r from count e (Err fault) is inside = inside
from_sending_entries w r from count e (Ok h) is inside = from_sending_delta w r from count e (Ok h) is (entries h.journal from count) h refl refl inside

from_delivery : (w : History) (m r : ℕ) (e : PlaneEdit) (o : Result Sent Fault) (p : Result ReplicaHistory Fault) → message w m ≡ o → replica w r ≡ p
    → IsIn (changed w (o >>= (λ s. p >>= (λ h. Ok (after_message h s)))) (λ h. with_replica w r h)) e → IsIn w e
from_delivery w m r e (Err fault) p sent_is is inside = inside
from_delivery w m r e (Ok s) (Err fault) sent_is is inside = inside
from_delivery w m r e (Ok (Delta edits)) (Ok h) sent_is is inside = elim (from_changed w r h (after_message h (Delta edits)) e ⊥ is
    (λ here. elim (Contains-append_cases h.taken edits e here) [ inl old ↦ inl (in_replica w r h e is old) | inr more ↦ inl (inr (inr (m, Delta edits, sent_is, more))) ])
    (λ here. elim (Contains-append_cases h.journal edits e ((noted_members h.journal edits e).0 here)) [ inl old ↦ inl (in_journal w r h e is old) | inr more ↦ inl (inr (inr (m, Delta edits, sent_is, more))) ])
    inside) [
      | inl there ↦ there
      | inr never ↦ absurd never
    ]
from_delivery w m r e (Ok (State edits)) (Ok h) sent_is is inside = elim (from_changed w r h (after_message h (State edits)) e ⊥ is
    (λ here. elim (Contains-append_cases h.taken edits e here) [ inl old ↦ inl (in_replica w r h e is old) | inr more ↦ inl (inr (inr (m, State edits, sent_is, more))) ])
    (λ here. inl (in_journal w r h e is here)) inside) [
      | inl there ↦ there
      | inr never ↦ absurd never
    ]

-- an edit of a history after an event was in it, or is drawn at the event
pub comes_from : (w : History) (event : Event) (e : PlaneEdit) → IsIn (after w event) e → IsIn w e ⊎ IsDrawnAt w event e
comes_from w (Draw r spec) e inside = from_drawing w r spec e (replica w r) refl inside
comes_from w (SendDelta r from count) e inside = inl (from_sending_entries w r from count e (replica w r) refl inside)
comes_from w (SendState r) e inside = inl (from_sending w r e (replica w r) refl inside)
comes_from w (Deliver m r) e inside = inl (from_delivery w m r e (message w m) (replica w r) refl refl inside)
comes_from w (Show r x y) e inside = inl inside
comes_from w (Same a b) e inside = inl inside
comes_from w (Dump m) e inside = inl inside
comes_from w (Export r g) e inside = inl inside
comes_from w (Cut r window g) e inside = inl inside
comes_from w (Count r g) e inside = inl inside

-- ---- a drawn edit

-- the stamp of a drawn edit is the next one
next_stamp : (g : GenerationsRule) (counter r : ℕ) (spec : EditSpec) (e : PlaneEdit) (b : Bool)
    → (unless (when (not b) faults.ClockFull) (stamp_of (counter + 1) r) >>= (λ stamp. or_edit_fault (made g stamp spec))) ≡ Ok e → e.stamp ≡ stamp_of (counter + 1) r
next_stamp g counter r spec e false is = absurd (cc)
next_stamp g counter r spec e true is = made_stamp g (stamp_of (counter + 1) r) spec e is

-- ---- what every history obeys

pub record IsOwned (w : History) (e : PlaneEdit) : Type 0 where
  pub owner : ReplicaHistory
  pub there : replica w (replica_in e.stamp) ≡ Ok owner
  pub taken : Contains owner.taken e

pub record IsSound (w : History) : Type 0 where
  pub few : length w.replicas < 2 ^ 16
  pub owned : (e : PlaneEdit) → IsIn w e → IsOwned w e
  pub one : (e f : PlaneEdit) → IsIn w e → IsIn w f → e.stamp ≡ f.stamp → e ≡ f

drawn_next : (w : History) (event : Event) (e : PlaneEdit) (d : IsDrawnAt w event e) → e.stamp ≡ stamp_of (greatest_counter d.held.taken + 1) d.number
drawn_next w event e d =
    next_stamp w.rule (greatest_counter d.held.taken) d.number d.spec e (nat_lt (greatest_counter d.held.taken) last_counter) d.edit_is

owner_of : (counter r : ℕ) → r < 2 ^ 16 → replica_in (stamp_of (counter + 1) r) ≡ r
owner_of counter r few = omega (arith, few)

-- ---- counters

counters_from : (edits : List PlaneEdit) (n : ℕ) → n ≤ fold (λ m e. max m (counter_in e.stamp)) n edits
counters_from [] n = omega arith
counters_from (e ∷ edits) n = omega (arith, counters_from edits (max n (counter_in e.stamp)))

counter_at : (edits : List PlaneEdit) (n k : ℕ) (d : PlaneEdit) → k < length edits → counter_in (slice_index_or edits k d).stamp ≤ fold (λ m e. max m (counter_in e.stamp)) n edits
counter_at [] n k d below = absurd (omega (arith, below))
counter_at (e ∷ edits) n zero d below = omega (arith, counters_from edits (max n (counter_in e.stamp)))
counter_at (e ∷ edits) n (suc k) d below = counter_at edits (max n (counter_in e.stamp)) k d (omega (arith, below))

counter_below : (edits : List PlaneEdit) (e : PlaneEdit) → Contains edits e → counter_in e.stamp ≤ greatest_counter edits
counter_below edits e here = subst (λ x. counter_in x.stamp ≤ greatest_counter edits) here.2 (counter_at edits 0 here.0 e here.1)

-- a drawn edit has a stamp that no edit of the history has
is_new : (w : History) (event : Event) (e f : PlaneEdit) → IsSound w → IsDrawnAt w event e → IsIn w f → e.stamp ≢ f.stamp
is_new w event e f sound d inside same =
    let next = drawn_next w event e d in
    let own = sound.owned f inside in
    let few : d.number < 2 ^ 16 = omega (arith, within w d.number d.held d.replica_is, sound.few) in
    let owner : replica_in f.stamp ≡ d.number = ap replica_in (sym same ∙ next) ∙ owner_of (greatest_counter d.held.taken) d.number few in
    let held : own.owner ≡ d.held = same_ok (replica w d.number) own.owner d.held (ap (replica w) (sym owner) ∙ own.there) d.replica_is in
    let below : counter_in f.stamp ≤ greatest_counter d.held.taken = counter_below d.held.taken f (subst (λ h. Contains h.taken f) held own.taken) in
    absurd (omega (arith, below, same, next))

-- ---- an event keeps all that

-- what an event does to a replica's list: it grows
pub record IsGrown (v : History) (r : ℕ) (h : ReplicaHistory) : Type 0 where
  pub now : ReplicaHistory
  pub there : replica v r ≡ Ok now
  pub more : List PlaneEdit
  pub grown : now.taken ≡ h.taken ++ more

kept_as_it_was : (v : History) (r : ℕ) (h : ReplicaHistory) → replica v r ≡ Ok h → IsGrown v r h
kept_as_it_was v r h is = record { now = h; there = is; more = []; grown = sym (append-nil h.taken) }

grown_by : (w : History) (r s : ℕ) (h k : ReplicaHistory) (new : ReplicaHistory) (more : List PlaneEdit) → replica w r ≡ Ok h → new.taken ≡ h.taken ++ more
    → replica w s ≡ Ok k → IsGrown (with_replica w r new) s k
grown_by w r s h k new more is grown there = elim (cases_eq s r) [
  | inl same ↦
      let one : k ≡ h = same_ok (replica w r) k h (ap (replica w) (sym same) ∙ there) is in
      record {
        now = new;
        there = ap (replica (with_replica w r new)) same ∙ here_changed w r h new is;
        more = more;
        grown = grown ∙ ap (λ x. x.taken ++ more) (sym one);
      }
  | inr apart ↦ kept_as_it_was (with_replica w r new) s k (elsewhere_same w r s new (at_least_one w r h is) apart ∙ there)
]

grows_by_draw : (w : History) (r s : ℕ) (k h : ReplicaHistory) (d : Result PlaneEdit Fault) → replica w r ≡ Ok h → replica w s ≡ Ok k
    → IsGrown (changed {A = PlaneEdit × ReplicaHistory} w (d >>= (λ x. Ok (x, after_drawing h x))) (λ p. with_replica w r p.1)) s k
grows_by_draw w r s k h (Err fault) is there = kept_as_it_was w s k there
grows_by_draw w r s k h (Ok x) is there = grown_by w r s h k (after_drawing h x) (x ∷ []) is refl there

grows_by_drawing : (w : History) (r s : ℕ) (spec : EditSpec) (k : ReplicaHistory) (o : Result ReplicaHistory Fault) → replica w r ≡ o → replica w s ≡ Ok k
    → IsGrown (changed {A = PlaneEdit × ReplicaHistory} w (o >>= (λ h. edit_drawn w.rule (greatest_counter h.taken) r spec >>= (λ x. Ok (x, after_drawing h x)))) (λ p. with_replica w r p.1)) s k
grows_by_drawing w r s spec k (Err fault) is there = kept_as_it_was w s k there
grows_by_drawing w r s spec k (Ok h) is there = grows_by_draw w r s k h (edit_drawn w.rule (greatest_counter h.taken) r spec) is there

grows_by_sending : (w : History) (s : ℕ) (k : ReplicaHistory) (o : Result ReplicaHistory Fault) → replica w s ≡ Ok k
    → IsGrown (changed w o (λ h. with_message w (State h.taken))) s k
grows_by_sending w s k (Err fault) there = kept_as_it_was w s k there
grows_by_sending w s k (Ok h) there = kept_as_it_was (with_message w (State h.taken)) s k there

grows_by_sending_entries : (w : History) (s : ℕ) (k : ReplicaHistory) (o : Result (List PlaneEdit) Fault) → replica w s ≡ Ok k
    → IsGrown (changed w o (λ edits. with_message w (Delta edits))) s k
grows_by_sending_entries w s k (Err fault) there = kept_as_it_was w s k there
grows_by_sending_entries w s k (Ok edits) there = kept_as_it_was (with_message w (Delta edits)) s k there

grows_by_delivery : (w : History) (r s : ℕ) (k : ReplicaHistory) (o : Result Sent Fault) (p : Result ReplicaHistory Fault) → replica w r ≡ p → replica w s ≡ Ok k
    → IsGrown (changed w (o >>= (λ sent. p >>= (λ h. Ok (after_message h sent)))) (λ h. with_replica w r h)) s k
grows_by_delivery w r s k (Err fault) p is there = kept_as_it_was w s k there
grows_by_delivery w r s k (Ok sent) (Err fault) is there = kept_as_it_was w s k there
grows_by_delivery w r s k (Ok (Delta edits)) (Ok h) is there = grown_by w r s h k (after_message h (Delta edits)) edits is refl there
grows_by_delivery w r s k (Ok (State edits)) (Ok h) is there = grown_by w r s h k (after_message h (State edits)) edits is refl there

-- a replica is there behind an event, and has taken what it had, and perhaps more
pub grows : (w : History) (event : Event) (s : ℕ) (k : ReplicaHistory) → replica w s ≡ Ok k → IsGrown (after w event) s k
grows w (Draw r spec) s k there = grows_by_drawing w r s spec k (replica w r) refl there
grows w (SendDelta r from count) s k there = grows_by_sending_entries w s k (named_entries w r from count) there
grows w (SendState r) s k there = grows_by_sending w s k (replica w r) there
grows w (Deliver m r) s k there = grows_by_delivery w r s k (message w m) (replica w r) refl there
grows w (Show r x y) s k there = kept_as_it_was w s k there
grows w (Same a b) s k there = kept_as_it_was w s k there
grows w (Dump m) s k there = kept_as_it_was w s k there
grows w (Export r g) s k there = kept_as_it_was w s k there
grows w (Cut r window g) s k there = kept_as_it_was w s k there
grows w (Count r g) s k there = kept_as_it_was w s k there

-- behind events too
pub grows_along : (w : History) (events : List Event) (s : ℕ) (k : ReplicaHistory) → replica w s ≡ Ok k → IsGrown (after_all w events) s k
grows_along w [] s k there = kept_as_it_was w s k there
grows_along w (event ∷ events) s k there =
    let first = grows w event s k there in
    let rest = grows_along (after w event) events s first.now first.there in
    record {
      now = rest.now;
      there = rest.there;
      more = first.more ++ rest.more;
      grown = rest.grown ∙ ap (λ l. l ++ rest.more) first.grown ∙ append_assoc k.taken first.more rest.more;
    }

same_count : {A : Type 0} (w : History) (meant : Result A Fault) (change : A → History)
    → ((x : A) → length (change x).replicas ≡ length w.replicas) → length (changed w meant change).replicas ≡ length w.replicas
same_count w (Ok x) change same = same x
same_count w (Err fault) change same = refl

keeps_count : (w : History) (event : Event) → length (after w event).replicas ≡ length w.replicas
keeps_count w (Draw r spec) = same_count w (drawn w r spec) (λ d. with_replica w r d.1) (λ d. length-set w.replicas (r - 1) d.1)
keeps_count w (SendDelta r from count) = same_count w (named_entries w r from count) (λ edits. with_message w (Delta edits)) (λ edits. refl)
keeps_count w (SendState r) = same_count w (replica w r) (λ h. with_message w (State h.taken)) (λ h. refl)
keeps_count w (Deliver m r) = same_count w (delivered w m r) (λ h. with_replica w r h) (λ h. length-set w.replicas (r - 1) h)
keeps_count w (Show r x y) = refl
keeps_count w (Same a b) = refl
keeps_count w (Dump m) = refl
keeps_count w (Export r g) = refl
keeps_count w (Cut r window g) = refl
keeps_count w (Count r g) = refl

-- a drawn edit is taken by its replica
drawn_is_taken : (w : History) (event : Event) (e : PlaneEdit) (d : IsDrawnAt w event e) → Contains (after_drawing d.held e).taken e
drawn_is_taken w event e d = Contains-append_right d.held.taken (e ∷ []) e (0, omega arith, refl)

drawn_is_there : (w : History) (event : Event) (e : PlaneEdit) (d : IsDrawnAt w event e) → replica (after w event) d.number ≡ Ok (after_drawing d.held e)
drawn_is_there w event e d =
    let met : drawn w d.number d.spec ≡ Ok (e, after_drawing d.held e) =
    ap (λ (o : Result ReplicaHistory Fault). o >>= (λ h. edit_drawn w.rule (greatest_counter h.taken) d.number d.spec >>= (λ x. Ok (x, after_drawing h x)))) d.replica_is
    ∙ ap (λ (o : Result PlaneEdit Fault). o >>= (λ x. Ok (x, after_drawing d.held x))) d.edit_is in
    ap (λ v. replica (after w v) d.number) d.event_is
    ∙ ap (λ (o : Result (PlaneEdit × ReplicaHistory) Fault). replica (changed w o (λ p. with_replica w d.number p.1)) d.number) met
    ∙ here_changed w d.number d.held (after_drawing d.held e) d.replica_is

draw_parts : (r s : ℕ) (spec other : EditSpec) → Draw r spec ≡ Draw s other → (r ≡ s) × (spec ≡ other)
draw_parts r s spec other is = (ap number_drawn is, ap spec_drawn is)
  where
    number_drawn : Event → ℕ
    number_drawn (Draw k x) = k
    number_drawn _ = 0

    spec_drawn : Event → EditSpec
    spec_drawn (Draw k x) = x
    spec_drawn _ = spec

one_drawn : (w : History) (event : Event) (e f : PlaneEdit) → IsDrawnAt w event e → IsDrawnAt w event f → e ≡ f
one_drawn w event e f d c =
    let both : Draw d.number d.spec ≡ Draw c.number c.spec = sym d.event_is ∙ c.event_is in
    let parts : (d.number ≡ c.number) × (d.spec ≡ c.spec) = draw_parts d.number c.number d.spec c.spec both in
    let held : d.held ≡ c.held = same_ok (replica w c.number) d.held c.held (ap (replica w) (sym parts.0) ∙ d.replica_is) c.replica_is in
    same_ok (edit_drawn w.rule (greatest_counter c.held.taken) c.number c.spec) e f
    (sym (ap (λ h. edit_drawn w.rule (greatest_counter h.taken) d.number d.spec) held ∙ ap (λ k. edit_drawn w.rule (greatest_counter c.held.taken) k d.spec) parts.0
    ∙ ap (edit_drawn w.rule (greatest_counter c.held.taken) c.number) parts.1) ∙ d.edit_is) c.edit_is

pub sound_after : (w : History) (event : Event) → IsSound w → IsSound (after w event)
sound_after w event sound = record {
  few = omega (arith, keeps_count w event, sound.few);
  owned = λ e inside. elim (comes_from w event e inside) [
    | inl old ↦
        let own = sound.owned e old in
        let grown = grows w event (replica_in e.stamp) own.owner own.there in
        record { owner = grown.now; there = grown.there; taken = subst (λ l. Contains l e) (sym grown.grown) (Contains-append_left own.owner.taken grown.more e own.taken) }
    | inr new ↦
        let few : new.number < 2 ^ 16 = omega (arith, within w new.number new.held new.replica_is, sound.few) in
        let owner : replica_in e.stamp ≡ new.number = ap replica_in (drawn_next w event e new) ∙ owner_of (greatest_counter new.held.taken) new.number few in
        record {
          owner = after_drawing new.held e;
          there = ap (replica (after w event)) owner ∙ drawn_is_there w event e new;
          taken = drawn_is_taken w event e new;
        }
  ];
  one = λ e f e_inside f_inside same. elim (comes_from w event e e_inside) [
    | inl e_old ↦ elim (comes_from w event f f_inside) [
      | inl f_old ↦ sound.one e f e_old f_old same
      | inr f_new ↦ absurd (is_new w event f e sound f_new e_old (sym same))
    ]
    | inr e_new ↦ elim (comes_from w event f f_inside) [
      | inl f_old ↦ absurd (is_new w event e f sound e_new f_old same)
      | inr f_new ↦ one_drawn w event e f e_new f_new
    ]
  ];
}

nothing_held : (h : ReplicaHistory) (e : PlaneEdit) → h ≡ beginner → Contains h.taken e ⊎ Contains h.journal e → ⊥
nothing_held h e is (inl here) = none_in e (subst (λ k. Contains k.taken e) is here)
nothing_held h e is (inr here) = none_in e (subst (λ k. Contains k.journal e) is here)

nothing_in : (rule : GenerationsRule) (n : ℕ) (e : PlaneEdit) → IsIn (opening rule n) e → ⊥
nothing_in rule n e (inl (zero, h, is, here)) = absurd (cc)
nothing_in rule n e (inl (suc i, h, is, here)) = nothing_held h e (get_replicate n beginner i h (some_of_ok (slice_get (replicate n beginner) i) faults.NoReplica h is)) (inl here)
nothing_in rule n e (inr (inl (zero, h, is, here))) = absurd (cc)
nothing_in rule n e (inr (inl (suc i, h, is, here))) = nothing_held h e (get_replicate n beginner i h (some_of_ok (slice_get (replicate n beginner) i) faults.NoReplica h is)) (inr here)
nothing_in rule n e (inr (inr (zero, sent, is, here))) = absurd (cc)
nothing_in rule n e (inr (inr (suc i, sent, is, here))) = absurd (cc)

pub sound_opening : (rule : GenerationsRule) (n : ℕ) → n < 2 ^ 16 → IsSound (opening rule n)
sound_opening rule n few = record {
  few = omega (arith, length-replicate n beginner, few);
  owned = λ e inside. absurd (nothing_in rule n e inside);
  one = λ e f inside also same. absurd (nothing_in rule n e inside);
}

pub sound_along : (w : History) (events : List Event) → IsSound w → IsSound (after_all w events)
sound_along w [] sound = sound
sound_along w (event ∷ events) sound = sound_along (after w event) events (sound_after w event sound)

-- ---- every edit of a history is an edit

pub edits_opening : (rule : GenerationsRule) (n : ℕ) → AreEdits (opening rule n)
edits_opening rule n e inside = absurd (nothing_in rule n e inside)

pub edits_drawn : (w : History) (r : ℕ) (h : ReplicaHistory) (e : PlaneEdit) → replica w r ≡ Ok h → AreEdits w → IsEditUnder w.rule e → AreEdits (with_replica w r (after_drawing h e))
edits_drawn w r h e is valid edit x inside = elim (from_changed w r h (after_drawing h e) x (x ≡ e) is
    (λ here. elim (Contains-append_cases h.taken (e ∷ []) x here) [ inl old ↦ inl (in_replica w r h x is old) | inr last ↦ inr (only_one e x last) ])
    (λ here. elim (Contains-append_cases h.journal (e ∷ []) x here) [ inl old ↦ inl (in_journal w r h x is old) | inr last ↦ inr (only_one e x last) ])
    inside) [
      | inl old ↦ valid x old
      | inr new ↦ subst (IsEditUnder w.rule) (sym new) edit
    ]

-- a change that leaves the rule leaves it whether or not it comes
rule_stays : {A : Type 0} (w : History) (o : Result A Fault) (change : A → History) → ((x : A) → (change x).rule ≡ w.rule) → w.rule ≡ (changed w o change).rule
rule_stays w (Ok x) change same = sym (same x)
rule_stays w (Err fault) change same = refl

pub edits_sent_on : (w : History) (r : ℕ) → AreEdits w → AreEdits (after w (SendState r))
edits_sent_on w r valid e inside =
    subst (λ (g : GenerationsRule). IsEditUnder g e) (rule_stays w (replica w r) (λ h. with_message w (State h.taken)) (λ h. refl))
    (valid e (from_sending w r e (replica w r) refl inside))

pub edits_sent_of : (w : History) (r from count : ℕ) → AreEdits w → AreEdits (after w (SendDelta r from count))
edits_sent_of w r from count valid e inside =
    subst (λ (g : GenerationsRule). IsEditUnder g e) (rule_stays w (named_entries w r from count) (λ edits. with_message w (Delta edits)) (λ edits. refl))
    (valid e (from_sending_entries w r from count e (replica w r) refl inside))

pub edits_delivered : (w : History) (m r : ℕ) → AreEdits w → AreEdits (after w (Deliver m r))
edits_delivered w m r valid e inside =
    subst (λ (g : GenerationsRule). IsEditUnder g e) (rule_stays w (delivered w m r) (λ h. with_replica w r h) (λ h. refl))
    (valid e (from_delivery w m r e (message w m) (replica w r) refl refl inside))
