-- Which messages have the state text of the map that a replica holds.
use Rattle.std.proofs.Common.{◌≡◌, ◌↔◌, ℕ, Bool, true, false, if◌then◌else◌, zero, suc, ◌<◌, List, [], ◌∷◌, ◌++◌, length, refl, sym, ◌∙◌, ap, subst, arith, inl, inr, length-set}
use Rattle.std.specs.Prelude.{Option, Some, None, Result, Ok, Err, IfOk, OnErr, slice_get, slice_set}
use Rattle.std.proofs.Math.ListN.{replicate}
use Rattle.std.proofs.lemmas.Bool.{cases_eq}
use Rattle.std.proofs.lemmas.List.{length-replicate}
use Rattle.std.proofs.lemmas.Option.{slice_get_within}
use Rattle.stamped_writes.specs.Write.{AreSame}
use Rattle.stamped_tree.specs.Plane.{map_of}
use Rattle.delta_exchange.specs.declared.fault.ReadFault.{ReadFault}
use Rattle.delta_exchange.specs.MessageReading.{Told}
use Rattle.delta_exchange.specs.State.{IsTellableMap}
use Rattle.delta_exchange.specs.StateText.{IsStateText}
use Rattle.replica_core.specs.declared.fault.Fault.{Fault}
use Rattle.replica_core.specs.Exchange.{IsTakingText}
use Rattle.replica_core.specs.Replica.{ReplicaState}
use Rattle.replica_core.specs.World.{AreCurrent, IsRemembered, IsStateMessage, IsStateOf}
use Rattle.replica_core.proofs.SameMaps.{same_tellable, same_text}
use Rattle.replica_core.proofs.SideBySide.{get_replicate, get_set_elsewhere, get_set_here, some_is}

-- ---- one replica

-- a state text of a map is one of the same map
pub same_state : (was is : ReplicaState) (text : List ℕ) → is.rule ≡ was.rule → AreSame (map_of is.plane) (map_of was.plane) → IsStateOf was text → IsStateOf is text
same_state was is text rule same state = record {
  spelt = same_text is.rule (map_of was.plane) (map_of is.plane) text (λ c. sym (same c)) (subst (λ g. IsStateText g (map_of was.plane) text) (sym rule) state.spelt);
  tellable = same_tellable is.rule.states (map_of was.plane) (map_of is.plane) (λ c. sym (same c)) (subst (λ g. IsTellableMap g.states (map_of was.plane)) (sym rule) state.tellable);
}

-- what is remembered of a replica whose map stayed
pub still_remembered : (was is : ReplicaState) (entry : Option ℕ) → is.rule ≡ was.rule → AreSame (map_of is.plane) (map_of was.plane) → IsRemembered was is entry entry
still_remembered was is entry rule same place there = (there, λ text state. same_state was is text rule same state)

-- nothing is remembered
pub forgotten : (was is : ReplicaState) (entry : Option ℕ) → IsRemembered was is entry None
forgotten was is entry place there = absurd (cc)

-- what a take leaves of the map where its answer says that it stayed, or where it fails
pub remembered_taken : (was is : ReplicaState) (text : List ℕ) (meant : Result Told ReadFault) (changed : Bool) (before now : Option ℕ) → IsTakingText was is text meant (Ok changed)
    → (changed ≡ false) ↔ AreSame (map_of is.plane) (map_of was.plane) → now ≡ (if changed then None else before) → IsRemembered was is before now
remembered_taken was is text meant true before now taken kept entry = subst (IsRemembered was is before) (sym entry) (forgotten was is before)
remembered_taken was is text meant false before now taken kept entry =
    subst (IsRemembered was is before) (sym entry) (still_remembered was is before taken.2.2.one.rule (kept.0 refl))

pub remembered_refused : (was is : ReplicaState) (text : List ℕ) (meant : Result Told ReadFault) (fault : Fault) (entry : Option ℕ) → IsTakingText {A = Bool} was is text meant (Err fault)
    → IsRemembered was is entry entry
remembered_refused was is text meant fault entry (inl reading) = subst (λ r. IsRemembered was r entry entry) (sym reading.same) (still_remembered was was entry refl (λ c. refl))
remembered_refused was is text meant fault entry (inr (inl joining)) = still_remembered was is entry joining.2.unchanged.one.rule joining.2.unchanged.map
remembered_refused was is text meant fault entry (inr (inr refused)) = subst (λ r. IsRemembered was r entry entry) (sym refused.3) (still_remembered was was entry refl (λ c. refl))

-- ---- messages

get_before : {A : Type 0} (xs ys : List A) (i : ℕ) (x : A) → slice_get xs i ≡ Some x → slice_get (xs ++ ys) i ≡ Some x
get_before [] ys i x h = absurd (cc)
get_before (a ∷ xs) ys zero x h = h
get_before (a ∷ xs) ys (suc i) x h = get_before xs ys i x h

get_last : {A : Type 0} (xs : List A) (x : A) → slice_get (xs ++ x ∷ []) (length xs) ≡ Some x
get_last [] x = refl
get_last (a ∷ xs) x = get_last xs x

-- a message stays where another is put behind it
stays : (r : ReplicaState) (ms : List (List ℕ)) (text : List ℕ) (place : ℕ) → IsStateMessage r ms place → IsStateMessage r (ms ++ text ∷ []) place
stays r ms text place is = record { text = is.text; there = get_before ms (text ∷ []) place is.text is.there; state = is.state }

-- ---- all replicas

pub none_current : (rs : List ReplicaState) (ms : List (List ℕ)) (n : ℕ) → length rs ≡ n → AreCurrent rs ms (replicate n None)
none_current rs ms n many = record {
  as_many = length-replicate n None ∙ sym many;
  each = λ i place r at entry. absurd (some_none (get_replicate n None i (Some place) entry));
}
  where
    some_none : {place : ℕ} → Some place ≡ None → ⊥
    some_none h = cc

-- the same lists
pub current_same : (rs rs_now : List ReplicaState) (ms ms_now : List (List ℕ)) (cs cs_now : List (Option ℕ)) → rs_now ≡ rs → ms_now ≡ ms → cs_now ≡ cs
    → AreCurrent rs ms cs → AreCurrent rs_now ms_now cs_now
current_same rs rs_now ms ms_now cs cs_now replicas messages current are =
    subst (λ l. AreCurrent l ms_now cs_now) (sym replicas) (subst (λ l. AreCurrent rs l cs_now) (sym messages) (subst (AreCurrent rs ms) (sym current) are))

-- a message is put behind the others, or want of memory met
pub current_sent : {T F : Type 0} (rs : List ReplicaState) (ms new : List (List ℕ)) (cs : List (Option ℕ)) (text : List ℕ) (sent : Result T F) (Q : T → Type 0)
    → IfOk sent (λ x. (new ≡ ms ++ text ∷ []) × Q x) → OnErr sent (new ≡ ms) → AreCurrent rs ms cs → AreCurrent rs new cs
current_sent rs ms new cs text (Ok x) Q put kept are = subst (λ l. AreCurrent rs l cs) (sym put.0) (record {
  as_many = are.as_many;
  each = λ i place r at entry. stays r ms text place (are.each i place r at entry);
})
current_sent rs ms new cs text (Err fault) Q put kept are = subst (λ l. AreCurrent rs l cs) (sym kept) are

-- a replica changes, and what is remembered of it
pub current_set : (rs : List ReplicaState) (ms : List (List ℕ)) (cs : List (Option ℕ)) (i : ℕ) (was is : ReplicaState) (before now : Option ℕ)
    → slice_get rs i ≡ Some was → slice_get cs i ≡ Some before → IsRemembered was is before now → AreCurrent rs ms cs
    → AreCurrent (slice_set rs i is) ms (slice_set cs i now)
current_set rs ms cs i was is before now there held on are = record {
  as_many = length-set cs i now ∙ are.as_many ∙ sym (length-set rs i is);
  each = λ j place r at entry. elim (cases_eq i j) [
    | inl here ↦
        let r_is : is ≡ r = some_is (sym (get_set_here rs i is (slice_get_within rs i was there)) ∙ ap (slice_get (slice_set rs i is)) here ∙ at) in
        let now_is : now ≡ Some place = some_is (sym (get_set_here cs i now (slice_get_within cs i before held)) ∙ ap (slice_get (slice_set cs i now)) here ∙ entry) in
        let told = on place now_is in
        let old = are.each i place was there (held ∙ ap Some told.0) in
        record { text = old.text; there = old.there; state = subst (λ x. IsStateOf x old.text) r_is (told.1 old.text old.state) }
    | inr elsewhere ↦ are.each j place r (sym (get_set_elsewhere rs i j is elsewhere) ∙ at) (sym (get_set_elsewhere cs i j now elsewhere) ∙ entry)
  ];
}

-- the state text of a replica is sent
pub current_noted : (rs : List ReplicaState) (ms : List (List ℕ)) (cs : List (Option ℕ)) (i : ℕ) (r : ReplicaState) (text : List ℕ)
    → slice_get rs i ≡ Some r → IsStateOf r text → AreCurrent rs ms cs
    → AreCurrent rs (ms ++ text ∷ []) (slice_set cs i (Some (length ms)))
current_noted rs ms cs i r text there state are = record {
  as_many = length-set cs i (Some (length ms)) ∙ are.as_many;
  each = λ j place x at entry. elim (cases_eq i j) [
    | inl here ↦
        let x_is : r ≡ x = some_is (sym there ∙ ap (slice_get rs) here ∙ at) in
        let within : i < length cs = omega (arith, slice_get_within rs i r there, are.as_many) in
        let last : length ms ≡ place = some_is (some_is (sym (get_set_here cs i (Some (length ms)) within) ∙ ap (slice_get (slice_set cs i (Some (length ms)))) here ∙ entry)) in
        record { text = text; there = ap (slice_get (ms ++ text ∷ [])) (sym last) ∙ get_last ms text; state = subst (λ y. IsStateOf y text) x_is state }
    | inr elsewhere ↦ stays x ms text place (are.each j place x at (sym (get_set_elsewhere cs i j (Some (length ms)) elsewhere) ∙ entry))
  ];
}
