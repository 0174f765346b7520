-- Where there is no room for an event, a plane became full of what it needs.
use Rattle.std.proofs.Common.{inl, inr, ◌≡◌, ◌≢◌, ◌⊎◌, ℕ, ◌+◌, ◌-◌, ◌≤◌, Bool, true, false, List, [], ◌∷◌, refl, sym, ◌∙◌, ap, subst}
use Rattle.std.specs.Prelude.{Contains, IfErr, Some, slice_get, Result, Ok, Err, not, nat_lt}
use Rattle.square_store.specs.Limits.{usual_room}
use Rattle.generations_rule.specs.Refusal.{◌>>=◌, when, unless}
use Rattle.generations_rule.specs.Rule.{GenerationsRule}
use Rattle.edit_stamps.specs.declared.fault.EditFault.{EditFault}
use Rattle.edit_stamps.specs.declared.fault.EditFault.TheVariants as edit_faults
use Rattle.edit_stamps.specs.Edit.{PlaneEdit, IsEdit, greatest, greatest_counter}
use Rattle.edit_stamps.specs.PlaneMap.{IsGreatestStamp}
use Rattle.edit_stamps.specs.Stamp.{counter_in, last_counter, stamp_of}
use Rattle.stamped_tree.specs.Plane.{map_of}
use Rattle.replica_events.specs.declared.event.Event.{Event}
use Rattle.replica_events.specs.declared.edit_spec.EditSpec.{EditSpec}
use Rattle.delta_exchange.specs.declared.message.Content.{Content}
use Rattle.delta_exchange.specs.declared.message.Content.TheVariants as contents
use Rattle.export.specs.Export.{IsRoomWanted}
use Rattle.replica_core.specs.declared.event.Reply.{Reply}
use Rattle.replica_core.specs.declared.event.Stop.{Stop}
use Rattle.replica_core.specs.declared.event.Stop.TheVariants as stops
use Rattle.replica_core.specs.declared.fault.Fault.{Fault}
use Rattle.replica_core.specs.declared.fault.Fault.TheVariants as faults
use Rattle.replica_core.specs.Fault.{IsWant, stop_of}
use Rattle.replica_core.specs.Replica.{ReplicaState, IsDraw, edit_drawn, made, or_edit_fault}
use Rattle.replica_core.specs.Room.{IsFullFor, IsFullJoining}
use Rattle.replica_core.specs.World.{AreEdits, Carries, Delta, HaveRoom, History, IsDeliveryFull, IsDrawFull, IsExportFull, IsTooLargeToRead, MayStop, ReplicaHistory, Sent, StandSideBySide, StandsFor, StandsForSent, StandsForWorld, State, WantsRoom, WorldState, replica}
use Rattle.replica_core.proofs.EventLaws.{found, same_number}
use Rattle.replica_core.proofs.SideBySide.{beside}
use Rattle.replica_core.proofs.StandingLaws.{IsTakingSent, draws_at_clock}

-- ---- one replica

-- what became of a replica's plane, told by what the replica took
full_standing : (rule : GenerationsRule) (number : ℕ) (h : ReplicaHistory) (old new : ReplicaState) (P : Content → Type 0) → StandsFor rule number h old
    → new.plane.store.room ≡ old.plane.store.room → IsFullJoining old.plane new.plane P → IsFullFor old.plane.store.room h.taken P
full_standing rule number h old new P stands room full = record { old = old.plane; new = new.plane; shows = stands.map; room = room; full = full }

-- no edit is refused for want of room where it is made
no_room_to_make : (made_now : Result PlaneEdit EditFault) → or_edit_fault made_now ≢ Err faults.StoreFull
no_room_to_make (Ok e) is = absurd (cc)
no_room_to_make (Err edit_faults.Memory) is = absurd (cc)
no_room_to_make (Err edit_faults.Nothing) is = absurd (cc)
no_room_to_make (Err edit_faults.TooMany) is = absurd (cc)
no_room_to_make (Err edit_faults.OutOfPlane) is = absurd (cc)
no_room_to_make (Err edit_faults.StateRange) is = absurd (cc)

none_meant : (rule : GenerationsRule) (spec : EditSpec) (stamp : Result ℕ Fault) → stamp ≢ Err faults.StoreFull → (stamp >>= (λ s. or_edit_fault (made rule s spec))) ≢ Err faults.StoreFull
none_meant rule spec (Ok s) other is = no_room_to_make (made rule s spec) is
none_meant rule spec (Err fault) other is = let same : fault ≡ faults.StoreFull = cc in absurd (other (ap Err same))

no_room_to_stamp : (b : Bool) (stamp : ℕ) → unless (when b faults.ClockFull) stamp ≢ Err faults.StoreFull
no_room_to_stamp true stamp is = absurd (cc)
no_room_to_stamp false stamp is = absurd (cc)

pub draw_full : (rule : GenerationsRule) (n : ℕ) (h : ReplicaHistory) (old new : ReplicaState) (spec : EditSpec) (fault : Fault)
    → ((e : PlaneEdit) → Contains h.taken e → IsEdit e) → StandsFor rule old.number h old → IsGreatestStamp n (map_of old.plane)
    → IsDraw old new (edit_drawn old.rule (counter_in n) old.number spec) (Err fault) → fault ≡ faults.StoreFull
    → (e : PlaneEdit) × (edit_drawn rule (greatest_counter h.taken) old.number spec ≡ Ok e) × IsFullFor old.plane.store.room h.taken (λ content. content ≡ contents.Edits (e ∷ []))
draw_full rule n h old new spec fault valid stands clock (inl want) is = (
  want.0,
  sym (draws_at_clock rule old.number n h old spec valid stands clock) ∙ want.1,
  full_standing rule old.number h old new (λ content. content ≡ contents.Edits (want.0 ∷ [])) stands want.2.unchanged.one.room (want.2.full is),
)
draw_full rule n h old new spec fault valid stands clock (inr refused) is =
    absurd (none_meant old.rule spec _ (no_room_to_stamp (not (nat_lt (counter_in n) last_counter)) (stamp_of (counter_in n + 1) old.number)) (refused.0 ∙ ap Err is))

pub take_full : (rule : GenerationsRule) (h : ReplicaHistory) (sent : Sent) (old new : ReplicaState) (text : List ℕ) (fault : Fault)
    → StandsFor rule old.number h old → StandsForSent rule sent text → IsTakingSent {A = Bool} old new text (Err fault) → fault ≡ faults.StoreFull
    → IsFullFor old.plane.store.room h.taken (Carries sent) ⊎ IsTooLargeToRead sent
take_full rule h (Delta edits) old new text fault stands sends takes is =
    let here = subst (λ g. StandsForSent g (Delta edits) text) (sym stands.same_rule) sends in
    let want = takes.0 edits here.tellable here.spelt in
    inl (full_standing rule old.number h old new (Carries (Delta edits)) stands want.unchanged.one.room (want.full is))
take_full rule h (State edits) old new text fault stands sends takes is =
    let here = subst (λ g. StandsForSent g (State edits) text) (sym stands.same_rule) sends in
    elim (takes.1 (greatest edits) here.tellable (inr here.spelt)) [
      | inl want ↦ inl (full_standing rule old.number h old new (Carries (State edits)) stands want.unchanged.one.room (want.full is))
      | inr large ↦ inr large.2
    ]

-- ---- a world

pub draw_wants : (w : History) (rs : List ReplicaState) (r i nodes : ℕ) (old : ReplicaState) (spec : EditSpec)
    → AreEdits w → StandSideBySide (StandsFor w.rule) w.replicas rs → HaveRoom nodes rs → 1 ≤ r → i ≡ r - 1 → slice_get rs i ≡ Some old
    → ((h : ReplicaHistory) → ((e : PlaneEdit) → Contains h.taken e → IsEdit e) → StandsFor w.rule old.number h old
    → (e : PlaneEdit) × (edit_drawn w.rule (greatest_counter h.taken) old.number spec ≡ Ok e) × IsFullFor old.plane.store.room h.taken (λ content. content ≡ contents.Edits (e ∷ [])))
    → IsDrawFull nodes w r spec
draw_wants w rs r i nodes old spec valid side room one at there full =
    let near = beside (StandsFor w.rule) w.replicas rs i old side there in
    let h : ReplicaHistory = near.other in
    let is : replica w r ≡ Ok h = found w.replicas r i h faults.NoReplica one at near.there in
    let number : old.number ≡ r = near.stands.same_number ∙ same_number r i one at in
    let stands : StandsFor w.rule old.number h old = subst (λ k. StandsFor w.rule k h old) (sym near.stands.same_number) near.stands in
    let wants = full h (λ e here. (valid e (inl (r, h, is, here))).edit) stands in
    record {
      held = h;
      there = is;
      edit = wants.0;
      meant = subst (λ k. edit_drawn w.rule (greatest_counter h.taken) k spec ≡ Ok wants.0) number wants.1;
      full = subst (λ n. IsFullFor n h.taken (λ content. content ≡ contents.Edits (wants.0 ∷ []))) (room i old there) wants.2;
    }

pub delivery_wants : (w : History) (rs : List ReplicaState) (ms : List (List ℕ)) (m j r i nodes : ℕ) (old : ReplicaState) (text : List ℕ)
    → StandSideBySide (StandsFor w.rule) w.replicas rs → StandSideBySide (λ k. StandsForSent w.rule) w.messages ms → HaveRoom nodes rs
    → 1 ≤ m → j ≡ m - 1 → slice_get ms j ≡ Some text → 1 ≤ r → i ≡ r - 1 → slice_get rs i ≡ Some old
    → ((h : ReplicaHistory) (sent : Sent) → StandsFor w.rule old.number h old → StandsForSent w.rule sent text
    → IsFullFor old.plane.store.room h.taken (Carries sent) ⊎ IsTooLargeToRead sent)
    → IsDeliveryFull nodes w m r
delivery_wants w rs ms m j r i nodes old text side sides room one_m at_m there_m one at there full =
    let near = beside (StandsFor w.rule) w.replicas rs i old side there in
    let near_m = beside (λ k. StandsForSent w.rule) w.messages ms j text sides there_m in
    let h : ReplicaHistory = near.other in
    let sent : Sent = near_m.other in
    let stands : StandsFor w.rule old.number h old = subst (λ k. StandsFor w.rule k h old) (sym near.stands.same_number) near.stands in
    record {
      held = h;
      there = found w.replicas r i h faults.NoReplica one at near.there;
      sent = sent;
      given = found w.messages m j sent faults.NoMessage one_m at_m near_m.there;
      full = subst (λ n. IsFullFor n h.taken (Carries sent) ⊎ IsTooLargeToRead sent) (room i old there) (full h sent stands near_m.stands);
    }

pub export_wants : (w : History) (rs : List ReplicaState) (r i g : ℕ) (held : ReplicaState) → StandSideBySide (StandsFor w.rule) w.replicas rs
    → 1 ≤ r → i ≡ r - 1 → slice_get rs i ≡ Some held → IsRoomWanted held.rule held.plane g usual_room → IsExportFull w r g
export_wants w rs r i g held side one at there wanted =
    let near = beside (StandsFor w.rule) w.replicas rs i held side there in
    record {
      held = near.other;
      there = found w.replicas r i near.other faults.NoReplica one at near.there;
      plane = held.plane;
      shows = near.stands.map;
      wanted = subst (λ rule. IsRoomWanted rule held.plane g usual_room) near.stands.same_rule wanted;
    }

-- ---- why a list stops

room_of : (fault : Fault) → stop_of fault ≡ Some stops.StoreFull → fault ≡ faults.StoreFull
room_of faults.StoreFull is = refl
room_of faults.Memory is = absurd (cc)
room_of (faults.Edit fault) is = absurd (cc)
room_of (faults.Read fault) is = absurd (cc)
room_of (faults.Export fault) is = absurd (cc)
room_of faults.OtherRule is = absurd (cc)
room_of faults.ClockFull is = absurd (cc)
room_of faults.NoSuchEdit is = absurd (cc)
room_of faults.NoReplica is = absurd (cc)
room_of faults.NoMessage is = absurd (cc)

-- a list stops for want of room only at a want of room
pub wants_room : {A : Type 0} (fault : Fault) (result : Result A Stop) → IfErr result (λ stop. IsWant fault × (stop_of fault ≡ Some stop)) → result ≡ Err stops.StoreFull → fault ≡ faults.StoreFull
wants_room fault result told is = room_of fault (let stopped = subst (λ r. IfErr r (λ stop. IsWant fault × (stop_of fault ≡ Some stop))) is told in stopped.1)

-- what an event that may want room may stop
pub may_stop : (result : Result Reply Stop) (event : Event) (state : WorldState)
    → (result ≡ Err stops.StoreFull → (w : History) (nodes : ℕ) → AreEdits w → StandsForWorld w state → HaveRoom nodes state.replicas → WantsRoom nodes w event)
    → IfErr result (λ stop. (w : History) (nodes : ℕ) → AreEdits w → StandsForWorld w state → HaveRoom nodes state.replicas → MayStop nodes w stop event)
may_stop (Ok reply) event state full = tt
may_stop (Err stops.Memory) event state full = λ w nodes valid stands room. tt
may_stop (Err stops.StoreFull) event state full = λ w nodes valid stands room. full refl w nodes valid stands room

-- what one that wants memory alone may stop, by what else is told of it
pub memory_stops : (result : Result Reply Stop) (event : Event) (state : WorldState) (Q : Type 0) → IfErr result (λ stop. (stop ≡ stops.Memory) × Q)
    → IfErr result (λ stop. (w : History) (nodes : ℕ) → AreEdits w → StandsForWorld w state → HaveRoom nodes state.replicas → MayStop nodes w stop event)
memory_stops (Ok reply) event state Q told = tt
memory_stops (Err stops.Memory) event state Q told = λ w nodes valid stands room. tt
memory_stops (Err stops.StoreFull) event state Q told = absurd (let memory = told.0 in cc)

pub memory_stops_both : (result : Result Reply Stop) (event : Event) (state : WorldState) (Q R : Type 0) → IfErr result (λ stop. (stop ≡ stops.Memory) × Q × R)
    → IfErr result (λ stop. (w : History) (nodes : ℕ) → AreEdits w → StandsForWorld w state → HaveRoom nodes state.replicas → MayStop nodes w stop event)
memory_stops_both (Ok reply) event state Q R told = tt
memory_stops_both (Err stops.Memory) event state Q R told = λ w nodes valid stands room. tt
memory_stops_both (Err stops.StoreFull) event state Q R told = absurd (let memory = told.0 in cc)
