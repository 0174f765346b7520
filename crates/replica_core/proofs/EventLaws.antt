-- A world that stands for a history stands for the history after an event, and the reply is the history's.
use Rattle.std.proofs.Common.{◌≡◌, ℕ, ℤ, suc, ◌-◌, ◌≤◌, List, [], ◌∷◌, ◌++◌, length, refl, sym, ◌∙◌, ap, subst, arith, inl, length-append}
use Rattle.std.specs.Prelude.{Contains, Some, slice_get, slice_set, Result, Ok, Err, MatchResult}
use Rattle.std.specs.Option.{ok_or}
use Rattle.generations_rule.specs.Refusal.{◌>>=◌}
use Rattle.generations_rule.specs.Place.{at_place}
use Rattle.stamped_writes.specs.declared.write.Write.{Write}
use Rattle.edit_stamps.specs.Edit.{PlaneEdit, IsEdit, greatest, greatest_counter}
use Rattle.stamped_writes.specs.Write.{AreSame}
use Rattle.stamped_tree.specs.Plane.{map_of}
use Rattle.replica_events.specs.declared.event.Event.{Event}
use Rattle.replica_events.specs.declared.event.Event.TheVariants.{Draw, SendDelta, SendState, Deliver, Show, Same, Dump, Export, Cut, Count}
use Rattle.replica_core.specs.declared.event.Reply.{Reply}
use Rattle.replica_core.specs.declared.event.Reply.TheVariants as replies
use Rattle.replica_core.specs.declared.fault.Fault.{Fault}
use Rattle.replica_core.specs.declared.fault.Fault.TheVariants as faults
use Rattle.replica_events.specs.declared.edit_spec.EditSpec.{EditSpec}
use Rattle.delta_exchange.specs.Delta.{AreTellable}
use Rattle.delta_exchange.specs.Spelling.{delta_text}
use Rattle.replica_core.specs.Exchange.{entries}
use Rattle.replica_core.specs.Replica.{ReplicaState, edit_drawn}
use Rattle.generation_engine.specs.Universe.{states_in_writes}
use Rattle.replica_core.specs.declared.event.Question.{Question}
use Rattle.replica_core.specs.Exporting.{Tells}
use Rattle.replica_core.specs.World.{IsReplyToQuestion, TellsOfEdits, IsEditUnder, History, ReplicaHistory, Sent, Delta, State, TellsBytes, named_entries, AreEdits, Given, IsReply, StandSideBySide, StandsFor, StandsForSent, StandsForWorld, WorldState, after, after_drawing, after_message, changed, delivered, drawn, message, next_message, numbered, replica, with_message, with_replica}
use Rattle.replica_core.proofs.HistoryLaws.{edits_drawn}
use Rattle.replica_core.proofs.SideBySide.{beside, numbered_at, numbered_past, set_same, side_set, side_push}

-- what stands at a number, found by its place
pub found : {A : Type 0} (xs : List A) (r i : ℕ) (x : A) (fault : Fault) → 1 ≤ r → i ≡ r - 1 → slice_get xs i ≡ Some x → ok_or (numbered xs r) fault ≡ Ok x
found xs r i x fault one at there = ap (λ o. ok_or o fault) (numbered_at xs r one ∙ ap (slice_get xs) (sym at) ∙ there)

pub same_number : (r i : ℕ) → 1 ≤ r → i ≡ r - 1 → suc i ≡ r
same_number r i one at = omega (arith, one, at)

-- ---- draws

-- what is answered to a draw, and the histories behind it
abbrev Answered : History → List ReplicaState → ℕ → ℕ → ReplicaState → Reply → Result (PlaneEdit × ReplicaHistory) Fault → Type 0
Answered w rs r i new reply meant =
    Given meant reply (λ d. reply ≡ replies.Drawn d.0.stamp)
    × StandSideBySide (StandsFor w.rule) (changed w meant (λ d. with_replica w r d.1)).replicas (slice_set rs i new)
    × AreEdits (changed w meant (λ d. with_replica w r d.1))

answered_draw : (w : History) (rs : List ReplicaState) (r i : ℕ) (h : ReplicaHistory) (old new : ReplicaState) (reply : Reply) (d : Result PlaneEdit Fault)
    → i ≡ r - 1 → 1 ≤ r → slice_get rs i ≡ Some old → StandSideBySide (StandsFor w.rule) w.replicas rs → old.number ≡ r
    → replica w r ≡ Ok h → AreEdits w
    → MatchResult d
    (λ e. (reply ≡ replies.Drawn e.stamp) × StandsFor w.rule old.number (after_drawing h e) new × IsEditUnder w.rule e)
    (λ fault. (reply ≡ replies.Refused fault) × (new ≡ old))
    → Answered w rs r i new reply (d >>= (λ e. Ok (e, after_drawing h e)))
answered_draw w rs r i h old new reply (Ok e) at one there side number is valid told = (
  told.0,
  subst (λ j. StandSideBySide (StandsFor w.rule) (slice_set w.replicas j (after_drawing h e)) (slice_set rs i new)) at
      (side_set (StandsFor w.rule) w.replicas rs i (after_drawing h e) new side
      (subst (λ k. StandsFor w.rule k (after_drawing h e) new) (number ∙ sym (same_number r i one at)) told.1)),
  edits_drawn w r h e is valid told.2,
)
answered_draw w rs r i h old new reply (Err fault) at one there side number is valid told = (
  told.0,
  subst (λ ys. StandSideBySide (StandsFor w.rule) w.replicas ys) (sym (ap (slice_set rs i) told.1 ∙ set_same rs i old there)) side,
  valid,
)

pub draws_in_world : (w : History) (rs : List ReplicaState) (r i : ℕ) (old new : ReplicaState) (spec : EditSpec) (reply : Reply)
    → AreEdits w → StandSideBySide (StandsFor w.rule) w.replicas rs → 1 ≤ r → i ≡ r - 1 → slice_get rs i ≡ Some old
    → ((h : ReplicaHistory) → ((e : PlaneEdit) → Contains h.taken e → IsEdit e) → StandsFor w.rule old.number h old
    → MatchResult (edit_drawn w.rule (greatest_counter h.taken) old.number spec)
    (λ e. (reply ≡ replies.Drawn e.stamp) × StandsFor w.rule old.number (after_drawing h e) new × IsEditUnder w.rule e)
    (λ fault. (reply ≡ replies.Refused fault) × (new ≡ old)))
    → IsReply w (Draw r spec) reply × StandSideBySide (StandsFor w.rule) (after w (Draw r spec)).replicas (slice_set rs i new) × AreEdits (after w (Draw r spec))
draws_in_world w rs r i old new spec reply valid side one at there step =
    let near = beside (StandsFor w.rule) w.replicas rs i old side there in
    let h : ReplicaHistory = near.other in
    let is : replica w r ≡ Ok h = found w.replicas r i h faults.NoReplica one at near.there in
    let number : old.number ≡ r = near.stands.same_number ∙ same_number r i one at in
    let stands : StandsFor w.rule old.number h old = subst (λ k. StandsFor w.rule k h old) (sym near.stands.same_number) near.stands in
    subst (λ (o : Result ReplicaHistory Fault). Answered w rs r i new reply (o >>= (λ k. edit_drawn w.rule (greatest_counter k.taken) r spec >>= (λ e. Ok (e, after_drawing k e))))) (sym is)
    (subst (λ k. Answered w rs r i new reply (edit_drawn w.rule (greatest_counter h.taken) k spec >>= (λ e. Ok (e, after_drawing h e)))) number
    (answered_draw w rs r i h old new reply (edit_drawn w.rule (greatest_counter h.taken) old.number spec) at one there side number is valid
    (step h (λ e here. (valid e (inl (r, h, is, here))).edit) stands)))

-- a draw of no replica
pub draws_nowhere : (w : History) (rs : List ReplicaState) (r : ℕ) (spec : EditSpec) → AreEdits w → StandSideBySide (StandsFor w.rule) w.replicas rs
    → (1 ≤ r → r ≤ length rs → ⊥)
    → IsReply w (Draw r spec) (replies.Refused faults.NoReplica) × StandSideBySide (StandsFor w.rule) (after w (Draw r spec)).replicas rs × AreEdits (after w (Draw r spec))
draws_nowhere w rs r spec valid side none =
    subst (λ (o : Result ReplicaHistory Fault). Unanswered (o >>= (λ k. edit_drawn w.rule (greatest_counter k.taken) r spec >>= (λ e. Ok (e, after_drawing k e)))))
    (sym (ap (λ o. ok_or o faults.NoReplica) (numbered_past w.replicas r (length rs) (sym side.as_many) none))) (refl, side, valid)
  where
    Unanswered : Result (PlaneEdit × ReplicaHistory) Fault → Type 0
    Unanswered meant = Given meant (replies.Refused faults.NoReplica) (λ d. replies.Refused faults.NoReplica ≡ replies.Drawn d.0.stamp)
        × StandSideBySide (StandsFor w.rule) (changed w meant (λ d. with_replica w r d.1)).replicas rs
        × AreEdits (changed w meant (λ d. with_replica w r d.1))

-- ---- deliveries

pub takes_in_world : (w : History) (rs : List ReplicaState) (ms : List (List ℕ)) (m j r i : ℕ) (old new : ReplicaState) (text : List ℕ) (reply : Reply)
    → StandSideBySide (StandsFor w.rule) w.replicas rs → StandSideBySide (λ k. StandsForSent w.rule) w.messages ms
    → 1 ≤ m → j ≡ m - 1 → slice_get ms j ≡ Some text → 1 ≤ r → i ≡ r - 1 → slice_get rs i ≡ Some old
    → ((h : ReplicaHistory) (sent : Sent) → StandsFor w.rule old.number h old → StandsForSent w.rule sent text
    → (reply ≡ replies.Taken) × StandsFor w.rule old.number (after_message h sent) new)
    → IsReply w (Deliver m r) reply × StandSideBySide (StandsFor w.rule) (after w (Deliver m r)).replicas (slice_set rs i new)
takes_in_world w rs ms m j r i old new text reply side sides one_m at_m there_m one at there step =
    let near = beside (StandsFor w.rule) w.replicas rs i old side there in
    let near_m = beside (λ k. StandsForSent w.rule) w.messages ms j text sides there_m in
    let h : ReplicaHistory = near.other in
    let sent : Sent = near_m.other in
    let is : replica w r ≡ Ok h = found w.replicas r i h faults.NoReplica one at near.there in
    let is_m : message w m ≡ Ok sent = found w.messages m j sent faults.NoMessage one_m at_m near_m.there in
    let stands : StandsFor w.rule old.number h old = subst (λ k. StandsFor w.rule k h old) (sym near.stands.same_number) near.stands in
    let told = step h sent stands near_m.stands in
    subst (λ (o : Result Sent Fault). Delivers (o >>= (λ s. replica w r >>= (λ k. Ok (after_message k s))))) (sym is_m)
    (subst (λ (o : Result ReplicaHistory Fault). Delivers (o >>= (λ k. Ok (after_message k sent)))) (sym is) (
      told.0,
      subst (λ n. StandSideBySide (StandsFor w.rule) (slice_set w.replicas n (after_message h sent)) (slice_set rs i new)) at
          (side_set (StandsFor w.rule) w.replicas rs i (after_message h sent) new side
          (subst (λ k. StandsFor w.rule k (after_message h sent) new) near.stands.same_number told.1)),
    ))
  where
    Delivers : Result ReplicaHistory Fault → Type 0
    Delivers meant = Given meant reply (λ d. reply ≡ replies.Taken)
        × StandSideBySide (StandsFor w.rule) (changed w meant (λ d. with_replica w r d)).replicas (slice_set rs i new)

-- ---- what is sent

-- the message behind the others, and its number
abbrev pub Sends : History → Reply → List (List ℕ) → {A : Type 0} → Result A Fault → (A → Sent) → Type 0
Sends w reply new meant sent =
    Given meant reply (λ x. reply ≡ replies.Sent (next_message w))
    × StandSideBySide (λ k. StandsForSent w.rule) (changed w meant (λ x. with_message w (sent x))).messages new

sent_behind : (w : History) (ms : List (List ℕ)) (sent : Sent) (text : List ℕ) (reply : Reply)
    → StandSideBySide (λ k. StandsForSent w.rule) w.messages ms → reply ≡ replies.Sent (length (ms ++ text ∷ [])) → StandsForSent w.rule sent text
    → (reply ≡ replies.Sent (next_message w)) × StandSideBySide (λ k. StandsForSent w.rule) (with_message w sent).messages (ms ++ text ∷ [])
sent_behind w ms sent text reply sides numbers stands = (
  numbers ∙ ap replies.Sent (omega (arith, length-append ms (text ∷ []), sides.as_many)),
  side_push (λ k. StandsForSent w.rule) w.messages ms sent text sides stands,
)

pub sends_in_world : (w : History) (rs : List ReplicaState) (ms : List (List ℕ)) (r i : ℕ) (sender : ReplicaState) (text : List ℕ) (reply : Reply)
    → StandSideBySide (StandsFor w.rule) w.replicas rs → StandSideBySide (λ k. StandsForSent w.rule) w.messages ms
    → 1 ≤ r → i ≡ r - 1 → slice_get rs i ≡ Some sender → reply ≡ replies.Sent (length (ms ++ text ∷ []))
    → ((h : ReplicaHistory) → StandsFor w.rule (suc i) h sender → StandsForSent w.rule (State h.taken) text)
    → IsReply w (SendState r) reply × StandSideBySide (λ k. StandsForSent w.rule) (after w (SendState r)).messages (ms ++ text ∷ [])
sends_in_world w rs ms r i sender text reply side sides one at there numbers step =
    let near = beside (StandsFor w.rule) w.replicas rs i sender side there in
    let is : replica w r ≡ Ok near.other = found w.replicas r i near.other faults.NoReplica one at near.there in
    subst (λ (o : Result ReplicaHistory Fault). Sends w reply (ms ++ text ∷ []) o (λ h. State h.taken)) (sym is)
    (sent_behind w ms (State near.other.taken) text reply sides numbers (step near.other near.stands))

-- entries of the journal of a replica that is there
entries_in_world : (w : History) (rs : List ReplicaState) (r i from count : ℕ) (sender : ReplicaState) → StandSideBySide (StandsFor w.rule) w.replicas rs
    → 1 ≤ r → i ≡ r - 1 → slice_get rs i ≡ Some sender → (named_entries w r from count ≡ entries sender.journal from count) × (sender.rule ≡ w.rule)
entries_in_world w rs r i from count sender side one at there =
    let near = beside (StandsFor w.rule) w.replicas rs i sender side there in
    let is : replica w r ≡ Ok near.other = found w.replicas r i near.other faults.NoReplica one at near.there in
    (ap (λ (o : Result ReplicaHistory Fault). o >>= (λ h. entries h.journal from count)) is ∙ ap (λ j. entries j from count) (sym near.stands.journal), near.stands.same_rule)

pub sends_entries_in_world : (w : History) (rs : List ReplicaState) (ms : List (List ℕ)) (r i from count : ℕ) (sender : ReplicaState) (text : List ℕ) (reply : Reply)
    → StandSideBySide (StandsFor w.rule) w.replicas rs → StandSideBySide (λ k. StandsForSent w.rule) w.messages ms
    → 1 ≤ r → i ≡ r - 1 → slice_get rs i ≡ Some sender → reply ≡ replies.Sent (length (ms ++ text ∷ []))
    → (edits : List PlaneEdit) → entries sender.journal from count ≡ Ok edits → text ≡ delta_text sender.rule edits → AreTellable sender.rule.states edits
    → IsReply w (SendDelta r from count) reply × StandSideBySide (λ k. StandsForSent w.rule) (after w (SendDelta r from count)).messages (ms ++ text ∷ [])
sends_entries_in_world w rs ms r i from count sender text reply side sides one at there numbers edits named spelt tellable =
    let here = entries_in_world w rs r i from count sender side one at there in
    let is : named_entries w r from count ≡ Ok edits = here.0 ∙ named in
    subst (λ (o : Result (List PlaneEdit) Fault). Sends w reply (ms ++ text ∷ []) o Delta) (sym is)
    (sent_behind w ms (Delta edits) text reply sides numbers (record {
      spelt = spelt ∙ ap (λ g. delta_text g edits) here.1;
      tellable = subst (λ g. AreTellable g.states edits) here.1 tellable;
    }))

pub refuses_entries_in_world : (w : History) (rs : List ReplicaState) (ms : List (List ℕ)) (r i from count : ℕ) (sender : ReplicaState) (reply : Reply) (fault : Fault)
    → StandSideBySide (StandsFor w.rule) w.replicas rs → StandSideBySide (λ k. StandsForSent w.rule) w.messages ms
    → 1 ≤ r → i ≡ r - 1 → slice_get rs i ≡ Some sender → entries sender.journal from count ≡ Err fault → reply ≡ replies.Refused fault
    → IsReply w (SendDelta r from count) reply × StandSideBySide (λ k. StandsForSent w.rule) (after w (SendDelta r from count)).messages ms
refuses_entries_in_world w rs ms r i from count sender reply fault side sides one at there named replied =
    let here = entries_in_world w rs r i from count sender side one at there in
    let is : named_entries w r from count ≡ Err fault = here.0 ∙ named in
    subst (λ (o : Result (List PlaneEdit) Fault). Sends w reply ms o Delta) (sym is) (replied, sides)

-- ---- dumps

pub dumps_in_world : (w : History) (ms : List (List ℕ)) (m j : ℕ) (text : List ℕ) → StandSideBySide (λ k. StandsForSent w.rule) w.messages ms
    → 1 ≤ m → j ≡ m - 1 → slice_get ms j ≡ Some text → IsReply w (Dump m) (replies.Bytes text)
dumps_in_world w ms m j text sides one at there =
    let near = beside (λ k. StandsForSent w.rule) w.messages ms j text sides there in
    let is : message w m ≡ Ok near.other = found w.messages m j near.other faults.NoMessage one at near.there in
    subst (λ (o : Result Sent Fault). Given o (replies.Bytes text) (λ sent. TellsBytes w.rule sent (replies.Bytes text))) (sym is) (text, refl, near.stands.spelt)

-- ---- questions

pub tells_in_world : (w : History) (rs : List ReplicaState) (r i : ℕ) (question : Question) (held : ReplicaState) (reply : Reply)
    → StandSideBySide (StandsFor w.rule) w.replicas rs → 1 ≤ r → i ≡ r - 1 → slice_get rs i ≡ Some held
    → Tells held.rule (states_in_writes (map_of held.plane)) question reply → IsReplyToQuestion w r question reply
tells_in_world w rs r i question held reply side one at there told =
    let near = beside (StandsFor w.rule) w.replicas rs i held side there in
    let is : replica w r ≡ Ok near.other = found w.replicas r i near.other faults.NoReplica one at near.there in
    subst (λ (o : Result ReplicaHistory Fault). Given o reply (λ h. TellsOfEdits w.rule h.taken question reply)) (sym is)
    (subst (λ t. Tells t (states_in_writes (greatest near.other.taken)) question reply) near.stands.same_rule
    (subst (λ f. Tells held.rule f question reply) (λ k c. (near.stands.map c k).state) told))

-- ---- looks

-- a replica that is there holds the greatest writes of what it took
record Held (w : History) (r : ℕ) (held : ReplicaState) : Type 0 where
  history : ReplicaHistory
  there : replica w r ≡ Ok history
  map : AreSame (map_of held.plane) (greatest history.taken)

held_in_world : (w : History) (rs : List ReplicaState) (r i : ℕ) (held : ReplicaState) → StandSideBySide (StandsFor w.rule) w.replicas rs
    → 1 ≤ r → i ≡ r - 1 → slice_get rs i ≡ Some held → Held w r held
held_in_world w rs r i held side one at there =
    let near = beside (StandsFor w.rule) w.replicas rs i held side there in
    record { history = near.other; there = found w.replicas r i near.other faults.NoReplica one at near.there; map = near.stands.map }

pub shows_in_world : (w : History) (rs : List ReplicaState) (r i : ℕ) (held : ReplicaState) (x y : ℤ) (shown : Write)
    → StandSideBySide (StandsFor w.rule) w.replicas rs → 1 ≤ r → i ≡ r - 1 → slice_get rs i ≡ Some held → shown ≡ map_of held.plane (at_place x y)
    → IsReply w (Show r x y) (replies.Shown shown)
shows_in_world w rs r i held x y shown side one at there is =
    let here = held_in_world w rs r i held side one at there in
    subst (λ (o : Result ReplicaHistory Fault). Given o (replies.Shown shown) (λ h. replies.Shown shown ≡ replies.Shown (greatest h.taken (at_place x y)))) (sym here.there)
    (ap replies.Shown (is ∙ here.map (at_place x y)))

-- ---- what an event leaves as it was

-- what no change touches stays
unchanged : {A B : Type 0} (look : History → B) (w : History) (meant : Result A Fault) (change : A → History)
    → ((x : A) → look (change x) ≡ look w) → look (changed w meant change) ≡ look w
unchanged look w (Ok x) change same = same x
unchanged look w (Err fault) change same = refl

pub keeps_rule : (w : History) (event : Event) → (after w event).rule ≡ w.rule
keeps_rule w (Draw r spec) = unchanged (λ v. v.rule) w (drawn w r spec) (λ d. with_replica w r d.1) (λ d. refl)
keeps_rule w (SendDelta r from count) = unchanged (λ v. v.rule) w (named_entries w r from count) (λ edits. with_message w (Delta edits)) (λ edits. refl)
keeps_rule w (SendState r) = unchanged (λ v. v.rule) w (replica w r) (λ h. with_message w (State h.taken)) (λ h. refl)
keeps_rule w (Deliver m r) = unchanged (λ v. v.rule) w (delivered w m r) (λ h. with_replica w r h) (λ h. refl)
keeps_rule w (Show r x y) = refl
keeps_rule w (Same a b) = refl
keeps_rule w (Dump m) = refl
keeps_rule w (Export r g) = refl
keeps_rule w (Cut r window g) = refl
keeps_rule w (Count r g) = refl

draw_keeps_messages : (w : History) (r : ℕ) (spec : EditSpec) → (after w (Draw r spec)).messages ≡ w.messages
draw_keeps_messages w r spec = unchanged (λ v. v.messages) w (drawn w r spec) (λ d. with_replica w r d.1) (λ d. refl)

delivery_keeps_messages : (w : History) (m r : ℕ) → (after w (Deliver m r)).messages ≡ w.messages
delivery_keeps_messages w m r = unchanged (λ v. v.messages) w (delivered w m r) (λ h. with_replica w r h) (λ h. refl)

sending_keeps_replicas : (w : History) (r : ℕ) → (after w (SendState r)).replicas ≡ w.replicas
sending_keeps_replicas w r = unchanged (λ v. v.replicas) w (replica w r) (λ h. with_message w (State h.taken)) (λ h. refl)

naming_keeps_replicas : (w : History) (r from count : ℕ) → (after w (SendDelta r from count)).replicas ≡ w.replicas
naming_keeps_replicas w r from count = unchanged (λ v. v.replicas) w (named_entries w r from count) (λ edits. with_message w (Delta edits)) (λ edits. refl)

-- a world stands for what came of another of its rule
stands_for : (w v : History) (state : WorldState) → v.rule ≡ w.rule → state.rule ≡ w.rule
    → StandSideBySide (StandsFor w.rule) v.replicas state.replicas → StandSideBySide (λ k. StandsForSent w.rule) v.messages state.messages
    → StandsForWorld v state
stands_for w v state same rule replicas messages = record {
  rule = rule ∙ sym same;
  replicas = subst (λ g. StandSideBySide (StandsFor g) v.replicas state.replicas) (sym same) replicas;
  messages = subst (λ g. StandSideBySide (λ k. StandsForSent g) v.messages state.messages) (sym same) messages;
}

-- ---- what an event does to a world that stands for a history

-- the reply to an event, and a world behind it
abbrev pub Goes : History → Event → Reply → WorldState → Type 0
Goes w event reply new = IsReply w event reply × StandsForWorld (after w event) new

pub goes_by_drawing : (w : History) (event : Event) (r : ℕ) (spec : EditSpec) (reply : Reply) (old new : WorldState) → event ≡ Draw r spec
    → StandsForWorld w old → new.rule ≡ old.rule → new.messages ≡ old.messages
    → (rs : List ReplicaState) → new.replicas ≡ rs
    → IsReply w (Draw r spec) reply × StandSideBySide (StandsFor w.rule) (after w (Draw r spec)).replicas rs
    → Goes w event reply new
goes_by_drawing w event r spec reply old new is stands rule messages rs replicas told =
    subst (λ e. Goes w e reply new) (sym is) (
      told.0,
      stands_for w (after w (Draw r spec)) new (keeps_rule w (Draw r spec)) (rule ∙ stands.rule)
          (subst (StandSideBySide (StandsFor w.rule) (after w (Draw r spec)).replicas) (sym replicas) told.1)
          (subst (λ ms. StandSideBySide (λ k. StandsForSent w.rule) ms new.messages) (sym (draw_keeps_messages w r spec))
          (subst (λ ms. StandSideBySide (λ k. StandsForSent w.rule) w.messages ms) (sym messages) stands.messages)),
    )

pub goes_by_delivery : (w : History) (event : Event) (m r : ℕ) (reply : Reply) (old new : WorldState) → event ≡ Deliver m r
    → StandsForWorld w old → new.rule ≡ old.rule → new.messages ≡ old.messages
    → (rs : List ReplicaState) → new.replicas ≡ rs → IsReply w (Deliver m r) reply × StandSideBySide (StandsFor w.rule) (after w (Deliver m r)).replicas rs
    → Goes w event reply new
goes_by_delivery w event m r reply old new is stands rule messages rs replicas told =
    subst (λ e. Goes w e reply new) (sym is) (
      told.0,
      stands_for w (after w (Deliver m r)) new (keeps_rule w (Deliver m r)) (rule ∙ stands.rule)
          (subst (StandSideBySide (StandsFor w.rule) (after w (Deliver m r)).replicas) (sym replicas) told.1)
          (subst (λ ms. StandSideBySide (λ k. StandsForSent w.rule) ms new.messages) (sym (delivery_keeps_messages w m r))
          (subst (λ ms. StandSideBySide (λ k. StandsForSent w.rule) w.messages ms) (sym messages) stands.messages)),
    )

goes_by_messages : (w : History) (event : Event) (reply : Reply) (old new : WorldState) → StandsForWorld w old → new.rule ≡ old.rule → new.replicas ≡ old.replicas
    → (after w event).replicas ≡ w.replicas
    → IsReply w event reply × StandSideBySide (λ k. StandsForSent w.rule) (after w event).messages new.messages → Goes w event reply new
goes_by_messages w event reply old new stands rule replicas kept told = (
  told.0,
  stands_for w (after w event) new (keeps_rule w event) (rule ∙ stands.rule)
      (subst (λ rs. StandSideBySide (StandsFor w.rule) rs new.replicas) (sym kept)
      (subst (λ rs. StandSideBySide (StandsFor w.rule) w.replicas rs) (sym replicas) stands.replicas)) told.1,
)

pub goes_by_sending : (w : History) (event : Event) (r : ℕ) (reply : Reply) (old new : WorldState) → event ≡ SendState r
    → StandsForWorld w old → new.rule ≡ old.rule → new.replicas ≡ old.replicas
    → IsReply w (SendState r) reply × StandSideBySide (λ k. StandsForSent w.rule) (after w (SendState r)).messages new.messages
    → Goes w event reply new
goes_by_sending w event r reply old new is stands rule replicas told =
    subst (λ e. Goes w e reply new) (sym is) (goes_by_messages w (SendState r) reply old new stands rule replicas (sending_keeps_replicas w r) told)

pub goes_by_naming : (w : History) (event : Event) (r from count : ℕ) (reply : Reply) (old new : WorldState) → event ≡ SendDelta r from count
    → StandsForWorld w old → new.rule ≡ old.rule → new.replicas ≡ old.replicas
    → IsReply w (SendDelta r from count) reply × StandSideBySide (λ k. StandsForSent w.rule) (after w (SendDelta r from count)).messages new.messages
    → Goes w event reply new
goes_by_naming w event r from count reply old new is stands rule replicas told =
    subst (λ e. Goes w e reply new) (sym is) (goes_by_messages w (SendDelta r from count) reply old new stands rule replicas (naming_keeps_replicas w r from count) told)
