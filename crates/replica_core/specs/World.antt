-- Worlds of replicas as histories: which edits each replica took, which messages were sent, and what is answered to
-- each event. The plane of a replica is no part of a history; it is the greatest writes of the edits that it took.
use Rattle.std.specs.Prelude.{◌≡◌, ◌≤◌, ◌↔◌, Bool, IsTrue, ℕ, zero, suc, ◌+◌, ◌-◌, List, [], ◌∷◌, ◌++◌, length, Option, Some, None, Result, Ok, Err, slice_get, slice_set, Contains, ◌⊎◌, ⊤}
use Rattle.std.specs.Option.{ok_or}
use Rattle.std.proofs.Math.ListN.{replicate}
use Rattle.square_store.specs.Limits.{usual_room}
use Rattle.generations_rule.specs.Place.{at_place}
use Rattle.generations_rule.specs.Refusal.{◌>>=◌}
use Rattle.generations_rule.specs.Rule.{GenerationsRule}
use Rattle.edit_stamps.specs.Edit.{PlaneEdit, IsEdit, greatest, greatest_counter, has_states_below}
use Rattle.stamped_tree.specs.Plane.{StampedPlane, map_of}
use Rattle.stamped_writes.specs.Write.{AreSame}
use Rattle.replica_events.specs.declared.event.Event.{Event}
use Rattle.replica_events.specs.declared.event.Event.TheVariants.{Draw, SendDelta, SendState, Deliver, Show, Same, Dump, Export, Cut, Count}
use Rattle.replica_core.specs.declared.event.Reply.{Reply}
use Rattle.replica_core.specs.declared.event.Reply.TheVariants as replies
use Rattle.replica_core.specs.declared.event.Stop.{Stop}
use Rattle.replica_core.specs.declared.event.Stop.TheVariants as stops
use Rattle.replica_core.specs.declared.fault.Fault.{Fault}
use Rattle.replica_core.specs.declared.fault.Fault.TheVariants as faults
use Rattle.replica_events.specs.declared.edit_spec.EditSpec.{EditSpec}
use Rattle.delta_exchange.specs.declared.message.Content.{Content}
use Rattle.delta_exchange.specs.declared.message.Content.TheVariants as contents
use Rattle.delta_exchange.specs.Delta.{AreTellable}
use Rattle.delta_exchange.specs.MessageReading.{HasMap}
use Rattle.delta_exchange.specs.Room.{IsMapTooLargeFor}
use Rattle.delta_exchange.specs.Spelling.{delta_text}
use Rattle.delta_exchange.specs.State.{IsTellableMap}
use Rattle.delta_exchange.specs.StateText.{IsStateText}
use Rattle.edit_journal.specs.Journal.{noted}
use Rattle.generation_engine.specs.Universe.{EngineValue, states_in_writes}
use Rattle.export.specs.Export.{IsRoomWanted}
use Rattle.export.specs.Kept.{IsRunOf}
use Rattle.replica_core.specs.declared.event.Question.{Question}
use Rattle.replica_core.specs.declared.event.Question.TheVariants as questions
use Rattle.replica_core.specs.Exporting.{Tells}
use Rattle.replica_core.specs.Exchange.{entries}
use Rattle.replica_core.specs.Replica.{ReplicaState, edit_drawn}
use Rattle.replica_core.specs.Room.{IsFullFor}

-- ---- histories

-- the edits that a replica took, and those that its journal has
pub record ReplicaHistory : Type 0 where
  pub taken : List PlaneEdit
  pub journal : List PlaneEdit

-- a sent message: edits of its sender's journal, or the map of the edits that its sender had taken by then
pub data Sent : Type 0 where
  Delta : List PlaneEdit → Sent
  State : List PlaneEdit → Sent

-- what a world has been through: of replica 1, 2, .. and of message 1, 2, ..
pub record History : Type 0 where
  pub rule : GenerationsRule
  pub replicas : List ReplicaHistory
  pub messages : List Sent

-- a replica that has taken nothing
abbrev pub beginner : ReplicaHistory
beginner = record { taken = []; journal = [] }

-- so many replicas, and no message
abbrev pub opening : GenerationsRule → ℕ → History
opening rule n = record { rule = rule; replicas = replicate n beginner; messages = [] }

-- ---- what an event finds, or the first refusal

-- what stands at a number, counted from 1
abbrev pub numbered : {A : Type 0} → List A → ℕ → Option A
numbered xs zero = None
numbered xs (suc i) = slice_get xs i

-- of so many things one stands at a number, counted from 1
abbrev pub IsThere : ℕ → ℕ → Type 0
IsThere number count = (1 ≤ number) × (number ≤ count)

abbrev pub replica : History → ℕ → Result ReplicaHistory Fault
replica w r = ok_or (numbered w.replicas r) faults.NoReplica

abbrev pub message : History → ℕ → Result Sent Fault
message w m = ok_or (numbered w.messages m) faults.NoMessage

-- a drawn edit stands in both lists
abbrev pub after_drawing : ReplicaHistory → PlaneEdit → ReplicaHistory
after_drawing h e = record { taken = h.taken ++ e ∷ []; journal = h.journal ++ e ∷ [] }

-- the edit that a replica draws, and what it has then: its clock is the greatest counter of the edits that it took
abbrev pub drawn : History → ℕ → EditSpec → Result (PlaneEdit × ReplicaHistory) Fault
drawn w r spec = replica w r >>= (λ h. edit_drawn w.rule (greatest_counter h.taken) r spec >>= (λ e. Ok (e, after_drawing h e)))

-- the named entries of a replica's journal
abbrev pub named_entries : History → ℕ → ℕ → ℕ → Result (List PlaneEdit) Fault
named_entries w r from count = replica w r >>= (λ h. entries h.journal from count)

-- what a replica has after a message; a map adds nothing to its journal
abbrev pub after_message : ReplicaHistory → Sent → ReplicaHistory
after_message h (Delta edits) = record { taken = h.taken ++ edits; journal = noted h.journal edits }
after_message h (State edits) = record { taken = h.taken ++ edits; journal = h.journal }

abbrev pub delivered : History → ℕ → ℕ → Result ReplicaHistory Fault
delivered w m r = message w m >>= (λ sent. replica w r >>= (λ h. Ok (after_message h sent)))

-- ---- the world after an event

abbrev pub with_replica : History → ℕ → ReplicaHistory → History
with_replica w r h = record { rule = w.rule; replicas = slice_set w.replicas (r - 1) h; messages = w.messages }

abbrev pub with_message : History → Sent → History
with_message w sent = record { rule = w.rule; replicas = w.replicas; messages = w.messages ++ sent ∷ [] }

-- what was found changes the world; a refusal leaves it
abbrev pub changed : {A : Type 0} → History → Result A Fault → (A → History) → History
changed w (Ok x) change = change x
changed w (Err fault) change = w

abbrev pub after : History → Event → History
after w (Draw r spec) = changed w (drawn w r spec) (λ d. with_replica w r d.1)
after w (SendDelta r from count) = changed w (named_entries w r from count) (λ edits. with_message w (Delta edits))
after w (SendState r) = changed w (replica w r) (λ h. with_message w (State h.taken))
after w (Deliver m r) = changed w (delivered w m r) (λ h. with_replica w r h)
after w (Show r x y) = w
after w (Same a b) = w
after w (Dump m) = w
after w (Export r g) = w
after w (Cut r window g) = w
after w (Count r g) = w

abbrev pub after_all : History → List Event → History
after_all w [] = w
after_all w (event ∷ events) = after_all (after w event) events

-- ---- replies

-- messages are numbered from 1 as they are sent
abbrev pub next_message : History → ℕ
next_message w = length w.messages + 1

-- the refusal is the reply, or else the reply is as P says of what was found
abbrev pub Given : {A : Type 0} → Result A Fault → Reply → (A → Type 0) → Type 0
Given (Err fault) reply P = reply ≡ replies.Refused fault
Given (Ok x) reply P = P x

-- what two replicas took
abbrev pub both : History → ℕ → ℕ → Result (ReplicaHistory × ReplicaHistory) Fault
both w a b = replica w a >>= (λ h. replica w b >>= (λ k. Ok (h, k)))

-- the reply that tells whether two lists of edits have the same greatest write at every place
abbrev pub TellsSame : List PlaneEdit → List PlaneEdit → Reply → Type 0
TellsSame es fs reply = (same : Bool) × (reply ≡ replies.Same same) × (IsTrue same ↔ AreSame (greatest es) (greatest fs))

-- the bytes of what was sent: the text of the edits, or of the map of the edits
abbrev pub IsTextOfSent : GenerationsRule → Sent → List ℕ → Type 0
IsTextOfSent rule (Delta edits) text = text ≡ delta_text rule edits
IsTextOfSent rule (State edits) text = IsStateText rule (greatest edits) text

-- the reply that tells the bytes of what was sent
abbrev pub TellsBytes : GenerationsRule → Sent → Reply → Type 0
TellsBytes rule sent reply = (text : List ℕ) × (reply ≡ replies.Bytes text) × IsTextOfSent rule sent text

-- the reply that tells what is asked of the greatest writes of edits
abbrev pub TellsOfEdits : GenerationsRule → List PlaneEdit → Question → Reply → Type 0
TellsOfEdits rule taken question reply = Tells rule (states_in_writes (greatest taken)) question reply

-- the reply to a question of what a replica holds
abbrev pub IsReplyToQuestion : History → ℕ → Question → Reply → Type 0
IsReplyToQuestion w r question reply = Given (replica w r) reply (λ h. TellsOfEdits w.rule h.taken question reply)

-- the reply to an event
abbrev pub IsReply : History → Event → Reply → Type 0
IsReply w (Draw r spec) reply = Given (drawn w r spec) reply (λ d. reply ≡ replies.Drawn d.0.stamp)
IsReply w (SendDelta r from count) reply = Given (named_entries w r from count) reply (λ edits. reply ≡ replies.Sent (next_message w))
IsReply w (SendState r) reply = Given (replica w r) reply (λ h. reply ≡ replies.Sent (next_message w))
IsReply w (Deliver m r) reply = Given (delivered w m r) reply (λ h. reply ≡ replies.Taken)
IsReply w (Show r x y) reply = Given (replica w r) reply (λ h. reply ≡ replies.Shown (greatest h.taken (at_place x y)))
IsReply w (Same a b) reply = Given (both w a b) reply (λ hs. TellsSame hs.0.taken hs.1.taken reply)
IsReply w (Dump m) reply = Given (message w m) reply (λ sent. TellsBytes w.rule sent reply)
IsReply w (Export r g) reply = IsReplyToQuestion w r (questions.Export g) reply
IsReply w (Cut r window g) reply = IsReplyToQuestion w r (questions.Cut (record { window = window; generation = g })) reply
IsReply w (Count r g) reply = IsReplyToQuestion w r (questions.Count g) reply

-- the replies to events one after another
abbrev pub AreReplies : History → List Event → List Reply → Type 0
AreReplies w [] [] = ⊤
AreReplies w (event ∷ events) (reply ∷ more) = IsReply w event reply × AreReplies (after w event) events more
AreReplies w [] (reply ∷ more) = ⊥
AreReplies w (event ∷ events) [] = ⊥

-- ---- why a list of events stops

-- a replica's plane, with room for so many squares, became full of what it needs where an edit that it drew was joined
pub record IsDrawFull (nodes : ℕ) (w : History) (number : ℕ) (spec : EditSpec) : Type 0 where
  pub held : ReplicaHistory
  pub there : replica w number ≡ Ok held
  pub edit : PlaneEdit
  pub meant : edit_drawn w.rule (greatest_counter held.taken) number spec ≡ Ok edit
  pub full : IsFullFor nodes held.taken (λ content. content ≡ contents.Edits (edit ∷ []))

-- a content has what was sent
abbrev pub Carries : Sent → Content → Type 0
Carries (Delta edits) content = content ≡ contents.Edits edits
Carries (State edits) content = HasMap content (greatest edits)

-- a map was sent that no plane of 2^26 squares holds
abbrev pub IsTooLargeToRead : Sent → Type 0
IsTooLargeToRead (Delta edits) = ⊥
IsTooLargeToRead (State edits) = IsMapTooLargeFor usual_room (greatest edits)

-- so it became where what was sent was joined; or the plane that a map was read into had no room for it
pub record IsDeliveryFull (nodes : ℕ) (w : History) (number_sent number : ℕ) : Type 0 where
  pub held : ReplicaHistory
  pub there : replica w number ≡ Ok held
  pub sent : Sent
  pub given : message w number_sent ≡ Ok sent
  pub full : IsFullFor nodes held.taken (Carries sent) ⊎ IsTooLargeToRead sent

-- the universe by which a question is answered of what a replica took wants more room than 2^26 squares
pub record IsExportFull (w : History) (number g : ℕ) : Type 0 where
  pub held : ReplicaHistory
  pub there : replica w number ≡ Ok held
  pub plane : StampedPlane
  pub shows : AreSame (map_of plane) (greatest held.taken)
  pub wanted : IsRoomWanted w.rule plane g usual_room

-- at an event there was no room for what it needs, where each replica's plane has room for so many squares
abbrev pub WantsRoom : ℕ → History → Event → Type 0
WantsRoom nodes w (Draw r spec) = IsDrawFull nodes w r spec
WantsRoom nodes w (Deliver m r) = IsDeliveryFull nodes w m r
WantsRoom nodes w (Export r g) = IsExportFull w r g
WantsRoom nodes w (Cut r window g) = IsExportFull w r g
WantsRoom nodes w (Count r g) = IsExportFull w r g
WantsRoom nodes w (SendDelta r from count) = ⊥
WantsRoom nodes w (SendState r) = ⊥
WantsRoom nodes w (Show r x y) = ⊥
WantsRoom nodes w (Same a b) = ⊥
WantsRoom nodes w (Dump m) = ⊥

-- an event may stop the list: any for want of memory, and for want of room one at which there was none
abbrev pub MayStop : ℕ → History → Stop → Event → Type 0
MayStop nodes w stops.Memory event = ⊤
MayStop nodes w stops.StoreFull event = WantsRoom nodes w event

-- all events before one of the list were replied to, and that one may have stopped it
pub record IsStoppedAt (nodes : ℕ) (w : History) (events : List Event) (stop : Stop) : Type 0 where
  pub before : List Event
  pub event : Event
  pub more : List Event
  pub all : events ≡ before ++ event ∷ more
  pub replies : List Reply
  pub replied : AreReplies w before replies
  pub may : MayStop nodes (after_all w before) stop event

-- a list stops at one of its events, or for want of memory
abbrev pub IsStopOf : ℕ → History → List Event → Stop → Type 0
IsStopOf nodes w events stop = IsStoppedAt nodes w events stop ⊎ (stop ≡ stops.Memory)

-- ---- the edits of a history

abbrev pub edits_sent : Sent → List PlaneEdit
edits_sent (Delta edits) = edits
edits_sent (State edits) = edits

abbrev pub IsTaken : History → PlaneEdit → Type 0
IsTaken w e = (r : ℕ) × (h : ReplicaHistory) × (replica w r ≡ Ok h) × Contains h.taken e

abbrev pub IsNoted : History → PlaneEdit → Type 0
IsNoted w e = (r : ℕ) × (h : ReplicaHistory) × (replica w r ≡ Ok h) × Contains h.journal e

abbrev pub IsSent : History → PlaneEdit → Type 0
IsSent w e = (m : ℕ) × (sent : Sent) × (message w m ≡ Ok sent) × Contains (edits_sent sent) e

-- an edit stands somewhere in a history
abbrev pub IsIn : History → PlaneEdit → Type 0
IsIn w e = IsTaken w e ⊎ (IsNoted w e ⊎ IsSent w e)

-- an edit whose states a rule has
pub record IsEditUnder (rule : GenerationsRule) (e : PlaneEdit) : Type 0 where
  pub edit : IsEdit e
  pub states : IsTrue (has_states_below rule.states e)

abbrev pub AreEdits : History → Type 0
AreEdits w = (e : PlaneEdit) → IsIn w e → IsEditUnder w.rule e

-- ---- which worlds of replicas stand for a history

-- what contracts see of a world: its replicas, and the bytes of its messages
pub record WorldState : Type 0 where
  pub rule : GenerationsRule
  pub replicas : List ReplicaState
  pub messages : List (List ℕ)

-- a replica of this rule and number, whose map has at each place the greatest write of the edits that were taken
pub record StandsFor (rule : GenerationsRule) (number : ℕ) (h : ReplicaHistory) (r : ReplicaState) : Type 0 where
  pub same_rule : r.rule ≡ rule
  pub same_number : r.number ≡ number
  pub map : AreSame (map_of r.plane) (greatest h.taken)
  pub journal : r.journal ≡ h.journal

-- a reader under this rule takes what was sent
abbrev pub IsTellable : GenerationsRule → Sent → Type 0
IsTellable rule (Delta edits) = AreTellable rule.states edits
IsTellable rule (State edits) = IsTellableMap rule.states (greatest edits)

-- the bytes of what was sent under this rule, which its readers take
pub record StandsForSent (rule : GenerationsRule) (sent : Sent) (text : List ℕ) : Type 0 where
  pub spelt : IsTextOfSent rule sent text
  pub tellable : IsTellable rule sent

-- the store of each has room for so many squares
abbrev pub HaveRoom : ℕ → List ReplicaState → Type 0
HaveRoom nodes replicas = (i : ℕ) (r : ReplicaState) → slice_get replicas i ≡ Some r → r.plane.store.room ≡ nodes

-- as many, and each stands for the one at its place
pub record StandSideBySide {A B : Type 0} (Stands : ℕ → A → B → Type 0) (xs : List A) (ys : List B) : Type 0 where
  pub as_many : length ys ≡ length xs
  pub each : (i : ℕ) (x : A) (y : B) → slice_get xs i ≡ Some x → slice_get ys i ≡ Some y → Stands (suc i) x y

pub record StandsForWorld (w : History) (state : WorldState) : Type 0 where
  pub rule : state.rule ≡ w.rule
  pub replicas : StandSideBySide (StandsFor w.rule) w.replicas state.replicas
  pub messages : StandSideBySide (λ m. StandsForSent w.rule) w.messages state.messages

-- ---- what a world remembers

-- a text is the state text of a replica's map, which readers under its rule take
pub record IsStateOf (r : ReplicaState) (text : List ℕ) : Type 0 where
  pub spelt : IsStateText r.rule (map_of r.plane) text
  pub tellable : IsTellableMap r.rule.states (map_of r.plane)

-- a message, by its place counted from 0, has the state text of a replica's map
pub record IsStateMessage (r : ReplicaState) (messages : List (List ℕ)) (place : ℕ) : Type 0 where
  pub text : List ℕ
  pub there : slice_get messages place ≡ Some text
  pub state : IsStateOf r text

-- for each replica the place of a message with the state text of its map, or none
pub record AreCurrent (replicas : List ReplicaState) (messages : List (List ℕ)) (current : List (Option ℕ)) : Type 0 where
  pub as_many : length current ≡ length replicas
  pub each : (i place : ℕ) (r : ReplicaState) → slice_get replicas i ≡ Some r → slice_get current i ≡ Some (Some place) → IsStateMessage r messages place

-- a place that is remembered of a replica was remembered before, and what was a state text of its map is one
abbrev pub IsRemembered : ReplicaState → ReplicaState → Option ℕ → Option ℕ → Type 0
IsRemembered was is before now = (place : ℕ) → now ≡ Some place → (before ≡ Some place) × ((text : List ℕ) → IsStateOf was text → IsStateOf is text)

-- ---- the universe of the last question

-- a universe, kept with a place counted from 0, runs the map of the replica there
pub record IsUniverseOf (replicas : List ReplicaState) (place : ℕ) (e : EngineValue) : Type 0 where
  pub held : ReplicaState
  pub there : slice_get replicas place ≡ Some held
  pub run : IsRunOf held.rule (states_in_writes (map_of held.plane)) e
