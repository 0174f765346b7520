-- What a replica does to the bytes of messages, and they to it.
use Rattle.std.specs.Prelude.{◌≡◌, ◌⊎◌, ℕ, ◌+◌, nat_lt, List, length, take, drop, Result, Ok, Err}
use Rattle.square_store.specs.Limits.{usual_room}
use Rattle.generations_rule.specs.Refusal.{when, unless, ◌>>=◌}
use Rattle.edit_stamps.specs.Edit.{PlaneEdit}
use Rattle.stamped_writes.specs.Write.{Writes}
use Rattle.delta_exchange.specs.declared.fault.ReadFault.{ReadFault}
use Rattle.delta_exchange.specs.declared.message.Content.{Content}
use Rattle.delta_exchange.specs.MessageReading.{Told, HasContentTold, HasMap, MayWantRoom}
use Rattle.delta_exchange.specs.Room.{IsMapTooLargeFor}
use Rattle.delta_exchange.specs.Spelling.{delta_text}
use Rattle.replica_core.specs.declared.fault.Fault.{Fault}
use Rattle.replica_core.specs.declared.fault.Fault.TheVariants as faults
use Rattle.replica_core.specs.Fault.{IsWant, fault_of_read}
use Rattle.replica_core.specs.Replica.{ReplicaState, MeetsWant, Takes}

-- ---- what is taken

-- some content that is as P says is taken whole
abbrev pub TakesSome : ReplicaState → ReplicaState → (Content → Type 0) → Type 0
TakesSome old new P = (content : Content) × P content × Takes old new content

-- a want met as a text is read, which leaves all as it was; room is wanted of a state alone, and not of a short one
pub record MeetsWantReading (old new : ReplicaState) (text : List ℕ) (fault : Fault) : Type 0 where
  pub want : IsWant fault
  pub same : new ≡ old
  pub full : fault ≡ faults.StoreFull → MayWantRoom usual_room text

-- A text is taken as what it means, whole; or a want is met, as it is read, or as what it means is joined; or it is
-- refused by its first fault, which leaves all as it was.
abbrev pub IsTakingText : {A : Type 0} → ReplicaState → ReplicaState → List ℕ → Result Told ReadFault → Result A Fault → Type 0
IsTakingText old new text meant (Ok done) = (told : Told) × (meant ≡ Ok told) × TakesSome old new (λ content. HasContentTold content told)
IsTakingText old new text meant (Err fault) =
    MeetsWantReading old new text fault
    ⊎ (((told : Told) × (meant ≡ Ok told) × MeetsWant old new (λ content. HasContentTold content told) fault)
    ⊎ ((refusal : ReadFault) × (meant ≡ Err refusal) × (fault ≡ fault_of_read refusal) × (new ≡ old)))

-- Some content that is as P says is taken, or a want is met where it is joined.
abbrev pub IsTakingOf : {A : Type 0} → ReplicaState → ReplicaState → (Content → Type 0) → Result A Fault → Type 0
IsTakingOf old new P (Ok done) = TakesSome old new P
IsTakingOf old new P (Err fault) = MeetsWant old new P fault

-- A map is taken, or a want is met: the plane that it is read into may be full too, where none of so much room holds the map,
-- which leaves all as it was.
abbrev pub IsTakingMap : {A : Type 0} → ReplicaState → ReplicaState → Writes → Result A Fault → Type 0
IsTakingMap old new map (Ok done) = TakesSome old new (λ content. HasMap content map)
IsTakingMap old new map (Err fault) =
    MeetsWant old new (λ content. HasMap content map) fault ⊎ ((fault ≡ faults.StoreFull) × (new ≡ old) × IsMapTooLargeFor usual_room map)

-- ---- what is given

-- so many edits of a journal from a place on, or that it has no such entries
abbrev pub entries : List PlaneEdit → ℕ → ℕ → Result (List PlaneEdit) Fault
entries journal from count = unless (when (nat_lt (length journal) (from + count)) faults.NoSuchEdit) (take count (drop from journal))

-- the text of these edits as a delta
abbrev pub delta_given : ReplicaState → ℕ → ℕ → Result (List ℕ) Fault
delta_given r from count = entries r.journal from count >>= (λ edits. Ok (delta_text r.rule edits))
