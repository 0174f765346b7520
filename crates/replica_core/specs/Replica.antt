-- A replica, and what a draw and a message do to it.
use Rattle.std.specs.Prelude.{◌≡◌, ◌≢◌, ◌⊎◌, IsTrue, ℕ, ◌+◌, ◌^◌, ◌<◌, ◌≤◌, not, nat_lt, List, [], ◌∷◌, ◌++◌, Result, Ok, Err}
use Rattle.std.specs.List.{Contains, IsDistinct}
use Rattle.std.specs.Result.{IsOk}
use Rattle.generations_rule.specs.Place.{Place}
use Rattle.generations_rule.specs.Refusal.{when, unless, ◌>>=◌}
use Rattle.generations_rule.specs.Rule.{GenerationsRule}
use Rattle.edit_stamps.specs.declared.fault.EditFault.{EditFault}
use Rattle.edit_stamps.specs.Edit.{HaveStatesBelow, PlaneEdit, IsEdit, has_states_below, is_edit, writes_of}
use Rattle.edit_stamps.specs.Making.{edit_of_cells}
use Rattle.edit_stamps.specs.Pasting.{edit_of_clear, edit_of_copy, edit_of_or}
use Rattle.edit_stamps.specs.PlaneMap.{HasStampedWrites, HasStatesBelow}
use Rattle.edit_stamps.specs.Stamp.{stamp_of, last_counter}
use Rattle.stamped_writes.specs.Write.{unwritten, Writes, AreSame, IsBelow, joined}
use Rattle.replica_events.specs.declared.edit_spec.EditSpec.{EditSpec}
use Rattle.replica_events.specs.declared.edit_spec.EditSpec.TheVariants.{Cells, Copy, Or, Clear}
use Rattle.replica_core.specs.declared.fault.Fault.{Fault}
use Rattle.replica_core.specs.declared.fault.Fault.TheVariants as faults
use Rattle.delta_exchange.specs.declared.message.Content.{Content}
use Rattle.delta_exchange.specs.declared.message.Content.TheVariants.{Edits}
use Rattle.replica_core.specs.Fault.{IsWant, fault_of_edit}
use Rattle.edit_journal.specs.Journal.{noted}
use Rattle.delta_exchange.specs.Message.{Shared, writes_in, edits_in}
use Rattle.delta_exchange.specs.MessageReading.{HasMap, HasRoom}
use Rattle.stamped_tree.specs.Plane.{StampedPlane, map_of}
use Rattle.replica_core.specs.Room.{IsFullJoining}

-- what contracts see of a replica
pub record ReplicaState : Type 0 where
  pub rule : GenerationsRule
  pub number : ℕ
  pub plane : StampedPlane
  pub journal : List PlaneEdit

-- ---- draws

-- Lamport's rule: one more than the greatest counter, if the clock is not full
abbrev pub stamp_after : ℕ → ℕ → Result ℕ Fault
stamp_after counter replica = unless (when (not (nat_lt counter last_counter)) faults.ClockFull) (stamp_of (counter + 1) replica)

abbrev pub or_edit_fault : Result PlaneEdit EditFault → Result PlaneEdit Fault
or_edit_fault (Ok e) = Ok e
or_edit_fault (Err fault) = Err (fault_of_edit fault)

-- the edit of a specification
abbrev pub made : GenerationsRule → ℕ → EditSpec → Result PlaneEdit EditFault
made r stamp (Cells cells) = edit_of_cells r stamp cells
made r stamp (Copy pattern x y) = edit_of_copy r stamp pattern x y
made r stamp (Or pattern x y) = edit_of_or r stamp pattern x y
made r stamp (Clear area) = edit_of_clear stamp area

-- the edit that a replica draws, whose greatest counter is given
abbrev pub edit_drawn : GenerationsRule → ℕ → ℕ → EditSpec → Result PlaneEdit Fault
edit_drawn r counter replica spec = stamp_after counter replica >>= (λ stamp. or_edit_fault (made r stamp spec))

-- ---- what changes

-- rule and number are as they were, and the room of the store
pub record IsOneReplica (old new : ReplicaState) : Type 0 where
  pub rule : new.rule ≡ old.rule
  pub number : new.number ≡ old.number
  pub room : new.plane.store.room ≡ old.plane.store.room

-- the edit has states of the rule; it is joined, stands in the journal, and wins each cell that it writes
pub record DrawsAs (old new : ReplicaState) (e : PlaneEdit) : Type 0 where
  pub one : IsOneReplica old new
  pub states : IsTrue (has_states_below old.rule.states e)
  pub map : AreSame (map_of new.plane) (joined (map_of old.plane) (writes_of e))
  pub journal : new.journal ≡ old.journal ++ e ∷ []
  pub wins : (c : Place) → 0 < (writes_of e c).stamp → map_of new.plane c ≡ writes_of e c

-- the message's writes are joined, and the journal has its edits
pub record Takes (old new : ReplicaState) (m : Content) : Type 0 where
  pub one : IsOneReplica old new
  pub map : AreSame (map_of new.plane) (joined (map_of old.plane) (writes_in m))
  pub journal : new.journal ≡ noted old.journal (edits_in m)

-- map and journal are as they were; squares that nothing names may have come, or gone
pub record IsUnchanged (old new : ReplicaState) : Type 0 where
  pub one : IsOneReplica old new
  pub map : AreSame (map_of new.plane) (map_of old.plane)
  pub journal : new.journal ≡ old.journal

-- a want, where content is joined that is as P says: map and journal are as they were, and room is wanted only where the plane became
-- full of what it needs
pub record MeetsWant (old new : ReplicaState) (P : Content → Type 0) (fault : Fault) : Type 0 where
  pub want : IsWant fault
  pub unchanged : IsUnchanged old new
  pub full : fault ≡ faults.StoreFull → IsFullJoining old.plane new.plane P

-- ---- what each call answers, and what it leaves

-- a new replica: nothing is written, and no edit noted
pub record IsNew (rule : GenerationsRule) (number nodes : ℕ) (r : ReplicaState) : Type 0 where
  pub same_rule : r.rule ≡ rule
  pub same_number : r.number ≡ number
  pub room : r.plane.store.room ≡ nodes
  pub map : AreSame (map_of r.plane) (λ _. unwritten)
  pub journal : r.journal ≡ []

-- A draw answers the edit that is drawn at the greatest stamp of the map, or its first refusal, which leaves all as it
-- was, or, where nothing is refused, a want, which leaves map and journal as they were.
abbrev pub IsDraw : ReplicaState → ReplicaState → Result PlaneEdit Fault → Result PlaneEdit Fault → Type 0
IsDraw old new meant (Ok e) = (meant ≡ Ok e) × DrawsAs old new e
IsDraw old new meant (Err fault) =
    ((e : PlaneEdit) × (meant ≡ Ok e) × MeetsWant old new (λ content. content ≡ Edits (e ∷ [])) fault) ⊎ ((meant ≡ Err fault) × (new ≡ old))

-- A message is taken whole; one of another rule is refused, which leaves all as it was; nothing else is refused, and
-- only a message of the replica's own rule meets a want, which leaves map and journal as they were.
abbrev pub IsTaking : {A : Type 0} → ReplicaState → ReplicaState → Shared → Result A Fault → Type 0
IsTaking old new m (Ok done) = (m.rule ≡ old.rule) × Takes old new m.content
IsTaking old new m (Err fault) =
    ((m.rule ≡ old.rule) × MeetsWant old new (λ content. content ≡ m.content) fault) ⊎ ((fault ≡ faults.OtherRule) × (m.rule ≢ old.rule) × (new ≡ old))

-- the edit that is meant; or its refusal; or want of memory, where nothing is refused
abbrev pub IsMadeAs : Result PlaneEdit Fault → Result PlaneEdit Fault → Type 0
IsMadeAs meant (Ok e) = meant ≡ Ok e
IsMadeAs meant (Err fault) = (meant ≡ Err fault) ⊎ ((fault ≡ faults.Memory) × IsOk meant)

-- a message of the replica's rule with its map, in a plane of the replica's room, whose states the rule has and whose writes have stamps
pub record IsSnapshot (r : ReplicaState) (m : Shared) : Type 0 where
  pub rule : m.rule ≡ r.rule
  pub map : HasMap m.content (map_of r.plane)
  pub room : HasRoom r.plane.store.room m.content
  pub states : HasStatesBelow m.rule.states (map_of r.plane)
  pub stamped : HasStampedWrites (map_of r.plane)

-- a journal has each edit once, and all that its edits write is in a map
pub record IsJournalOf (p : Writes) (journal : List PlaneEdit) : Type 0 where
  pub once : IsDistinct is_edit journal
  pub edits : (e : PlaneEdit) → Contains journal e → IsEdit e
  pub held : (e : PlaneEdit) → Contains journal e → IsBelow (writes_of e) p

-- which replicas there are
pub record IsReplica (r : ReplicaState) : Type 0 where
  pub number : 1 ≤ r.number
  pub few : r.number < 2 ^ 16
  pub states : HasStatesBelow r.rule.states (map_of r.plane)
  pub journal : IsJournalOf (map_of r.plane) r.journal
  pub noted : HaveStatesBelow r.rule.states r.journal
