-- Counters, one for each replica: how they stand for the newest of some edits.
use Rattle.std.specs.Prelude.{◌≡◌, ◌<◌, ◌↔◌, max, ℕ, ◌==◌, if◌then◌else◌, List, [], ◌∷◌, ◌++◌, slice_index}
use Rattle.edit_stamps.specs.Edit.{PlaneEdit}
use Rattle.edit_stamps.specs.Stamp.{counter_in, replica_in}
use Rattle.document_bodies.specs.Newest.{newest_of, MayFollow}

-- the counter of a replica; 0 where none is kept for it
abbrev pub counter_of : List ℕ → ℕ → ℕ
counter_of counters replica = slice_index counters replica

-- what a stamp makes of a replica's counter: the greater, where the stamp is the replica's
abbrev pub newer_by : ℕ → ℕ → ℕ → ℕ
newer_by stamp replica counter = if replica_in stamp == replica then max counter (counter_in stamp) else counter

-- counters after a stamp: at each replica what the stamp makes of its counter
abbrev pub HaveSeen : List ℕ → ℕ → List ℕ → Type 0
HaveSeen counters stamp after = (replica : ℕ) → counter_of after replica ≡ newer_by stamp replica (counter_of counters replica)

-- the counters are the newest of some edits, at each replica
abbrev pub AreNewestOf : List PlaneEdit → List ℕ → Type 0
AreNewestOf edits counters = (replica : ℕ) → counter_of counters replica ≡ newest_of edits replica

-- What ties counters to edits.
pub record AreCounterLaws : Type 0 where
  -- no edit has a counter
  pub none : (replica : ℕ) → newest_of [] replica ≡ 0
  -- an edit behind others does to the newest what its stamp does to a counter
  pub on : (edits : List PlaneEdit) (e : PlaneEdit) (replica : ℕ) → newest_of (edits ++ e ∷ []) replica ≡ newer_by e.stamp replica (newest_of edits replica)
  -- so counters that are the newest of some edits and see a stamp are the newest with its edit
  pub seen : (edits : List PlaneEdit) (e : PlaneEdit) (counters after : List ℕ) → AreNewestOf edits counters → HaveSeen counters e.stamp after → AreNewestOf (edits ++ e ∷ []) after
  -- and an edit may follow just where its counter is above that of its replica
  pub follows : (edits : List PlaneEdit) (e : PlaneEdit) (counters : List ℕ) → AreNewestOf edits counters → MayFollow edits e ↔ (counter_of counters (replica_in e.stamp) < counter_in e.stamp)
