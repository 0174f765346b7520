-- The greatest counters of the replicas in a list of edits.
use Rattle.std.specs.Prelude.{◌≡◌, ◌<◌, ◌≤◌, max, ℕ, ◌==◌, if◌then◌else◌, List, [], ◌∷◌, ◌++◌, fold, Some, slice_get}
use Rattle.edit_stamps.specs.Edit.{PlaneEdit}
use Rattle.edit_stamps.specs.Stamp.{counter_in, replica_in}

-- of some edits, the greatest counter that a replica has; 0 where it has none
abbrev pub newest_of : List PlaneEdit → ℕ → ℕ
newest_of edits replica = fold (λ n e. if replica_in e.stamp == replica then max n (counter_in e.stamp) else n) 0 edits

-- at each replica's edits the counters rise: no two have one stamp
abbrev pub RiseByReplica : List PlaneEdit → Type 0
RiseByReplica edits = (i j : ℕ) (e f : PlaneEdit) → i < j → slice_get edits i ≡ Some e → slice_get edits j ≡ Some f → replica_in e.stamp ≡ replica_in f.stamp → counter_in e.stamp < counter_in f.stamp

-- an edit may stand behind these
abbrev pub MayFollow : List PlaneEdit → PlaneEdit → Type 0
MayFollow edits e = newest_of edits (replica_in e.stamp) < counter_in e.stamp

-- What rising counters obey.
pub record AreNewestLaws : Type 0 where
  pub none : RiseByReplica []
  -- a list whose counters rise goes on so with an edit just where it may follow
  pub on : (edits : List PlaneEdit) (e : PlaneEdit) → RiseByReplica edits → 0 < counter_in e.stamp → MayFollow edits e → RiseByReplica (edits ++ e ∷ [])
  pub back : (edits : List PlaneEdit) (e : PlaneEdit) → 0 < counter_in e.stamp → RiseByReplica (edits ++ e ∷ []) → MayFollow edits e
  -- no two have one stamp
  pub once : (edits : List PlaneEdit) (i j : ℕ) (e f : PlaneEdit) → RiseByReplica edits → slice_get edits i ≡ Some e → slice_get edits j ≡ Some f → e.stamp ≡ f.stamp → i ≡ j
  -- and no counter is above the newest of its replica
  pub most : (edits : List PlaneEdit) (i : ℕ) (e : PlaneEdit) → slice_get edits i ≡ Some e → counter_in e.stamp ≤ newest_of edits (replica_in e.stamp)
