-- A plane, and what is joined into it.
use Rattle.std.specs.Prelude.{◌≡◌, ℕ}
use Rattle.edit_stamps.specs.Edit.{greatest}
use Rattle.stamped_writes.specs.Write.{Writes, AreSame, joined}
use Rattle.stamped_tree.specs.Plane.{StampedPlane, IsPart, map_of, rooted}
use Rattle.held_plane.specs.declared.added.Added.{Added}
use Rattle.held_plane.specs.declared.added.Added.TheVariants.{Edits, Map}

-- what is to be joined writes at each place
abbrev pub added_writes : Added → Writes
added_writes (Edits edits) = greatest edits.now
added_writes (Map plane) = map_of plane.now

-- room and map are as they were
pub record IsAsBefore (old new : StampedPlane) : Type 0 where
  pub room : new.store.room ≡ old.store.room
  pub map : AreSame (map_of new) (map_of old)

-- a square of level 31 that, were it the root, would have some writes joined into the map
pub record IsJoinedAt (old new : StampedPlane) (added : Writes) (part : ℕ) : Type 0 where
  pub stands : IsPart new.store 31 part
  pub joins : AreSame (map_of (rooted new part)) (joined (map_of old) added)
