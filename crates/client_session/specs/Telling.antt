-- What is told of edits and planes that came.
use Rattle.std.specs.Prelude.{◌≡◌, ◌≢◌, ℕ, if◌then◌else◌, List, [], ◌++◌, length, drop, Option, Some, None, Result, Ok, Err}
use Rattle.square_store.specs.Limits.{usual_room}
use Rattle.pattern_cells.specs.declared.cell.Cell.{Cell}
use Rattle.stamped_writes.specs.Write.{Writes, AreSame, joined, unwritten}
use Rattle.edit_stamps.specs.Edit.{PlaneEdit, greatest}
use Rattle.square_store.specs.declared.fault.StoreFault.{StoreFault}
use Rattle.square_store.specs.declared.fault.StoreFault.TheVariants as stores
use Rattle.stamped_tree.specs.Plane.{StampedPlane, map_of}
use Rattle.held_plane.specs.declared.added.Added.{Added}
use Rattle.held_plane.specs.declared.added.Added.TheVariants as added
use Rattle.held_plane.specs.Held.{IsAsBefore}
use Rattle.held_plane.specs.Wanted.{IsFullOfNeeds}
use Rattle.cell_changes.specs.Changes.{AreChanges}
use Rattle.genedit_lib.specs.EditLines.{edit_lines}
use Rattle.client_session.specs.Lines.{now_line, replaced_lines, whole_line}
use Rattle.client_session.specs.declared.fault.CommandFault.{CommandFault}
use Rattle.client_session.specs.declared.fault.CommandFault.TheVariants as faults
use Rattle.client_session.specs.declared.workspace.Workspace.{Workspace}
use Rattle.client_session.specs.Moment.{IsCutShort, IsWant}
use Rattle.board_client.specs.declared.polling.Polling.{Polling}
use Rattle.board_client.specs.declared.polling.Polling.TheVariants.{Edits, Whole, Refused}

-- edits are joined into the map that was told, whose room stays, and these are the cells whose state is another one then
pub record ShowsEdits (edits : List PlaneEdit) (before after : StampedPlane) (cells : List Cell) : Type 0 where
  pub joins : AreSame (map_of after) (joined (map_of before) (greatest edits))
  pub room : after.store.room ≡ before.store.room
  pub changes : AreChanges (map_of before) (map_of after) cells

-- those cells are told, in at most one line
pub record TellsChanges (edits : List PlaneEdit) (before after : StampedPlane) (out out' : List ℕ) : Type 0 where
  pub cells : List Cell
  pub shows : ShowsEdits edits before after cells
  pub told : out' ≡ out ++ now_line cells

-- the same, where a map is told; else these lines
abbrev pub TellsCame : List ℕ → List PlaneEdit → Option StampedPlane → Option StampedPlane → List ℕ → List ℕ → Type 0
TellsCame lines edits None None out out' = out' ≡ out ++ lines
TellsCame lines edits (Some before) (Some after) out out' = TellsChanges edits before after out out'
TellsCame lines edits _ _ out out' = ⊥

-- a plane shows this map, and has room for 2^26 squares
pub record ShowsMap (map : Writes) (shown : StampedPlane) : Type 0 where
  pub shows : AreSame (map_of shown) map
  pub room : shown.store.room ≡ usual_room

-- the map that is told is a plane's from now on, and these are the cells whose state is another one there than in the map that was told
pub record ShowsPlane (plane before after : StampedPlane) (cells : List Cell) : Type 0 where
  pub shows : ShowsMap (map_of plane) after
  pub changes : AreChanges (map_of before) (map_of plane) cells

-- the same, where a map is told; else there are no such cells
abbrev pub ShowsAll : StampedPlane → Option StampedPlane → Option StampedPlane → List Cell → Type 0
ShowsAll plane None None cells = cells ≡ []
ShowsAll plane (Some before) (Some after) cells = ShowsPlane plane before after cells
ShowsAll plane _ _ cells = ⊥

-- the lines of edits behind so many of the journal; by a client that is quiet none
abbrev pub came_lines : ℕ → Workspace → List ℕ
came_lines known s = if s.quiet then [] else edit_lines (drop known s.replica.journal)

-- edits behind so many of the journal are told, each in a line, or what they change
pub record TellsBehind (known : ℕ) (old new : Workspace) (out out' : List ℕ) : Type 0 where
  pub told : TellsCame (came_lines known old) (drop known old.replica.journal) old.shown new.shown out out'
  pub kept : new ≡ record old { shown = new.shown }

-- that a whole plane came is told, and behind it, where a map is told, what looks different; the count of edits starts anew
pub record TellsWhole (old new : Workspace) (out out' : List ℕ) : Type 0 where
  pub cells : List Cell
  pub shows : ShowsAll old.replica.plane old.shown new.shown cells
  pub told : out' ≡ out ++ whole_line ++ replaced_lines cells
  pub kept : new ≡ record old { shown = new.shown; counted = length old.replica.journal }

-- what is told of a poll, by a client whose replica took what came behind so many edits of its journal; of a refusal nothing
abbrev pub TellsPoll : Polling → ℕ → Workspace → Workspace → List ℕ → List ℕ → Type 0
TellsPoll (Edits count) known old new out out' = TellsBehind known old new out out'
TellsPoll Whole known old new out out' = TellsWhole old new out out'
TellsPoll (Refused number) known old new out out' = (new ≡ old) × (out' ≡ out)

-- ---- where room is wanting for that

-- a plane's want, as the client's
abbrev pub want_of : StoreFault → CommandFault
want_of stores.Memory = faults.Memory
want_of stores.StoreFull = faults.StoreFull

-- these edits are what is joined into a plane
abbrev pub AreEditsAdded : List PlaneEdit → Added → Type 0
AreEditsAdded edits (added.Edits joining) = joining.now ≡ edits
AreEditsAdded edits (added.Map joining) = ⊥

-- the map of this plane is what is joined into another
abbrev pub IsMapAdded : StampedPlane → Added → Type 0
IsMapAdded plane (added.Edits joining) = ⊥
IsMapAdded plane (added.Map joining) = joining.now ≡ plane

-- what is joined into a plane finds no room there: its map stays, and it is full of what it needs for that
pub record FindsNoRoom (IsJoining : Added → Type 0) (before after : StampedPlane) : Type 0 where
  pub joining : Added
  pub is : IsJoining joining
  pub kept : IsAsBefore before after
  pub full : IsFullOfNeeds before after joining

-- edits find none in the map that is told, and nothing is printed
pub record ChangesFindNoRoom (edits : List PlaneEdit) (before after : StampedPlane) (out out' : List ℕ) : Type 0 where
  pub full : FindsNoRoom (AreEditsAdded edits) before after
  pub told : out' ≡ out

-- the same, where a map is told; else no room is wanted
abbrev pub CameFindsNoRoom : List PlaneEdit → Option StampedPlane → Option StampedPlane → List ℕ → List ℕ → Type 0
CameFindsNoRoom edits (Some before) (Some after) out out' = ChangesFindNoRoom edits before after out out'
CameFindsNoRoom edits _ _ out out' = ⊥

-- a map finds none in a plane where nothing was written, with room for 2^26 squares
pub record MapFindsNoRoom (plane : StampedPlane) : Type 0 where
  pub before : StampedPlane
  pub after : StampedPlane
  pub blank : ShowsMap (λ _. unwritten) before
  pub full : FindsNoRoom (IsMapAdded plane) before after

-- the same, where a map is told; else no room is wanted
abbrev pub AllFindsNoRoom : StampedPlane → Option StampedPlane → Type 0
AllFindsNoRoom plane None = ⊥
AllFindsNoRoom plane (Some shown) = MapFindsNoRoom plane

-- a whole plane came whose map finds none, and nothing is told
pub record WholeFindsNoRoom (old new : Workspace) (out out' : List ℕ) : Type 0 where
  pub full : AllFindsNoRoom old.replica.plane old.shown
  pub kept : new ≡ old
  pub told : out' ≡ out

-- what a poll brought finds none, by a client whose replica took what came behind so many edits of its journal
abbrev pub PollFindsNoRoom : Polling → ℕ → Workspace → Workspace → List ℕ → List ℕ → Type 0
PollFindsNoRoom (Edits count) known old new out out' = CameFindsNoRoom (drop known old.replica.journal) old.shown new.shown out out'
PollFindsNoRoom Whole known old new out out' = WholeFindsNoRoom old new out out'
PollFindsNoRoom (Refused number) known old new out out' = ⊥

-- ---- all of it

-- it is told; a refusal by 21 ends the client, as does a want of memory, or of room for the map that is told
abbrev pub IsPollingTold : {A : Type 0} → Polling → ℕ → Workspace → Workspace → List ℕ → List ℕ → Result A CommandFault → Type 0
IsPollingTold polling known old new out out' (Ok done) = (polling ≢ Refused 21) × TellsPoll polling known old new out out'
IsPollingTold polling known old new out out' (Err (faults.Refused number)) = (number ≡ 21) × (polling ≡ Refused 21) × (new ≡ old) × (out' ≡ out)
IsPollingTold polling known old new out out' (Err fault) = IsWant (PollFindsNoRoom polling known old new out out') fault × IsCutShort old new out out'
