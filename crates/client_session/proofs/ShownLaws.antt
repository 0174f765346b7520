-- What changes in a map that was told.
use Rattle.std.proofs.Common.{◌≡◌, List, sym, subst}
use Rattle.pattern_cells.specs.declared.cell.Cell.{Cell}
use Rattle.stamped_writes.specs.Write.{Writes, AreSame, joined}
use Rattle.edit_stamps.specs.Edit.{PlaneEdit, greatest}
use Rattle.stamped_tree.specs.Plane.{StampedPlane, map_of}
use Rattle.cell_changes.specs.Changes.{AreChanges, Watches, WatchesJoin}
use Rattle.client_session.specs.Telling.{ShowsEdits}

-- cells that are found among those that were watched before a join are what it changes
pub shown_by : (edits : List PlaneEdit) (before after seen then : StampedPlane) (watched cells : List Cell) → seen ≡ before → then ≡ after
    → WatchesJoin watched (map_of seen) (greatest edits) → AreSame (map_of after) (joined (map_of before) (greatest edits)) → after.store.room ≡ before.store.room
    → ((old : Writes) → Watches watched old (map_of then) → AreChanges old (map_of then) cells) → ShowsEdits edits before after cells
shown_by edits before after seen then watched cells first last watches joins room found = record {
  joins = joins;
  room = room;
  changes = subst (λ p. AreChanges (map_of before) (map_of p) cells) last
      (found (map_of before)
      (subst (λ p. Watches watched (map_of before) (map_of p)) (sym last)
      (subst (λ p. WatchesJoin watched (map_of p) (greatest edits)) first watches (map_of after) joins)));
}
