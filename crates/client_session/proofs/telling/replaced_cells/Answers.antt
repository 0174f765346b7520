use Rattle.std.proofs.Common.{subst}
use Rattle.stamped_tree.specs.Plane.{StampedPlane, map_of}
use Rattle.cell_changes.specs.Changes.{Watches}
use Rattle.client_session.proofs.telling.replaced_cells.Goals as goal

pub returns-clause-shows : goal.returns-clause-shows
returns-clause-shows c = record {
  shows = c.in_ok-copy.ensures.shows;
  changes = c.in_ok-cells.ensures (map_of c.args.shown.now)
      (subst (λ (p : StampedPlane). Watches c.in_ok-watched.watched (map_of p) (map_of c.args.plane.now)) c.plane.ensures c.in_ok-watched.ensures.replaced);
}
