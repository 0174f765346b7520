use Rattle.client_session.proofs.ShownLaws.{shown_by}
use Rattle.client_session.proofs.telling.changed_cells.Goals as goal

pub returns-clause-shows : goal.returns-clause-shows
returns-clause-shows c = shown_by _ _ _ _ _ _ _ c.plane.ensures c.plane-2.ensures c.in_ok-watched.ensures c.in-Ok.ensures.ok c.join.ensures.room c.in_ok-cells.ensures
