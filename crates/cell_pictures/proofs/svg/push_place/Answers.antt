use Rattle.cell_pictures.proofs.PathLaws.{takes_next}
use Rattle.cell_pictures.proofs.svg.push_place.Goals as goal

pub returns-clause-taken : goal.returns-clause-taken
returns-clause-taken g c = rw (c.in-Some.is, c.of_cell-2.ensures) (takes_next _ _ _ _ _ _ c.in_default-extended.ensures c.in_ok-push_run.ensures)
