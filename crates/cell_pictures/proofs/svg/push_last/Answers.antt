use Rattle.cell_pictures.proofs.DrawnLaws.{last_push}
use Rattle.cell_pictures.proofs.svg.push_last.Goals as goal

pub returns-in_ok-push_run-in-Some : goal.returns-in_ok-push_run-in-Some
returns-in_ok-push_run-in-Some g c = rw c.in-Some.is (last_push c.in_ok-push_run-in-Some.ensures c.push_all.ensures)
