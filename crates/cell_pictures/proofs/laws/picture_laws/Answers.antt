use Rattle.cell_pictures.proofs.BoxLaws.{has_one_box}
use Rattle.cell_pictures.proofs.RunLaws.{has_one_run_list, has_runs}
use Rattle.cell_pictures.proofs.laws.picture_laws.Goals as goal

pub returns : goal.returns
returns c = record { runs = has_runs; only = has_one_run_list; svg = has_one_box }
