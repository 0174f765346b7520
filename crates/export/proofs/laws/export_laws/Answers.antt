use Rattle.export.proofs.AskingLaws.{has_one_count}
use Rattle.export.proofs.CountLaws.{counts_cells}
use Rattle.export.proofs.ExportLaws.{cuts_everything, has_one_cut, has_one_export}
use Rattle.export.proofs.laws.export_laws.Goals as goal

pub returns-clause-one : goal.returns-clause-one
returns-clause-one c = has_one_export

pub returns-clause-one_cut : goal.returns-clause-one_cut
returns-clause-one_cut c = has_one_cut

pub returns-clause-one_count : goal.returns-clause-one_count
returns-clause-one_count c = has_one_count

pub returns-clause-everything : goal.returns-clause-everything
returns-clause-everything c = cuts_everything

pub returns-clause-counts : goal.returns-clause-counts
returns-clause-counts c = counts_cells
