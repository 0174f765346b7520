use Rattle.macrocell_text.proofs.LiveLaws.{finds_all_live_cells, finds_only_live_cells}
use Rattle.macrocell_text.proofs.SquaresRead.{tells_squares}
use Rattle.macrocell_text.proofs.laws.cell_laws.Goals as goal

pub returns : goal.returns
returns c = record { squares = tells_squares; only = finds_only_live_cells; all = finds_all_live_cells }
