use Rattle.macrocell_text.proofs.NumbersBack.{reads_numbers_back, writes_numbers, writes_rows}
use Rattle.macrocell_text.proofs.RowsBack.{reads_rows_back}
use Rattle.macrocell_text.proofs.laws.line_laws.Goals as goal

pub returns : goal.returns
returns c = record { written_numbers = writes_numbers; numbers = reads_numbers_back; written_rows = writes_rows; rows = reads_rows_back }
