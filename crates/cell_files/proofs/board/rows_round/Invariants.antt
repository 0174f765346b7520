use Rattle.std.proofs.Common.{◌≡◌, ◌+◌, ◌≤◌, ◌^◌, take}
use Rattle.std.specs.Prelude.{fold, min}
use Rattle.multistate_rle.specs.Reading.{height_of}
use Rattle.cell_files.proofs.board.rows_round.Given as goal

abbrev pub invariant-loop-cell : goal.invariant-loop-cell
invariant-loop-cell l = record {
  least : l.least ≡ fold (λ n cell. min n cell.row) l.first.row (take l.cell-index l.rest);
  past : l.past ≡ height_of (l.first.row + 1) (take l.cell-index l.rest);
  ordered : l.least ≤ l.past;
  within : l.past ≤ 2 ^ 32;
}
