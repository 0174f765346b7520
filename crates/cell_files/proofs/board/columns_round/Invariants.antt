use Rattle.std.proofs.Common.{◌≡◌, ◌+◌, ◌≤◌, ◌^◌, take}
use Rattle.std.specs.Prelude.{fold, min}
use Rattle.multistate_rle.specs.Reading.{width_of}
use Rattle.cell_files.proofs.board.columns_round.Given as goal

abbrev pub invariant-loop-cell : goal.invariant-loop-cell
invariant-loop-cell l = record {
  least : l.least ≡ fold (λ n cell. min n cell.column) l.first.column (take l.cell-index l.rest);
  past : l.past ≡ width_of (l.first.column + 1) (take l.cell-index l.rest);
  ordered : l.least ≤ l.past;
  within : l.past ≤ 2 ^ 32;
}
