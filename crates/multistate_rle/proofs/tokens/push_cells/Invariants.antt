use Rattle.std.proofs.Common.{◌≡◌, ◌≤◌, ◌+◌, ◌++◌, ◌-◌}
use Rattle.std.specs.Prelude.{vec_len, vec_capacity}
use Rattle.multistate_rle.specs.Tokens.{cells_in_row}
use Rattle.multistate_rle.proofs.tokens.push_cells.Given as goal

abbrev pub invariant-loop-at : goal.invariant-loop-at
invariant-loop-at l = record {
  drawn : l.cells.items ++ cells_in_row (l.at-end - l.at) l.state l.at l.row ≡ l.fn.cells.items ++ cells_in_row l.count l.state l.column l.row;
  room : vec_len l.cells + (l.at-end - l.at) ≤ vec_capacity l.cells;
}
