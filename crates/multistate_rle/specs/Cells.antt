-- Lists of cells that can be written.
use Rattle.std.specs.Prelude.{ℕ, Bool, List, ◌&&◌}
use Rattle.pattern_cells.specs.Cells.{is_sorted, are_nonzero, are_states_below}
use Rattle.pattern_cells.specs.declared.cell.Cell.{Cell}

-- what can be written under a rule of so many states
abbrev pub may_be_written : ℕ → List Cell → Bool
may_be_written states cells = is_sorted cells && (are_nonzero cells && are_states_below states cells)
