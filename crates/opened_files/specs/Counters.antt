-- Counters for all edits that some cells need.
use Rattle.std.specs.Prelude.{ℕ, ◌+◌, ◌/◌, ◌%◌, ◌==◌, max, nat_le, if◌then◌else◌, Bool, List, length}
use Rattle.pattern_cells.specs.declared.cell.Cell.{Cell}
use Rattle.edit_stamps.specs.Edit.{most_cells}
use Rattle.edit_stamps.specs.Stamp.{counter_in, last_counter}

-- as many edits as have at most 2^20 cells each
abbrev pub edits_for : ℕ → ℕ
edits_for cells = cells / most_cells + (if cells % most_cells == 0 then 0 else 1)

-- counters are left for all edits, above a given one and above those of a plane of this greatest stamp
abbrev pub suffice : ℕ → ℕ → List Cell → Bool
suffice counter stamp cells = nat_le (max counter (counter_in stamp) + edits_for (length cells)) last_counter
