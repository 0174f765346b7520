-- What an edit feeds a hasher.
use Rattle.std.specs.Prelude.{ℕ, ◌+◌, ◌*◌, ◌^◌, ◌++◌}
use Rattle.std.specs.Hash as fed
use Rattle.std.specs.Int.{cast_unsigned, w32}
use Rattle.std.specs.Hash.{HashWrites}
use Rattle.pattern_cells.specs.declared.cell.Cell.{Cell}
use Rattle.edit_stamps.specs.declared.rect.Rect.{Rect}
use Rattle.edit_stamps.specs.Edit.{PlaneEdit}

-- column and row, each with its sign as a number of 32 bits, and the state above them
abbrev pub number_of_cell : Cell → ℕ
number_of_cell c = c.state * 2 ^ 64 + cast_unsigned w32 c.y * 2 ^ 32 + cast_unsigned w32 c.x

-- a coordinate and the state there
abbrev pub fed_of_cell : Cell → HashWrites
fed_of_cell c = fed.u128 (number_of_cell c)

-- a corner and the sides
abbrev pub fed_of_rect : Rect → HashWrites
fed_of_rect r = fed.i64 r.x ++ fed.i64 r.y ++ fed.u64 r.width ++ fed.u64 r.height

-- the stamp, the area or that there is none, how many cells are listed, and each of them in order
abbrev pub fed_of_edit : PlaneEdit → HashWrites
fed_of_edit e = fed.u64 e.stamp ++ fed.option fed_of_rect e.area ++ fed.slice fed_of_cell e.cells
