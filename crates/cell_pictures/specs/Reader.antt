-- The cells from a place on.
use Rattle.std.specs.Prelude.{ℕ, List, [], ◌∷◌, drop, if◌then◌else◌}
use Rattle.std.specs.List.{prefix_len}
use Rattle.generations_rule.specs.Place.{Place, is_before, is_place}
use Rattle.pattern_cells.specs.declared.cell.Cell.{Cell}
use Rattle.pattern_cells.specs.Cells.{place_of}

-- how many cells in front stand before a place
abbrev pub passed : Place → List Cell → ℕ
passed c cells = prefix_len (λ cell. is_before (place_of cell) c) cells

-- cells without those in front that stand before a place
abbrev pub from_place : Place → List Cell → List Cell
from_place c cells = drop (passed c cells) cells

-- the state of the first cell, if it stands at a place
abbrev pub first_state : Place → List Cell → ℕ
first_state c [] = 0
first_state c (cell ∷ cells) = if is_place (place_of cell) c then cell.state else 0
