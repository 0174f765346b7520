-- Worked values of the definitions of drawing and walking.
use Rattle.std.specs.Prelude.{◌≡◌, ◌^◌, ◌-◌, [], ◌∷◌, Some, pos, negsuc, refl}
use Rattle.edit_stamps.specs.Edit.{PlaneEdit}
use Rattle.stamped_writes.specs.Write.{unwritten}
use Rattle.leaf_merge_lanes.specs.Leaf.{write_of}
use Rattle.stamped_tree.specs.declared.area.Area.{Area}
use Rattle.stamped_tree.specs.declared.cells.ListedCell.{ListedCell}
use Rattle.stamped_tree.specs.Area.{area_grid}
use Rattle.stamped_tree.specs.Drawing.{edit_grid, cells_in}
use Rattle.stamped_tree.specs.Morton.{interleaved, digit_at, listed_in}
use Rattle.stamped_tree.specs.OnPlane.{cell_on_plane, plane_writes}
use Rattle.stamped_tree.specs.Walk.{AreNonzeroCells, cell_of_plane, row_order}

-- ---- areas and cells on a square

-- columns 1 and 2 of rows 0 and 1
abbrev small : Area
small = record { left = 1; right = 3; top = 0; bottom = 2 }

pub last_column : area_grid 65537 small 2 1 ≡ write_of 65537 0
last_column = refl

pub past_the_last_column : area_grid 65537 small 3 1 ≡ unwritten
past_the_last_column = refl

pub past_the_last_row : area_grid 65537 small 1 2 ≡ unwritten
past_the_last_row = refl

abbrev listed_cell : ListedCell
listed_cell = record { column = 9; row = 2; state = 0 }

-- a listed zero is a write, in an area and outside
pub zero_listed : edit_grid 65537 small (listed_cell ∷ []) 9 2 ≡ write_of 65537 0
zero_listed = refl

pub nothing_listed : edit_grid 65537 small (listed_cell ∷ []) 9 3 ≡ unwritten
nothing_listed = refl

-- of two cells in one column and row the first counts
pub first_counts : edit_grid 65537 small (record { column = 2; row = 1; state = 5 } ∷ record { column = 2; row = 1; state = 6 } ∷ []) 2 1 ≡ write_of 65537 5
first_counts = refl

-- the quarter NE of a square of 16 columns
pub moved_to_the_quarter : cells_in (listed_cell ∷ []) 8 0 8 ≡ record { column = 1; row = 2; state = 0 } ∷ []
moved_to_the_quarter = refl

pub not_in_the_quarter : cells_in (listed_cell ∷ []) 0 0 8 ≡ []
not_in_the_quarter = refl

-- ---- Morton codes

-- column 101 and row 011 in binary: 011011
pub a_code : interleaved 31 5 3 ≡ 27
unfolding interleaved
a_code = refl

pub last_place : interleaved 31 (2 ^ 31 - 1) (2 ^ 31 - 1) ≡ 2 ^ 62 - 1
unfolding interleaved
last_place = refl

-- of a square of 4 columns the quarter SW
pub south_west : digit_at 1 (record { column = 5; row = 3; state = 1 }) ≡ 2
south_west = refl

pub from_the_corner_of_its_leaf : listed_in 8 (listed_cell ∷ []) ≡ record { column = 1; row = 2; state = 0 } ∷ []
from_the_corner_of_its_leaf = refl

-- ---- the plane

-- the middle of the plane, and its upper left corner
pub middle_listed : cell_on_plane (record { x = pos 0; y = negsuc (2 ^ 30 - 1); state = 3 }) ≡ record { column = 1073741824; row = 0; state = 3 }
middle_listed = refl

abbrev one_area : PlaneEdit
one_area = record { stamp = 65537; area = Some (record { x = pos 0; y = pos 0; width = 2; height = 1 }); cells = record { x = pos 1; y = pos 0; state = 4 } ∷ [] }

pub covered_by_the_area : plane_writes one_area 1073741824 1073741824 ≡ write_of 65537 0
covered_by_the_area = refl

pub listed_in_the_area : plane_writes one_area 1073741825 1073741824 ≡ write_of 65537 4
listed_in_the_area = refl

pub beside_the_area : plane_writes one_area 1073741826 1073741824 ≡ unwritten
beside_the_area = refl

-- ---- the walk

pub corner_cell : cell_of_plane (record { column = 0; row = 2147483647; state = 1 }) ≡ record { x = negsuc (2 ^ 30 - 1); y = pos (2 ^ 30 - 1); state = 1 }
corner_cell = refl

-- rows go before columns
pub second_row : row_order (record { column = 0; row = 1; state = 1 }) ≡ 2147483648
second_row = refl

pub no_cells : AreNonzeroCells (λ c. unwritten) []
no_cells = record { sorted = refl; nonzero = refl; states = λ c. refl }
