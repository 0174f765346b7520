-- What is drawn, from its quarters.
use Rattle.std.proofs.Common.{◌≡◌, ℕ, ◌+◌, ◌-◌, ◌<◌, ◌==◌, Bool, true, false, List, [], ◌∷◌, refl, arith}
use Rattle.std.specs.Prelude.{◌&&◌, IsTrue, Option, None, Some}
use Rattle.std.proofs.lemmas.Bool.Decides.{nat_tests}
use Rattle.square_store.specs.Grid.{AreSameWithin}
use Rattle.edit_stamps.specs.Edit.{write_by}
use Rattle.edit_stamps.specs.Stamp.{is_stamp}
use Rattle.edit_stamps.specs.PlaneMap.{is_plane_write}
use Rattle.stamped_tree.specs.declared.area.Area.{Area}
use Rattle.stamped_tree.specs.declared.cells.ListedCell.{ListedCell}
use Rattle.stamped_tree.specs.Area.{is_in_area, IsAreaOfPart}
use Rattle.stamped_tree.specs.Drawing.{state_listed, edit_grid, is_cell_in, moved_cell, cells_in}

-- ---- the cells and the area of a part

same_test : (left top side u v : ℕ) (c : ListedCell) → u < side → v < side → is_cell_in left top side c ≡ true → (c.column - left == u && c.row - top == v) ≡ (c.column == left + u && c.row == top + v)
same_test left top side u v c hu hv h = grind (arith, nat_tests, h)

other_test : (left top side u v : ℕ) (c : ListedCell) → u < side → v < side → is_cell_in left top side c ≡ false → (c.column == left + u && c.row == top + v) ≡ false
other_test left top side u v c hu hv h = grind (arith, nat_tests, h)

pub part_listed : (cells : List ListedCell) (left top side u v : ℕ) → u < side → v < side → state_listed (cells_in cells left top side) u v ≡ state_listed cells (left + u) (top + v)
part_listed [] left top side u v hu hv = refl
part_listed (c ∷ cells) left top side u v hu hv = go (part_listed cells left top side u v hu hv) (is_cell_in left top side c) refl
  where
    found : state_listed (cells_in cells left top side) u v ≡ state_listed cells (left + u) (top + v) → (t : Bool) → (c.column == left + u && c.row == top + v) ≡ t → (c.column - left == u && c.row - top == v) ≡ t → state_listed (moved_cell left top c ∷ cells_in cells left top side) u v ≡ state_listed (c ∷ cells) (left + u) (top + v)
    found below true e f = rw (e, f) refl
    found below false e f = rw (e, f) below

    go : state_listed (cells_in cells left top side) u v ≡ state_listed cells (left + u) (top + v) → (t : Bool) → is_cell_in left top side c ≡ t → state_listed (cells_in (c ∷ cells) left top side) u v ≡ state_listed (c ∷ cells) (left + u) (top + v)
    go below true h = rw h (found below (c.column == left + u && c.row == top + v) refl (same_test left top side u v c hu hv h))
    go below false h = rw (h, other_test left top side u v c hu hv h) below

-- the writes of an edit on a part
pub part_writes : (stamp : ℕ) (a x : Area) (cells : List ListedCell) (left top side : ℕ) → IsAreaOfPart a left top side x → AreSameWithin side (edit_grid stamp x (cells_in cells left top side)) (λ u v. edit_grid stamp a cells (left + u) (top + v))
part_writes stamp a x cells left top side part u v hu hv = rw (part_listed cells left top side u v hu hv, part u v hu hv) refl

-- ---- writes that a plane may have

pub stamped_write : (stamp state : ℕ) → IsTrue (is_stamp stamp) → IsTrue (is_plane_write (record { stamp = stamp; state = state }))
stamped_write stamp state h = rw h refl

pub edit_writes : (stamp : ℕ) (a : Area) (cells : List ListedCell) (u v : ℕ) → IsTrue (is_stamp stamp) → IsTrue (is_plane_write (edit_grid stamp a cells u v))
edit_writes stamp a cells u v h = go (state_listed cells u v) (is_in_area a u v)
  where
    go : (state : Option ℕ) (covered : Bool) → IsTrue (is_plane_write (write_by stamp state covered))
    go (Some state) covered = stamped_write stamp state h
    go None true = stamped_write stamp 0 h
    go None false = refl
