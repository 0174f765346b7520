-- An edit, by the columns and rows of the plane.
use Rattle.std.proofs.Common.{◌≡◌, ℕ, ◌+◌, ◌%◌, ◌<◌, ◌==◌, Bool, true, false, List, [], ◌∷◌, map, inl, inr, refl, ap, ◌∙◌, ◌<◌, arith, ℤ, pos, ◌+ℤ◌}
use Rattle.std.specs.Prelude.{◌&&◌, IsTrue, IfSome, Option, None, Some, int_le, int_lt, nat_le, nat_lt}
use Rattle.std.specs.List.{list_all}
use Rattle.std.specs.List.Sorted.{IsStableByKey}
use Rattle.std.specs.Ordering.{nat_cmp}
use Rattle.std.proofs.lemmas.Bool.{cases_Bool, and_parts}
use Rattle.std.proofs.lemmas.Int.{ints}
use Rattle.std.proofs.lemmas.Bool.Decides.{nat_tests}
use Rattle.generations_rule.specs.Place.{Place, moved, is_place}
use Rattle.pattern_cells.specs.Cells.{place_of}
use Rattle.pattern_cells.specs.declared.cell.Cell.{Cell}
use Rattle.edit_stamps.specs.declared.rect.Rect.{Rect}
use Rattle.edit_stamps.specs.Edit.{PlaneEdit, IsEdit, listed, is_covered, fits_area, writes_of}
use Rattle.edit_stamps.specs.Plane.{least, past, is_in, is_in_plane, is_coordinate_in_plane, is_area_in_plane}
use Rattle.edit_stamps.specs.PlaneMap.{LiesInPlane}
use Rattle.square_store.specs.Grid.{AreSameWithin}
use Rattle.stamped_tree.specs.declared.area.Area.{Area}
use Rattle.stamped_tree.specs.declared.cells.ListedCell.{ListedCell}
use Rattle.stamped_tree.specs.Area.{is_in_area}
use Rattle.stamped_tree.specs.Drawing.{state_listed, edit_grid}
use Rattle.stamped_tree.specs.Morton.{code_of, listed_in}
use Rattle.stamped_tree.specs.OnPlane.{cell_on_plane, plane_writes}
use Rattle.stamped_tree.specs.Plane.{from_edge}
use Rattle.stamped_tree.specs.Tree.{plane_corner}
use Rattle.stamped_tree.proofs.Morton.{states_stay}

-- ---- areas

from_start : (x : ℤ) (u : ℕ) → is_coordinate_in_plane x ≡ true → int_le x (least +ℤ pos u) ≡ nat_le (from_edge x) u
from_start x u h = grind (arith, ints, nat_tests, h)

to_end : (x : ℤ) (n u : ℕ) → is_coordinate_in_plane x ≡ true → int_lt (least +ℤ pos u) (x +ℤ pos n) ≡ nat_lt u (from_edge x + n)
to_end x n u h = grind (arith, ints, nat_tests, h)

regrouped : (a b c d : Bool) → ((a && b) && (c && d)) ≡ (a && b && c && d)
regrouped true b c d = grind arith
regrouped false b c d = refl

pub rect_columns : (r : Rect) (u v : ℕ) → is_area_in_plane r ≡ true
    → is_in_area (record { left = from_edge r.x; right = from_edge r.x + r.width; top = from_edge r.y; bottom = from_edge r.y + r.height }) u v ≡ is_in r (moved plane_corner (pos u) (pos v))
rect_columns r u v h =
    let x : is_coordinate_in_plane r.x ≡ true = grind (arith, h) in
    let y : is_coordinate_in_plane r.y ≡ true = grind (arith, h) in
    rw (← from_start r.x u x, ← to_end r.x r.width u x, ← from_start r.y v y, ← to_end r.y r.height v y) (regrouped (int_le r.x (least +ℤ pos u)) (int_lt (least +ℤ pos u) (r.x +ℤ pos r.width)) (int_le r.y (least +ℤ pos v)) (int_lt (least +ℤ pos v) (r.y +ℤ pos r.height)))

-- the area of an edit lies in the plane
pub area_inside : (e : PlaneEdit) → IsEdit e → IfSome e.area (λ r. IsTrue (is_area_in_plane r))
area_inside e is = go e.area is.area
  where
    go : (area : Option Rect) → IsTrue (fits_area area e.cells) → IfSome area (λ r. IsTrue (is_area_in_plane r))
    go None h = tt
    go (Some r) h = grind (arith, h)

-- ---- cells

here : (c : Cell) (u v : ℕ) → is_in_plane (place_of c) ≡ true → is_place (place_of c) (moved plane_corner (pos u) (pos v)) ≡ (from_edge c.x == u && from_edge c.y == v)
here c u v h = grind (arith, ints, nat_tests, h)

pub cells_listed : (cells : List Cell) (u v : ℕ) → list_all (λ cell. is_in_plane (place_of cell)) cells ≡ true → state_listed (map cell_on_plane cells) u v ≡ listed cells (moved plane_corner (pos u) (pos v))
cells_listed [] u v h = refl
cells_listed (c ∷ cells) u v h =
    let first : is_in_plane (place_of c) ≡ true = grind (arith, h) in
    let others : list_all (λ cell. is_in_plane (place_of cell)) cells ≡ true = grind (arith, h) in
    let below = cells_listed cells u v others in
    let same = here c u v first in
    elim (cases_Bool (from_edge c.x == u && from_edge c.y == v)) [
      | inl t ↦ rw (same, t) refl
      | inr f ↦ rw (same, f) below
    ]

coordinate_is : (n : ℤ) → is_coordinate_in_plane n ≡ true → (least +ℤ pos (from_edge n) ≡ n) × (from_edge n < 2147483648)
coordinate_is n h =
    let parts : (int_le least n ≡ true) × (int_lt n past ≡ true) = and_parts _ _ h in
    (omega (arith, ints, parts.0), omega (arith, ints, parts.0, parts.1))

-- cells of the plane are in its square
in_plane_listed : (cells : List Cell) → list_all (λ cell. is_in_plane (place_of cell)) cells ≡ true → listed_in 2147483648 (map cell_on_plane cells) ≡ map cell_on_plane cells
in_plane_listed [] h = refl
in_plane_listed (c ∷ cells) h =
    let first : is_in_plane (place_of c) ≡ true = grind (arith, h) in
    let others : list_all (λ cell. is_in_plane (place_of cell)) cells ≡ true = grind (arith, h) in
    let parts : (is_coordinate_in_plane c.x ≡ true) × (is_coordinate_in_plane c.y ≡ true) = and_parts _ _ first in
    let x = (coordinate_is c.x parts.0).1 in
    let y = (coordinate_is c.y parts.1).1 in
    let u : from_edge c.x % 2147483648 ≡ from_edge c.x = omega (arith, x) in
    let v : from_edge c.y % 2147483648 ≡ from_edge c.y = omega (arith, y) in
    rw (u, v) (ap (λ l. cell_on_plane c ∷ l) (in_plane_listed cells others))

-- ---- the edit

pub edit_on_plane : (e : PlaneEdit) (stamp : ℕ) (area : Option Rect) (a : Area) (cells : List Cell) (listed sorted : List ListedCell) → IsEdit e → stamp ≡ e.stamp → area ≡ e.area → cells ≡ e.cells → listed ≡ map cell_on_plane cells → IsStableByKey code_of nat_cmp listed sorted
    → ((u v : ℕ) → u < 2147483648 → v < 2147483648 → is_in_area a u v ≡ is_covered area (moved plane_corner (pos u) (pos v)))
    → AreSameWithin 2147483648 (edit_grid stamp a (listed_in 2147483648 sorted)) (plane_writes e)
edit_on_plane e stamp area a cells listed sorted is same_stamp same_area same_cells same_listed stable covered u v hu hv =
    rw (states_stay listed sorted u v hu hv stable, same_listed, same_cells, in_plane_listed e.cells is.in_plane, cells_listed e.cells u v is.in_plane, covered u v hu hv, same_area, same_stamp) refl

-- ---- outside the plane

not_in : (r : Rect) (at : Place) → is_area_in_plane r ≡ true → is_in_plane at ≡ false → is_in r at ≡ false
not_in r at h out = grind (arith, ints, nat_tests, h, out)

not_covered : (e : PlaneEdit) (at : Place) → IsEdit e → is_in_plane at ≡ false → is_covered e.area at ≡ false
not_covered e at is out = go e.area (area_inside e is)
  where
    go : (area : Option Rect) → IfSome area (λ r. IsTrue (is_area_in_plane r)) → is_covered area at ≡ false
    go None h = refl
    go (Some r) h = not_in r at h out

other_place : (c : Cell) (at : Place) → is_in_plane (place_of c) ≡ true → is_in_plane at ≡ false → is_place (place_of c) at ≡ false
other_place c at h out = grind (arith, ints, nat_tests, h, out)

not_listed : (cells : List Cell) (at : Place) → list_all (λ cell. is_in_plane (place_of cell)) cells ≡ true → is_in_plane at ≡ false → listed cells at ≡ None
not_listed [] at h out = refl
not_listed (c ∷ cells) at h out =
    let first : is_in_plane (place_of c) ≡ true = grind (arith, h) in
    let others : list_all (λ cell. is_in_plane (place_of cell)) cells ≡ true = grind (arith, h) in
    rw (other_place c at first out) (not_listed cells at others out)

pub edit_inside : (e : PlaneEdit) → IsEdit e → LiesInPlane (writes_of e)
edit_inside e is at out = rw (not_listed e.cells at is.in_plane out, not_covered e at is out) refl

-- ---- places by their columns and rows

-- a place of the plane, by its column and row
pub placed : (at : Place) → is_in_plane at ≡ true → (moved plane_corner (pos (from_edge at.x)) (pos (from_edge at.y)) ≡ at) × (from_edge at.x < 2147483648) × (from_edge at.y < 2147483648)
placed at inside =
    let parts : (is_coordinate_in_plane at.x ≡ true) × (is_coordinate_in_plane at.y ≡ true) = and_parts _ _ inside in
    let x = coordinate_is at.x parts.0 in
    let y = coordinate_is at.y parts.1 in
    (ap (λ (z : ℤ). record { x = z; y = least +ℤ pos (from_edge at.y) }) x.0 ∙ ap (λ (z : ℤ). record { x = at.x; y = z }) y.0, x.1, y.1)
