-- The sorted list of a map's cells.
use Rattle.std.proofs.Common.{◌≡◌, ℕ, ◌<◌, ◌⊎◌, ◌+◌, ◌*◌, ◌≤◌, true, List, [], ◌++◌, drop, map, inl, inr, refl, sym, ap, ◌∙◌, subst, arith}
use Rattle.std.specs.Prelude.{ℤ, Bool, false, if◌then◌else◌}
use Rattle.std.proofs.lemmas.Bool.{cases_Bool, cases_lt}
use Rattle.std.proofs.lemmas.Bool.Decides.{nat_tests}
use Rattle.std.proofs.lemmas.Int.{ints}
use Rattle.generations_rule.specs.Place.{Place}
use Rattle.pattern_cells.specs.declared.cell.Cell.{Cell}
use Rattle.stamped_writes.specs.declared.write.Write.{Write}
use Rattle.stamped_writes.specs.Write.{unwritten}
use Rattle.edit_stamps.specs.Plane.{is_in_plane}
use Rattle.square_store.specs.Grid.{Grid}
use Rattle.square_store.specs.Squares.{Held, grid_at}
use Rattle.stamped_tree.specs.declared.leaf_kind.PlaneLeaf.{PlaneLeaf}
use Rattle.stamped_tree.specs.declared.cells.ListedCell.{ListedCell}
use Rattle.stamped_tree.specs.declared.walk.BandSquare.{BandSquare}
use Rattle.stamped_tree.specs.LeafKind.{plane_grid}
use Rattle.stamped_tree.specs.Plane.{from_edge, map_of}
use Rattle.stamped_tree.specs.RowOrder.{IsPut, band_cells, band_row, row_cells, sought_state, square_row}
use Rattle.stamped_tree.specs.Sought.{part_of, spot}
use Rattle.stamped_tree.specs.Walk.{AreNonzeroCells, row_order, cell_of_plane}
use Rattle.stamped_tree.proofs.BandLaws.{row_same}
use Rattle.stamped_tree.proofs.OnPlaneLaws.{placed}
use Rattle.stamped_tree.proofs.Placing.{IsPlacing}
use Rattle.stamped_tree.proofs.RowLaws.{grid_gathered, grid_rising, grid_rows, rising_sorted, strung_same}
use Rattle.stamped_tree.proofs.Placing as placing

on_plane : IsPlacing 2147483648 cell_of_plane is_in_plane from_edge row_order
on_plane = record {
  state = λ c. refl;
  above = λ a b h. grind (arith, ints, nat_tests, h);
  before = λ a b e h. grind (arith, ints, nat_tests, e, h);
  order = λ a b wa wb h. in_order a b wa wb h;
  inside = λ at h. within at.x at.y h;
  same = λ c at h. grind (arith, ints, nat_tests, h);
  outside = λ c at wu wv out. grind (arith, ints, nat_tests, wu, wv, out);
}
  where
    in_order : (a b : ListedCell) → a.column < 2147483648 → b.column < 2147483648 → row_order a ≤ row_order b → (a.row < b.row) ⊎ ((a.row ≡ b.row) × (a.column ≤ b.column))
    in_order a b wa wb h = elim (cases_lt a.row b.row) [
      | inl above ↦ inl above
      | inr below ↦ (let e : a.row ≡ b.row = omega (arith, h, below, wa, wb) in inr (e, omega (arith, h, e)))
    ]

    within : (x y : ℤ) → is_in_plane (record { x = x; y = y }) ≡ true → (from_edge x < 2147483648) × (from_edge y < 2147483648)
    within x y h = (grind (arith, ints, nat_tests, h), grind (arith, ints, nat_tests, h))

-- a state that is looked for is that of the part of a map
part_state : (f : Place → Bool) (at : Place) (w : Write) → (if f at then w else unwritten).state ≡ (if f at then w.state else 0)
part_state f at w = elim (cases_Bool (f at)) [ inl is ↦ rw is refl | inr not ↦ rw not refl ]

unwritten_state : (b : Bool) → (if b then unwritten else unwritten).state ≡ 0
unwritten_state true = refl
unwritten_state false = refl

-- the rows of the root are the cells of the map, as far as they are looked for
pub walked : (s : Held PlaneLeaf) (f : Place → Bool) (root : ℕ) (start band : List BandSquare) → start ≡ [] → IsPut s f 28 0 (record { part = root; left = 0 }) start band
    → AreNonzeroCells (part_of f (map_of (record { store = s; root = root }))) (map cell_of_plane (band_cells s f 28 0 band))
walked s f root start band empty put =
    let p = map_of (record { store = s; root = root }) in
    let g = grid_at plane_grid 8 s 28 root in
    let part : Grid = λ u v. if f (spot u v) then g u v else unwritten in
    let band_is : band ≡ put.squares = put.pushed ∙ ap (λ qs. qs ++ put.squares) empty in
    let rows : band_cells s f 28 0 band ≡ grid_rows 2147483648 part =
    strung_same (λ v. band_row s f 28 band v (0 + v)) (λ v. row_cells (λ u. (part u v).state) 0 v 2147483648) 2147483648
    (λ v h. ap (λ qs. band_row s f 28 qs v (0 + v)) band_is ∙ put.same v h
    ∙ (let e : 0 + v ≡ v = omega arith in ap (λ z. square_row s f 28 (record { part = root; left = 0 }) v z) e)
    ∙ row_same (λ u. sought_state f (0 + u) v (g u v).state) (λ u. (part u v).state) 0 v 2147483648
    (λ u hu. (let e : 0 + u ≡ u = omega arith in ap (λ z. sought_state f z v (g u v).state) e) ∙ sym (part_state f (spot u v) (g u v)))) in
    subst (λ cells. AreNonzeroCells (part_of f p) (map cell_of_plane cells)) (sym rows)
    (placing.walked 2147483648 cell_of_plane is_in_plane from_edge row_order on_plane part (part_of f p) (grid_rows 2147483648 part)
    (rising_sorted 2147483648 (0 * 2147483648) (2147483648 * 2147483648) (grid_rows 2147483648 part) (grid_rising 2147483648 part)) (grid_gathered 2147483648 part)
    (λ at here. rw here (ap (λ c. (if f c then g (from_edge at.x) (from_edge at.y) else unwritten).state) (sym (spot_of at here))))
    (λ at out. rw out (unwritten_state (f at))))
  where
    spot_of : (at : Place) → is_in_plane at ≡ true → spot (from_edge at.x) (from_edge at.y) ≡ at
    spot_of at here = (placed at here).0

pub all_walked : (s : Held PlaneLeaf) (f : Place → Bool) (root : ℕ) (found none : List Cell) (band start : List BandSquare) → none ≡ [] → start ≡ [] → IsPut s f 28 0 (record { part = root; left = 0 }) start band
    → found ≡ none ++ map cell_of_plane (band_cells s f 28 0 (drop 0 band)) → AreNonzeroCells (part_of f (map_of (record { store = s; root = root }))) found
all_walked s f root found none band start empty begun put listed =
    let all : found ≡ map cell_of_plane (band_cells s f 28 0 band) = listed ∙ ap (λ cells. cells ++ map cell_of_plane (band_cells s f 28 0 (drop 0 band))) empty in
    subst (λ (cells : List Cell). AreNonzeroCells (part_of f (map_of (record { store = s; root = root }))) cells) (sym all) (walked s f root start band begun put)
