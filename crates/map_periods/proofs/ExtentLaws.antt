-- The box of cells that are moved.
use Rattle.std.proofs.Common.{◌≡◌, ℕ, List, [], ◌∷◌, map, refl, ◌∙◌, ap, arith, ℤ, true}
use Rattle.std.specs.Prelude.{◌+ℤ◌, ◌-ℤ◌, ◌&&◌, fold}
use Rattle.std.specs.Int.{int_max, int_min}
use Rattle.std.specs.Ordering.{int_eq}
use Rattle.std.proofs.lemmas.Int.{ints}
use Rattle.generations_rule.specs.Place.{Place}
use Rattle.pattern_cells.specs.declared.cell.Cell.{Cell}
use Rattle.generation_engine.specs.Walk.{AreCellsOf}
use Rattle.map_periods.specs.declared.extent.Extent.{Extent}
use Rattle.map_periods.specs.Moves.{IsNotMoved, are_as_large, extent_at, extent_of, grown, moved_cell}
use Rattle.map_periods.proofs.MoveLaws.{moved_list}

-- a box, moved
abbrev moved_extent : ℤ → ℤ → Extent → Extent
moved_extent x y e = record { left = e.left +ℤ x; top = e.top +ℤ y; right = e.right +ℤ x; bottom = e.bottom +ℤ y }

least_moved : (m n by : ℤ) → int_min (m +ℤ by) (n +ℤ by) ≡ int_min m n +ℤ by
least_moved m n by = grind (arith, ints)

greatest_moved : (m n by : ℤ) → int_max (m +ℤ by) (n +ℤ by) ≡ int_max m n +ℤ by
greatest_moved m n by = grind (arith, ints)

grown_moved : (e : Extent) (a : Cell) (x y : ℤ) → grown (moved_extent x y e) (moved_cell x y a) ≡ moved_extent x y (grown e a)
grown_moved e a x y = λ i. record {
  left = least_moved e.left a.x x i;
  top = least_moved e.top a.y y i;
  right = greatest_moved e.right a.x x i;
  bottom = greatest_moved e.bottom a.y y i;
}

all_moved : (e : Extent) (cells : List Cell) (x y : ℤ) → fold grown (moved_extent x y e) (map (moved_cell x y) cells) ≡ moved_extent x y (fold grown e cells)
all_moved e [] x y = refl
all_moved e (a ∷ cells) x y = ap (λ b. fold grown b (map (moved_cell x y) cells)) (grown_moved e a x y) ∙ all_moved (grown e a) cells x y

as_wide : (m n by : ℤ) → int_eq (n -ℤ m) ((n +ℤ by) -ℤ (m +ℤ by)) ≡ true
as_wide m n by = grind (arith, ints)

as_large : (e : Extent) (x y : ℤ) → are_as_large e (moved_extent x y e) ≡ true
as_large e x y = λ i. as_wide e.left e.right x i && as_wide e.top e.bottom y i

-- cells that are moved have a box that is as large
pub moved_are_as_large : (cells : List Cell) (x y : ℤ) → are_as_large (extent_of cells) (extent_of (map (moved_cell x y) cells)) ≡ true
moved_are_as_large [] x y = refl
moved_are_as_large (a ∷ cells) x y = ap (are_as_large (extent_of (a ∷ cells))) (all_moved (extent_at a) cells x y) ∙ as_large (extent_of (a ∷ cells)) x y

-- of cells whose boxes differ in size no move makes the others
pub not_as_large : (f h : Place → ℕ) (a b : List Cell) → (are_as_large (extent_of a) (extent_of b) ≡ true → ⊥) → AreCellsOf f a → AreCellsOf h b → IsNotMoved f h
not_as_large f h a b differ of_f of_h x y is =
    differ (ap (λ cells. are_as_large (extent_of a) (extent_of cells)) (moved_list f h a b x y of_f of_h is) ∙ moved_are_as_large a x y)
