-- The bounding box of cells.
use Rattle.std.specs.Prelude.{ℕ, ◌+◌, List, [], ◌∷◌, map, fold, ℤ, pos, ◌-ℤ◌, nat_abs}
use Rattle.std.specs.Int.{int_max, int_min}
use Rattle.pattern_cells.specs.declared.cell.Cell.{Cell}
use Rattle.pattern_cells.specs.declared.pattern.PatternCell.{PatternCell}

-- a box: its upper left corner, and its sides
pub record BoundsValue : Type 0 where
  pub x : ℤ
  pub y : ℤ
  pub width : ℕ
  pub height : ℕ

-- how many from the one to the other, both counted
abbrev pub span_of : ℤ → ℤ → ℕ
span_of from to = nat_abs (to -ℤ from) + 1

abbrev pub least_coordinate : (Cell → ℤ) → ℤ → List Cell → ℤ
least_coordinate f first cells = fold (λ n d. int_min n (f d)) first cells

abbrev pub greatest_coordinate : (Cell → ℤ) → ℤ → List Cell → ℤ
greatest_coordinate f first cells = fold (λ n d. int_max n (f d)) first cells

-- the least box that holds all cells; all is 0 where there is none
abbrev pub bounds_of : List Cell → BoundsValue
bounds_of [] = record { x = pos 0; y = pos 0; width = 0; height = 0 }
bounds_of (c ∷ cells) = record {
  x = least_coordinate (λ d. d.x) c.x cells;
  y = least_coordinate (λ d. d.y) c.y cells;
  width = span_of (least_coordinate (λ d. d.x) c.x cells) (greatest_coordinate (λ d. d.x) c.x cells);
  height = span_of (least_coordinate (λ d. d.y) c.y cells) (greatest_coordinate (λ d. d.y) c.y cells);
}

-- a cell as seen from a corner
abbrev pub seen_from : ℤ → ℤ → Cell → PatternCell
seen_from x y c = record { column = nat_abs (c.x -ℤ x); row = nat_abs (c.y -ℤ y); state = c.state }

-- the cells as seen from their box's corner
abbrev pub in_box : BoundsValue → List Cell → List PatternCell
in_box b cells = map (seen_from b.x b.y) cells
