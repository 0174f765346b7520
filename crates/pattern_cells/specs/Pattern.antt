-- A pattern: a box, a position, a generation, and the nonzero cells in the box, by row, then column.
use Rattle.std.specs.Prelude.{◌≡◌, ℕ, ◌≤◌, ◌^◌, ℤ, Bool, true, not, ◌||◌, ◌&&◌, List, [], ◌∷◌, length, nat_lt, ◌==◌}
use Rattle.std.specs.List.{list_all}
use Rattle.pattern_cells.specs.declared.pattern.PatternCell.{PatternCell}

pub record RlePattern : Type 0 where
  pub width : ℕ
  pub height : ℕ
  pub pos : ℤ × ℤ
  pub generation : ℕ
  pub cells : List PatternCell

-- by row, then column
abbrev pub precedes : PatternCell → PatternCell → Bool
precedes a b = nat_lt a.row b.row || (a.row == b.row && nat_lt a.column b.column)

-- each cell precedes the next
abbrev pub are_sorted : List PatternCell → Bool
are_sorted [] = true
are_sorted (a ∷ []) = true
are_sorted (a ∷ b ∷ cells) = precedes a b && are_sorted (b ∷ cells)

-- no cell is dead
abbrev pub are_alive : List PatternCell → Bool
are_alive cells = list_all (λ cell. not (cell.state == 0)) cells

-- each cell stands in a box of this width and height
abbrev pub are_within : ℕ → ℕ → List PatternCell → Bool
are_within width height cells = list_all (λ cell. nat_lt cell.column width && nat_lt cell.row height) cells

-- which patterns there are
pub record IsPattern (p : RlePattern) : Type 0 where
  pub alive : are_alive p.cells ≡ true
  pub sorted : are_sorted p.cells ≡ true
  pub few : length p.cells ≤ 2 ^ 20
  pub within : are_within p.width p.height p.cells ≡ true
  pub narrow : p.width ≤ 2 ^ 32
  pub low : p.height ≤ 2 ^ 32
