-- Lists of cells.
use Rattle.std.specs.Prelude.{ℕ, Bool, true, ◌&&◌, ◌==◌, not, List, [], ◌∷◌, nat_lt}
use Rattle.std.specs.List.{list_all}
use Rattle.generations_rule.specs.Place.{Place, is_before}
use Rattle.pattern_cells.specs.declared.cell.Cell.{Cell}

-- where a cell stands
abbrev pub place_of : Cell → Place
place_of cell = record { x = cell.x; y = cell.y }

-- by y, then x, each coordinate once
abbrev pub is_sorted : List Cell → Bool
is_sorted [] = true
is_sorted (a ∷ []) = true
is_sorted (a ∷ b ∷ cells) = is_before (place_of a) (place_of b) && is_sorted (b ∷ cells)

-- no cell is dead
abbrev pub are_nonzero : List Cell → Bool
are_nonzero cells = list_all (λ cell. not (cell.state == 0)) cells

-- each state is below a number of states
abbrev pub are_states_below : ℕ → List Cell → Bool
are_states_below states cells = list_all (λ cell. nat_lt cell.state states) cells
