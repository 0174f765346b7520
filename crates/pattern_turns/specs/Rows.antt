-- Worked values: a box of three columns and two rows, and places about the origin.
use Rattle.std.specs.Prelude.{◌≡◌, ℕ, [], ◌∷◌, map, refl, pos, negsuc}
use Rattle.generations_rule.specs.Place.{at_place}
use Rattle.pattern_cells.specs.declared.pattern.PatternCell.{PatternCell}
use Rattle.pattern_turns.specs.declared.turn.Turn.TheVariants.{Left, Right, Half, Mirror, Flip}
use Rattle.pattern_turns.specs.Turning.{turned_cell}
use Rattle.pattern_turns.specs.Way.{put, TurnedLeft, TurnedRight, Transposed}

abbrev cell : ℕ → ℕ → PatternCell
cell column row = record { column = column; row = row; state = 1 }

-- the upper left corner, and the upper right one
pub left : map (turned_cell Left 3 2) (cell 0 0 ∷ cell 2 0 ∷ []) ≡ cell 0 2 ∷ cell 0 0 ∷ []
left = refl

pub right : map (turned_cell Right 3 2) (cell 0 0 ∷ cell 2 0 ∷ []) ≡ cell 1 0 ∷ cell 1 2 ∷ []
right = refl

pub half : map (turned_cell Half 3 2) (cell 0 0 ∷ cell 2 0 ∷ []) ≡ cell 2 1 ∷ cell 0 1 ∷ []
half = refl

pub mirror : map (turned_cell Mirror 3 2) (cell 0 0 ∷ cell 2 0 ∷ []) ≡ cell 2 0 ∷ cell 0 0 ∷ []
mirror = refl

pub flip : map (turned_cell Flip 3 2) (cell 0 0 ∷ cell 2 0 ∷ []) ≡ cell 0 1 ∷ cell 2 1 ∷ []
flip = refl

-- what is to the right of the origin comes above it to the left, and below it to the right
pub right_goes_up : put TurnedLeft (at_place (pos 1) (pos 0)) ≡ at_place (pos 0) (negsuc 0)
right_goes_up = refl

pub right_goes_down : put TurnedRight (at_place (pos 1) (pos 0)) ≡ at_place (pos 0) (pos 1)
right_goes_down = refl

pub diagonal_stays : put Transposed (at_place (pos 1) (pos 1)) ≡ at_place (pos 1) (pos 1)
diagonal_stays = refl
