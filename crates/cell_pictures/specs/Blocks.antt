-- Cells as half blocks in a terminal: a character shows a cell in its upper half and the one below it in its lower half.
use Rattle.std.specs.Prelude.{ℕ, List, [], ◌∷◌, ◌++◌, ◌+◌, ◌*◌, ◌/◌, nat_lt, if◌then◌else◌, codes, decimal, Option, Some, None}
use Rattle.pattern_cells.specs.declared.cell.Cell.{Cell}
use Rattle.cell_pictures.specs.declared.colour.Colour.{Colour}
use Rattle.cell_pictures.specs.Colour.{colour_of}
use Rattle.cell_pictures.specs.Shown.{state_at, texts_below}
use Rattle.cell_pictures.specs.Window.{WindowValue, place_in}

-- the parts of a colour
abbrev pub parts_text : Colour → List ℕ
parts_text c = decimal c.red ++ codes ";" ++ decimal c.green ++ codes ";" ++ decimal c.blue

-- what sets the colour of the upper half
abbrev pub upper_text : Colour → List ℕ
upper_text c = 27 ∷ codes "[38;2;" ++ parts_text c

-- what sets the colour of the lower half; where there is no cell it is the terminal's own
abbrev pub lower_text : Option Colour → List ℕ
lower_text (Some c) = codes ";48;2;" ++ parts_text c
lower_text None = codes ";49"

-- the upper half block, U+2580
abbrev pub upper_half_block : List ℕ
upper_half_block = 226 ∷ 150 ∷ 128 ∷ []

-- a character with the colours of its halves
abbrev pub block_text : Colour → Option Colour → List ℕ
block_text upper lower = upper_text upper ++ lower_text lower ++ 109 ∷ upper_half_block

-- the colour of a place of a window, if the window has the row
abbrev pub shown_colour : ℕ → List Cell → WindowValue → ℕ → ℕ → Option Colour
shown_colour states cells w column row =
    if nat_lt row w.height then Some (colour_of states (state_at cells (place_in w column row))) else None

-- the character of a column and of a row with the one below it
abbrev pub block_at : ℕ → List Cell → WindowValue → ℕ → ℕ → List ℕ
block_at states cells w row column =
    block_text (colour_of states (state_at cells (place_in w column row))) (shown_colour states cells w column (row + 1))

-- two rows, and then the terminal's own colours
abbrev pub block_row : ℕ → List Cell → WindowValue → ℕ → List ℕ
block_row states cells w line = texts_below w.width (block_at states cells w (2 * line)) ++ 27 ∷ codes "[0m\n"

-- the rows of a window, two and two; an odd last one stands alone
abbrev pub half_blocks : ℕ → List Cell → WindowValue → List ℕ
half_blocks states cells w = texts_below ((w.height + 1) / 2) (block_row states cells w)
