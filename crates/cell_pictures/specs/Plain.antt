-- Cells as plain text.
use Rattle.std.specs.Prelude.{ℕ, List, [], ◌∷◌, ◌++◌, ◌==◌, if◌then◌else◌, codes, slice_index_or}
use Rattle.pattern_cells.specs.declared.cell.Cell.{Cell}
use Rattle.cell_pictures.specs.Shown.{state_at, texts_below}
use Rattle.cell_pictures.specs.Window.{WindowValue, place_in}

-- the characters of states from 0 on: `.` and `O` where there are two
abbrev pub characters : ℕ → List ℕ
characters states = if states == 2 then codes ".O" else codes ".ABCDEFGHIJKLMNOPQRSTUVWXYZabcdefghijklmnopqrstuvwxyz0123456789"

-- the character of a state; one that has none of its own is `#`
abbrev pub character_of : ℕ → ℕ → ℕ
character_of states state = slice_index_or (characters states) state 35

-- a row: a character for each place, and the line's end
abbrev pub plain_row : ℕ → List Cell → WindowValue → ℕ → List ℕ
plain_row states cells w row = texts_below w.width (λ column. character_of states (state_at cells (place_in w column row)) ∷ []) ++ codes "\n"

-- the rows of a window
abbrev pub plain_text : ℕ → List Cell → WindowValue → List ℕ
plain_text states cells w = texts_below w.height (plain_row states cells w)
