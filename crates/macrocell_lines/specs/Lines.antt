-- The lines of a macrocell that tell squares.
use Rattle.std.specs.Prelude.{ℕ, suc, ◌/◌, ◌%◌, ◌==◌, Bool, List, [], ◌∷◌, ◌++◌, if◌then◌else◌, map, codes, decimal, flat_map}
use Rattle.std.specs.List.{range_with_len}
use Rattle.bitplane_kernel.specs.Square.{state_at}
use Rattle.macrocell_lines.specs.declared.line.Line.{Line}
use Rattle.macrocell_lines.specs.declared.line.Line.TheVariants as lines
use Rattle.macrocell_lines.specs.Squares.{StateSquare, Cell, Four, is_told_by_states, level_of, number_of, state_in, walk}

-- the states of a square of level 3, row by row
abbrev pub states_of : StateSquare → List ℕ
states_of q = map (λ i. state_in q (i % 8) (i / 8)) (range_with_len 0 64)

-- the line of a square, behind those that are listed
abbrev pub line_of : Bool → List StateSquare → StateSquare → Line
line_of of_two squares (Cell s) = lines.Four 0 s s s s
line_of of_two squares (Four nw ne sw se) =
    if is_told_by_states of_two (Four nw ne sw se) then lines.Leaf (states_of (Four nw ne sw se))
    else lines.Four (suc (level_of nw)) (number_of squares nw) (number_of squares ne) (number_of squares sw) (number_of squares se)

-- the lines of a square: of each distinct one that it is made of and that has a cell that is not dead, those of its quarters first
abbrev pub lines_of : Bool → StateSquare → List Line
lines_of of_two q = map (line_of of_two (walk of_two q [])) (walk of_two q [])

-- ---- texts

-- how many items there are up to the last that is not 0
abbrev pub live_len : List ℕ → ℕ
live_len [] = 0
live_len (x ∷ xs) = if live_len xs == 0 then (if x == 0 then 0 else 1) else suc (live_len xs)

abbrev pub mark_of : ℕ → ℕ
mark_of state = if state == 0 then 46 else 42

-- a row of eight states
abbrev pub row_of : List ℕ → ℕ → List ℕ
row_of states v = map (λ u. state_at 8 states u v) (range_with_len 0 8)

-- the marks of a row up to its last live cell, and `$`
abbrev pub row_text : List ℕ → ℕ → List ℕ
row_text states v = map (λ u. mark_of (state_at 8 states u v)) (range_with_len 0 (live_len (row_of states v))) ++ codes "$"

-- how many rows there are up to the last that has a live cell
abbrev pub height_of : List ℕ → ℕ
height_of states = live_len (map (λ v. live_len (row_of states v)) (range_with_len 0 8))

abbrev pub rows_text : List ℕ → List ℕ
rows_text states = flat_map (row_text states) (range_with_len 0 (height_of states))

-- the line: rows, or the level and what stands for the quarters
unfoldable pub line_text : Line → List ℕ
line_text (lines.Leaf states) = rows_text states ++ codes "\n"
line_text (lines.Four level nw ne sw se) = decimal level ++ codes " " ++ decimal nw ++ codes " " ++ decimal ne ++ codes " " ++ decimal sw ++ codes " " ++ decimal se ++ codes "\n"
