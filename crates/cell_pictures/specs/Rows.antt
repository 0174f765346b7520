-- Worked values of the definitions.
use Rattle.std.specs.Prelude.{◌≡◌, ℕ, ℤ, pos, negsuc, List, [], ◌∷◌, ◌++◌, Some, None, codes, refl}
use Rattle.std.specs.Fmt.{digits}
use Rattle.pattern_cells.specs.declared.cell.Cell.{Cell}
use Rattle.cell_pictures.specs.declared.picture.Form.TheVariants.{Plain}
use Rattle.cell_pictures.specs.Blocks.{half_blocks}
use Rattle.cell_pictures.specs.Colour.{colour_of, green_of}
use Rattle.cell_pictures.specs.Picture.{cut_line, picture_text}
use Rattle.cell_pictures.specs.Plain.{character_of, plain_text}
use Rattle.cell_pictures.specs.Runs.{RunValue, runs_of}
use Rattle.cell_pictures.specs.Svg.{hex_text, path_text, run_text, svg_text}
use Rattle.cell_pictures.specs.Window.{WindowValue, box_of, cut, window_given}

abbrev cell : ℤ → ℤ → ℕ → Cell
cell x y state = record { x = x; y = y; state = state }

abbrev window : ℤ → ℤ → ℕ → ℕ → WindowValue
window x y width height = record { x = x; y = y; width = width; height = height }

abbrev run : ℤ → ℤ → ℕ → RunValue
run x y length = record { x = x; y = y; length = length }

abbrev glider : List Cell
glider = cell (pos 1) (pos 0) 1 ∷ cell (pos 2) (pos 1) 1 ∷ cell (pos 0) (pos 2) 1 ∷ cell (pos 1) (pos 2) 1 ∷ cell (pos 2) (pos 2) 1 ∷ []

-- ---- colours, as Golly 4 shows them

pub dead : colour_of 3 0 ≡ record { red = 48; green = 48; blue = 48 }
dead = refl

pub live : colour_of 2 1 ≡ record { red = 255; green = 0; blue = 0 }
live = refl

pub second_of_three : colour_of 3 2 ≡ record { red = 255; green = 255; blue = 0 }
second_of_three = refl

pub second_of_four : green_of 4 2 ≡ 128
second_of_four = refl

pub second_of_twelve : green_of 12 2 ≡ 26
second_of_twelve = refl

pub last_of_256 : green_of 256 255 ≡ 255
last_of_256 = refl

-- ---- windows

pub boxed : box_of glider ≡ window (pos 0) (pos 0) 3 3
boxed = refl

pub no_box : box_of [] ≡ window (pos 0) (pos 0) 0 0
no_box = refl

pub last_place : window_given (window (pos 2147483647) (pos 0) 1 1) ≡ Some (window (pos 2147483647) (pos 0) 1 1)
last_place = refl

pub past_the_last_place : window_given (window (pos 2147483647) (pos 0) 2 1) ≡ None
past_the_last_place = refl

pub no_columns : window_given (window (pos 0) (pos 0) 0 1) ≡ None
no_columns = refl

pub cut_both_ways : cut (window (negsuc 4) (pos 7) 129 65) ≡ window (negsuc 4) (pos 7) 128 64
cut_both_ways = refl

pub told_where_cut : cut_line (window (pos 0) (pos 0) 129 1) ≡ codes "cut: 129 by 1\n"
unfolding digits
told_where_cut = refl

pub not_cut : cut_line (window (pos 0) (pos 0) 128 64) ≡ []
not_cut = refl

-- ---- plain text

pub glider_in_text : picture_text Plain 2 glider None ≡ codes ".O.\n..O\nOOO\n"
glider_in_text = refl

pub round_the_corner : plain_text 3 (cell (negsuc 0) (negsuc 0) 2 ∷ []) (window (negsuc 1) (negsuc 0) 3 2) ≡ codes ".B.\n...\n"
round_the_corner = refl

pub last_with_its_own : character_of 256 62 ≡ 57
last_with_its_own = refl

pub first_without : character_of 256 63 ≡ 35
first_without = refl

-- ---- half blocks

abbrev red_over_grey : List ℕ
red_over_grey = 27 ∷ codes "[38;2;255;0;0;48;2;48;48;48m" ++ 226 ∷ 150 ∷ 128 ∷ []

pub two_rows : half_blocks 2 (cell (pos 0) (pos 0) 1 ∷ []) (window (pos 0) (pos 0) 1 2) ≡ red_over_grey ++ 27 ∷ codes "[0m\n"
unfolding digits
two_rows = refl

-- the cell below the window is not shown
pub odd_last_row :
    half_blocks 2 (cell (pos 0) (pos 0) 1 ∷ cell (pos 0) (pos 1) 1 ∷ []) (window (pos 0) (pos 0) 1 1)
    ≡ 27 ∷ codes "[38;2;255;0;0;49m" ++ 226 ∷ 150 ∷ 128 ∷ 27 ∷ codes "[0m\n"
unfolding digits
odd_last_row = refl

-- ---- runs

pub rows_apart : runs_of glider ≡ run (pos 1) (pos 0) 1 ∷ run (pos 2) (pos 1) 1 ∷ run (pos 0) (pos 2) 3 ∷ []
rows_apart = refl

pub with_a_gap : runs_of (cell (negsuc 0) (pos 0) 1 ∷ cell (pos 0) (pos 0) 1 ∷ cell (pos 2) (pos 0) 1 ∷ []) ≡ run (negsuc 0) (pos 0) 2 ∷ run (pos 2) (pos 0) 1 ∷ []
with_a_gap = refl

pub outlined : run_text (run (negsuc 2) (pos 5) 2) ≡ codes "M-3 5h2v1h-2z"
unfolding digits
outlined = refl

-- ---- SVG

pub in_hexadecimal : hex_text 128 ≡ codes "80"
in_hexadecimal = refl

pub no_path : path_text 2 1 [] ≡ []
no_path = refl

pub two_paths :
    svg_text 3 (cell (pos 0) (pos 0) 1 ∷ cell (pos 1) (pos 0) 2 ∷ cell (pos 2) (pos 0) 2 ∷ []) (window (pos 0) (pos 0) 2 1)
    ≡ codes "<svg xmlns=\"http://www.w3.org/2000/svg\" viewBox=\"0 0 2 1\" shape-rendering=\"crispEdges\">\n"
    ++ codes "<path class=\"s0\" fill=\"#303030\" d=\"M0 0h2v1h-2z\"/>\n"
    ++ codes "<path class=\"s1\" fill=\"#ff0000\" d=\"M0 0h1v1h-1z\"/>\n"
    ++ codes "<path class=\"s2\" fill=\"#ffff00\" d=\"M1 0h1v1h-1z\"/>\n"
    ++ codes "</svg>\n"
unfolding digits
two_paths = refl
