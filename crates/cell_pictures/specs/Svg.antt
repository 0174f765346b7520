-- Cells as SVG: one path for each state, of the runs of its cells, over a ground in the colour of dead cells.
use Rattle.std.specs.Prelude.{ℕ, ◌+◌, ◌-◌, ◌/◌, ◌%◌, ℤ, List, [], ◌∷◌, ◌++◌, codes, decimal, slice_index_or}
use Rattle.std.specs.Fmt.{signed_decimal}
use Rattle.pattern_cells.specs.declared.cell.Cell.{Cell}
use Rattle.cell_pictures.specs.declared.colour.Colour.{Colour}
use Rattle.cell_pictures.specs.Colour.{colour_of}
use Rattle.cell_pictures.specs.Runs.{RunValue, cells_of_state, runs_of}
use Rattle.cell_pictures.specs.Shown.{texts_below}
use Rattle.cell_pictures.specs.Window.{WindowValue}

-- ---- parts

abbrev pub hex_digit : ℕ → ℕ
hex_digit n = slice_index_or (codes "0123456789abcdef") n 0

-- a byte as two hexadecimal digits
abbrev pub hex_text : ℕ → List ℕ
hex_text n = hex_digit (n / 16) ∷ hex_digit (n % 16) ∷ []

abbrev pub hex_colour : Colour → List ℕ
hex_colour c = codes "#" ++ hex_text c.red ++ hex_text c.green ++ hex_text c.blue

-- a number behind what names it
abbrev pub number_text : List ℕ → ℕ → List ℕ
number_text name n = name ++ decimal n

abbrev pub signed_text : List ℕ → ℤ → List ℕ
signed_text name n = name ++ signed_decimal n

-- the outline of a rectangle, as path data: to its upper left corner, then round by three sides
abbrev pub outline : ℤ → ℤ → ℕ → ℕ → List ℕ
outline x y width height =
    signed_text (codes "M") x ++ signed_text (codes " ") y
    ++ number_text (codes "h") width ++ number_text (codes "v") height ++ number_text (codes "h-") width ++ codes "z"

-- a run is one row high
abbrev pub run_text : RunValue → List ℕ
run_text r = outline r.x r.y r.length 1

abbrev pub runs_text : List RunValue → List ℕ
runs_text [] = []
runs_text (r ∷ runs) = run_text r ++ runs_text runs

-- what stands in front of the path data of a state, and behind it
abbrev pub path_begin : ℕ → ℕ → List ℕ
path_begin states state = number_text (codes "<path class=\"s") state ++ codes "\" fill=\"" ++ hex_colour (colour_of states state) ++ codes "\" d=\""

abbrev pub path_end : List ℕ
path_end = codes "\"/>\n"

-- the path of a state; none where it has no runs
abbrev pub path_text : ℕ → ℕ → List RunValue → List ℕ
path_text states state [] = []
path_text states state (r ∷ runs) = path_begin states state ++ runs_text (r ∷ runs) ++ path_end

-- ---- the whole

abbrev pub svg_begin : WindowValue → List ℕ
svg_begin w =
    signed_text (codes "<svg xmlns=\"http://www.w3.org/2000/svg\" viewBox=\"") w.x ++ signed_text (codes " ") w.y
    ++ number_text (codes " ") w.width ++ number_text (codes " ") w.height ++ codes "\" shape-rendering=\"crispEdges\">\n"

-- the whole window, in the colour of dead cells
abbrev pub ground : ℕ → WindowValue → List ℕ
ground states w = path_begin states 0 ++ outline w.x w.y w.width w.height ++ path_end

abbrev pub svg_end : List ℕ
svg_end = codes "</svg>\n"

-- the path of a state's cells in a window
abbrev pub state_path : ℕ → List Cell → WindowValue → ℕ → List ℕ
state_path states cells w state = path_text states state (runs_of (cells_of_state w state cells))

-- the cells in a window, under a rule of so many states
abbrev pub svg_text : ℕ → List Cell → WindowValue → List ℕ
svg_text states cells w = svg_begin w ++ ground states w ++ texts_below (states - 1) (λ n. state_path states cells w (n + 1)) ++ svg_end
