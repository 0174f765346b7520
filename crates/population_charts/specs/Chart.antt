-- A chart as SVG: the numbers, a curve for each state, and two axes with ticks.
use Rattle.std.specs.Prelude.{ℕ, ◌+◌, ◌-◌, List, [], ◌∷◌, ◌++◌, codes, if◌then◌else◌}
use Rattle.cell_pictures.specs.Colour.{colour_of}
use Rattle.cell_pictures.specs.Shown.{texts_below}
use Rattle.cell_pictures.specs.Svg.{hex_colour, number_text}
use Rattle.population_charts.specs.declared.axis.Axes.{Axes}
use Rattle.population_charts.specs.declared.axis.Axis.{Axis}
use Rattle.population_charts.specs.Axis.{along, axes_of, count_axis, generation_axis, placed, tick, tick_count}
use Rattle.population_charts.specs.Sample.{SampleValue, count_of, has_cells}

-- ---- numbers

-- a point: a generation, and a number of cells
abbrev pub point_text : ℕ → SampleValue → List ℕ
point_text state s = number_text (codes " ") s.generation ++ number_text (codes ",") (count_of state s)

abbrev pub points_text : ℕ → List SampleValue → List ℕ
points_text state [] = []
points_text state (s ∷ samples) = point_text state s ++ points_text state samples

-- a point without cells for each sampled generation
abbrev pub generation_line : List SampleValue → List ℕ
generation_line samples = codes "<polyline class=\"generations\" points=\"" ++ points_text 0 samples ++ codes "\"/>\n"

abbrev pub line_begin : ℕ → List ℕ
line_begin state = number_text (codes "<polyline class=\"s") state ++ codes "\" points=\""

abbrev pub line_end : List ℕ
line_end = codes "\"/>\n"

-- the numbers of a state; none where it has no cells in any sample
abbrev pub state_line : List SampleValue → ℕ → List ℕ
state_line samples state = if has_cells state samples then line_begin state ++ points_text state samples ++ line_end else []

abbrev pub numbers_begin : List ℕ
numbers_begin = codes "<defs>\n<g class=\"numbers\">\n"

abbrev pub numbers_end : List ℕ
numbers_end = codes "</g>\n</defs>\n"

-- the numbers themselves, which are not drawn
abbrev pub numbers : ℕ → List SampleValue → List ℕ
numbers states samples = numbers_begin ++ generation_line samples ++ texts_below (states - 1) (λ n. state_line samples (n + 1)) ++ numbers_end

-- ---- curves

-- where a sample's number of cells stands
abbrev pub curve_point : Axes → ℕ → SampleValue → List ℕ
curve_point axes state s =
    number_text (codes " ") (1200 + placed axes.generations s.generation 8100) ++ number_text (codes ",") (4700 - placed axes.counts (count_of state s) 4400)

abbrev pub curve_points : Axes → ℕ → List SampleValue → List ℕ
curve_points axes state [] = []
curve_points axes state (s ∷ samples) = curve_point axes state s ++ curve_points axes state samples

abbrev pub curve_begin : ℕ → ℕ → List ℕ
curve_begin states state = codes "<polyline stroke=\"" ++ hex_colour (colour_of states state) ++ codes "\" points=\""

-- a viewer shows the title where the curve is pointed at
abbrev pub curve_end : ℕ → List ℕ
curve_end state = number_text (codes "\"><title>state ") state ++ codes "</title></polyline>\n"

-- the curve of a state, in its colour; none where it has no cells in any sample
abbrev pub curve : ℕ → Axes → List SampleValue → ℕ → List ℕ
curve states axes samples state = if has_cells state samples then curve_begin states state ++ curve_points axes state samples ++ curve_end state else []

abbrev pub curves : ℕ → Axes → List SampleValue → List ℕ
curves states axes samples =
    codes "<g fill=\"none\" stroke-linejoin=\"round\" stroke-width=\"15\">\n" ++ texts_below (states - 1) (λ n. curve states axes samples (n + 1)) ++ codes "</g>\n"

-- ---- ticks

-- below the curves, at its place along the axis
abbrev pub generation_tick : Axis → ℕ → List ℕ
generation_tick a number =
    number_text (codes "<path stroke=\"#c0c0c0\" d=\"M") (1200 + along a number 8100)
    ++ number_text (codes " 4700v80\"/><text x=\"") (1200 + along a number 8100)
    ++ number_text (codes "\" y=\"4940\">") number ++ codes "</text>\n"

abbrev pub generation_ticks : Axis → List ℕ
generation_ticks a =
    codes "<g class=\"generation-ticks\" text-anchor=\"middle\">\n<path stroke=\"#c0c0c0\" d=\"M1200 4700h8100\"/>\n"
    ++ texts_below (tick_count a) (λ k. generation_tick a (tick a k))
    ++ codes "<text x=\"5250\" y=\"5220\">generation</text>\n</g>\n"

-- left of the curves, at its place above the axis
abbrev pub count_tick : Axis → ℕ → List ℕ
count_tick a number =
    number_text (codes "<path stroke=\"#c0c0c0\" d=\"M1120 ") (4700 - along a number 4400)
    ++ number_text (codes "h80\"/><text x=\"1080\" y=\"") (4750 - along a number 4400)
    ++ number_text (codes "\">") number ++ codes "</text>\n"

abbrev pub count_ticks : Axis → List ℕ
count_ticks a =
    codes "<g class=\"cell-ticks\" text-anchor=\"end\">\n<path stroke=\"#c0c0c0\" d=\"M1200 300v4400\"/>\n"
    ++ texts_below (tick_count a) (λ k. count_tick a (tick a k))
    ++ codes "<text x=\"1080\" y=\"180\">cells</text>\n</g>\n"

-- ---- the whole

-- over a ground in the colour of dead cells
abbrev pub chart_begin : List ℕ
chart_begin =
    codes "<svg xmlns=\"http://www.w3.org/2000/svg\" viewBox=\"0 0 9600 5400\" font-family=\"sans-serif\" font-size=\"140\" fill=\"#c0c0c0\" stroke-width=\"10\">\n"
    ++ codes "<path class=\"ground\" fill=\"#303030\" d=\"M0 0h9600v5400h-9600z\"/>\n"

-- samples under a rule of so many states
abbrev pub chart_text : ℕ → List SampleValue → List ℕ
chart_text states samples =
    chart_begin ++ numbers states samples ++ curves states (axes_of samples) samples
    ++ generation_ticks (generation_axis samples) ++ count_ticks (count_axis samples) ++ codes "</svg>\n"
