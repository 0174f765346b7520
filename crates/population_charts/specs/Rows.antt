-- Worked values of the definitions.
use Rattle.std.specs.Prelude.{◌≡◌, ◌-◌, ◌^◌, ℕ, List, [], ◌∷◌, ◌++◌, false, codes, refl}
use Rattle.std.specs.Fmt.{digits}
use Rattle.population_charts.specs.declared.axis.Axis.{Axis}
use Rattle.population_charts.specs.Axis.{along, axes_of, count_axis, generation_axis, placed, round_above, round_number, tick, tick_count, tick_distance, width_of}
use Rattle.population_charts.specs.Chart.{chart_text, count_tick, curve, generation_tick, state_line}
use Rattle.population_charts.specs.Sample.{SampleValue, count_of, counts_of, generations_of, has_cells}

abbrev sample : ℕ → List ℕ → SampleValue
sample generation counts = record { generation = generation; counts = counts }

abbrev axis : ℕ → ℕ → Axis
axis low high = record { low = low; high = high }

-- two states but the dead one, at three generations
abbrev dying : List SampleValue
dying = sample 100 (4 ∷ 2 ∷ []) ∷ sample 150 (0 ∷ 12 ∷ []) ∷ sample 200 (1 ∷ 0 ∷ []) ∷ []

-- ---- samples

pub second_state : counts_of 2 dying ≡ 2 ∷ 12 ∷ 0 ∷ []
second_state = refl

pub sampled : generations_of dying ≡ 100 ∷ 150 ∷ 200 ∷ []
sampled = refl

pub dead_not_counted : count_of 0 (sample 100 (4 ∷ 2 ∷ [])) ≡ 0
dead_not_counted = refl

pub behind_the_last : has_cells 3 dying ≡ false
behind_the_last = refl

-- ---- ticks

pub smallest : tick_distance 0 ≡ 1
unfolding tick_distance round_above round_number
smallest = refl

pub nine_by_one : tick_distance 9 ≡ 1
unfolding tick_distance round_above round_number
nine_by_one = refl

pub ten_by_two : tick_distance 10 ≡ 2
unfolding tick_distance round_above round_number
ten_by_two = refl

pub twenty_by_five : tick_distance 20 ≡ 5
unfolding tick_distance round_above round_number
twenty_by_five = refl

pub fifty_by_ten : tick_distance 50 ≡ 10
unfolding tick_distance round_above round_number
fifty_by_ten = refl

pub all_of_64_bits : tick_distance (2 ^ 64 - 1) ≡ 2000000000000000000
unfolding tick_distance round_above round_number
all_of_64_bits = refl

-- 200, 400, 600, 800, 1000 and 1200
pub six_ticks : tick_count (axis 137 1327) ≡ 6
unfolding tick_distance round_above round_number
six_ticks = refl

pub first_of_six : tick (axis 137 1327) 0 ≡ 200
unfolding tick_distance round_above round_number
first_of_six = refl

pub last_of_six : tick (axis 137 1327) 5 ≡ 1200
unfolding tick_distance round_above round_number
last_of_six = refl

pub half_way : along (axis 100 200) 150 8100 ≡ 4050
half_way = refl

pub one_generation : width_of (axis 7 7) ≡ 1
one_generation = refl

pub spanned : generation_axis dying ≡ axis 100 200
spanned = refl

pub up_to_twelve : count_axis dying ≡ axis 0 12
up_to_twelve = refl

-- ---- texts

pub numbers_of_a_state : state_line dying 2 ≡ codes "<polyline class=\"s2\" points=\" 100,2 150,12 200,0\"/>\n"
unfolding digits
numbers_of_a_state = refl

pub no_line : state_line dying 3 ≡ []
no_line = refl

pub drawn_curve : curve 3 (axes_of dying) dying 2 ≡ codes "<polyline stroke=\"#ffff00\" points=\" 1200,3967 5250,300 9300,4700\"><title>state 2</title></polyline>\n"
unfolding digits
drawn_curve = refl

pub drawn_at_its_end : placed (axis 100 200) 250 8100 ≡ 8100
drawn_at_its_end = refl

pub marked_generation : generation_tick (axis 100 200) 150 ≡ codes "<path stroke=\"#c0c0c0\" d=\"M5250 4700v80\"/><text x=\"5250\" y=\"4940\">150</text>\n"
unfolding digits
marked_generation = refl

pub marked_count : count_tick (axis 0 12) 6 ≡ codes "<path stroke=\"#c0c0c0\" d=\"M1120 2500h80\"/><text x=\"1080\" y=\"2550\">6</text>\n"
unfolding digits
marked_count = refl

-- one sample: a curve without length, and one tick on the axis of generations
pub one_sample : chart_text 2 (sample 7 (1 ∷ []) ∷ [])
    ≡ codes "<svg xmlns=\"http://www.w3.org/2000/svg\" viewBox=\"0 0 9600 5400\" font-family=\"sans-serif\" font-size=\"140\" fill=\"#c0c0c0\" stroke-width=\"10\">\n"
    ++ codes "<path class=\"ground\" fill=\"#303030\" d=\"M0 0h9600v5400h-9600z\"/>\n"
    ++ codes "<defs>\n<g class=\"numbers\">\n"
    ++ codes "<polyline class=\"generations\" points=\" 7,0\"/>\n"
    ++ codes "<polyline class=\"s1\" points=\" 7,1\"/>\n"
    ++ codes "</g>\n</defs>\n"
    ++ codes "<g fill=\"none\" stroke-linejoin=\"round\" stroke-width=\"15\">\n"
    ++ codes "<polyline stroke=\"#ff0000\" points=\" 1200,300\"><title>state 1</title></polyline>\n"
    ++ codes "</g>\n"
    ++ codes "<g class=\"generation-ticks\" text-anchor=\"middle\">\n<path stroke=\"#c0c0c0\" d=\"M1200 4700h8100\"/>\n"
    ++ codes "<path stroke=\"#c0c0c0\" d=\"M1200 4700v80\"/><text x=\"1200\" y=\"4940\">7</text>\n"
    ++ codes "<text x=\"5250\" y=\"5220\">generation</text>\n</g>\n"
    ++ codes "<g class=\"cell-ticks\" text-anchor=\"end\">\n<path stroke=\"#c0c0c0\" d=\"M1200 300v4400\"/>\n"
    ++ codes "<path stroke=\"#c0c0c0\" d=\"M1120 4700h80\"/><text x=\"1080\" y=\"4750\">0</text>\n"
    ++ codes "<path stroke=\"#c0c0c0\" d=\"M1120 300h80\"/><text x=\"1080\" y=\"350\">1</text>\n"
    ++ codes "<text x=\"1080\" y=\"180\">cells</text>\n</g>\n"
    ++ codes "</svg>\n"
unfolding digits tick_distance round_above round_number
one_sample = refl
