-- An axis, and its ticks at the multiples of a round number.
use Rattle.std.specs.Prelude.{ℕ, zero, suc, ◌+◌, ◌-◌, ◌*◌, ◌/◌, ◌%◌, ◌^◌, List, [], ◌∷◌, Option, Some, None, length, max, min, nat_lt, slice_get, slice_index, if◌then◌else◌}
use Rattle.std.specs.Int.{div_ceil}
use Rattle.population_charts.specs.declared.axis.Axes.{Axes}
use Rattle.population_charts.specs.declared.axis.Axis.{Axis}
use Rattle.population_charts.specs.Sample.{SampleValue, most_cells}

-- ---- round numbers

-- 1, 2, 5, 10, 20, 50, ..
unfoldable pub round_number : ℕ → ℕ
round_number place = slice_index (1 ∷ 2 ∷ 5 ∷ []) (place % 3) * 10 ^ (place / 3)

-- the first round number above n, from a place on; after so many that are not, the next
unfoldable pub round_above : ℕ → ℕ → ℕ → ℕ
round_above zero place n = round_number place
round_above (suc more) place n = if nat_lt n (round_number place) then round_number place else round_above more (place + 1) n

-- how far apart the ticks of a span are: the least round number of which ten reach beyond it
unfoldable pub tick_distance : ℕ → ℕ
tick_distance span = round_above 55 0 (span / 10)

-- ---- axes

abbrev pub span_of : Axis → ℕ
span_of a = a.high - a.low

-- the distance of its ticks
abbrev pub distance_of : Axis → ℕ
distance_of a = tick_distance (span_of a)

-- the least multiple of the distance that is not before the axis, as its number
abbrev pub first_tick : Axis → ℕ
first_tick a = div_ceil a.low (distance_of a)

-- how many multiples of the distance the axis has
abbrev pub tick_count : Axis → ℕ
tick_count a = a.high / distance_of a + 1 - first_tick a

-- its ticks, counted from 0
abbrev pub tick : Axis → ℕ → ℕ
tick a k = (first_tick a + k) * distance_of a

-- the side of the drawn axis, which has some width where one number alone is on it
abbrev pub width_of : Axis → ℕ
width_of a = max (span_of a) 1

-- how far a number is along an axis that is drawn so many units long
abbrev pub along : Axis → ℕ → ℕ → ℕ
along a number units = (number - a.low) * units / width_of a

-- the same of any number; one that is not on the axis is drawn at its end
abbrev pub placed : Axis → ℕ → ℕ → ℕ
placed a number units = min (number - a.low) (span_of a) * units / width_of a

-- ---- the axes of a chart

abbrev pub generation_or_zero : Option SampleValue → ℕ
generation_or_zero None = 0
generation_or_zero (Some s) = s.generation

-- from the first sampled generation to the last
abbrev pub generation_axis : List SampleValue → Axis
generation_axis samples = record { low = generation_or_zero (slice_get samples 0); high = generation_or_zero (slice_get samples (length samples - 1)) }

-- from none to the most cells
abbrev pub count_axis : List SampleValue → Axis
count_axis samples = record { low = 0; high = most_cells samples }

abbrev pub axes_of : List SampleValue → Axes
axes_of samples = record { generations = generation_axis samples; counts = count_axis samples }
