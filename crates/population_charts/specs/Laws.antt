-- What the definitions obey.
use Rattle.std.specs.Prelude.{◌≡◌, ◌⊎◌, ℕ, ◌*◌, ◌<◌, ◌≤◌, ◌^◌, List, length}
use Rattle.std.specs.List.{All}
use Rattle.population_charts.specs.declared.axis.Axis.{Axis}
use Rattle.population_charts.specs.Axis.{distance_of, span_of, tick, tick_count}
use Rattle.population_charts.specs.Chart.{chart_text}
use Rattle.population_charts.specs.Sample.{SampleValue, counts_of, generations_of}

-- a sample of numbers of 64 bits, with none of a state that a rule of so many states has not
pub record IsSample (states : ℕ) (s : SampleValue) : Type 0 where
  pub generation : s.generation < 2 ^ 64
  pub counts : All (λ n. n < 2 ^ 64) s.counts
  pub below : length s.counts < states

-- Two charts with one text have the same generations, and of each state the same numbers of cells, whatever their rules.
abbrev pub HasOneReading : Type 0
HasOneReading = (states states' : ℕ) (samples samples' : List SampleValue) → states ≤ 256 → states' ≤ 256 → All (IsSample states) samples → All (IsSample states') samples' →
    chart_text states samples ≡ chart_text states' samples' → (generations_of samples ≡ generations_of samples') × ((state : ℕ) → counts_of state samples ≡ counts_of state samples')

-- 1, 2 or 5 times a power of ten
pub record IsRound (n : ℕ) : Type 0 where
  pub power : ℕ
  pub is : (n ≡ 10 ^ power) ⊎ (n ≡ 2 * 10 ^ power) ⊎ (n ≡ 5 * 10 ^ power)

-- The ticks of an axis are its multiples of a round number, the least of which ten reach beyond its span, and ten at most.
pub record IsTicked (a : Axis) : Type 0 where
  pub round : IsRound (distance_of a)
  pub reaches : span_of a < 10 * distance_of a
  pub least : (n : ℕ) → IsRound n → span_of a < 10 * n → distance_of a ≤ n
  pub few : tick_count a ≤ 10
  pub low : (k : ℕ) → k < tick_count a → a.low ≤ tick a k
  pub high : (k : ℕ) → k < tick_count a → tick a k ≤ a.high
  pub all : (m : ℕ) → a.low ≤ m * distance_of a → m * distance_of a ≤ a.high → (k : ℕ) × ((k < tick_count a) × (tick a k ≡ m * distance_of a))

-- of each axis of 64 bits
abbrev pub HasRoundTicks : Type 0
HasRoundTicks = (a : Axis) → a.low ≤ a.high → a.high < 2 ^ 64 → IsTicked a
