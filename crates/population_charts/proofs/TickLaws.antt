-- Multiples of a number between two others.
use Rattle.std.proofs.Common.{◌≡◌, inl, inr, ℕ, ◌+◌, ◌-◌, ◌*◌, ◌/◌, ◌<◌, ◌≤◌, ◌^◌, ◌∙◌, ap, sym, subst, arith}
use Rattle.std.specs.Prelude.{nat_lt}
use Rattle.std.proofs.lemmas.Bool.{cases_Bool}
use Rattle.std.proofs.lemmas.Bool.Decides.{nat_tests}
use Rattle.std.specs.Int.{div_ceil}
use Rattle.population_charts.specs.Axis.{distance_of, round_number, span_of}
use Rattle.population_charts.specs.Laws.{HasRoundTicks, IsRound}
use Rattle.population_charts.proofs.RoundLaws.{distance_is, first_above, is_round, least_beyond, reaches_beyond, round_is, round_some}
use Rattle.std.proofs.Math.Nat.{le-div_iff_mul-le, lt_of_mul-lt-mul_right, mul-le-mul_right}
use Rattle.std.proofs.lemmas.Grind.{div_ceil_times}

add_times : (a b d : ℕ) → (a + b) * d ≡ a * d + b * d
add_times a b d = omega arith

pub from_low : (low d k : ℕ) → 0 < d → low ≤ (div_ceil low d + k) * d
from_low low d k some =
    let ceil = div_ceil_times low d some in
    let more : div_ceil low d * d ≤ (div_ceil low d + k) * d = mul-le-mul_right d (omega arith) in
    omega (arith, ceil.0, more)

pub to_high : (low high d k : ℕ) → 0 < d → k < high / d + 1 - div_ceil low d → (div_ceil low d + k) * d ≤ high
to_high low high d k some below =
    let le : div_ceil low d + k ≤ high / d = omega arith in
    (le-div_iff_mul-le some).0 le

pub few_between : (low high d : ℕ) → 0 < d → high - low < 10 * d → high / d + 1 - div_ceil low d ≤ 10
few_between low high d some reaches = elim (cases_Bool (nat_lt 10 (high / d + 1 - div_ceil low d))) [
  | inl many ↦
      let more : 10 < high / d + 1 - div_ceil low d = grind (arith, nat_tests) in
      let high_end = to_high low high d 10 some more in
      let low_end = from_low low d 0 some in
      let apart = add_times (div_ceil low d) 10 d in
      let start = add_times (div_ceil low d) 0 d in
      absurd (omega (arith, high_end, low_end, apart, start))
  | inr few ↦ grind (arith, nat_tests)
]

pub each_between : (low high d m : ℕ) → 0 < d → low ≤ m * d → m * d ≤ high → (k : ℕ) × ((k < high / d + 1 - div_ceil low d) × ((div_ceil low d + k) * d ≡ m * d))
each_between low high d m some from to =
    let ceil = div_ceil_times low d some in
    let next = add_times m 1 d in
    let first : div_ceil low d < m + 1 = lt_of_mul-lt-mul_right d (omega (arith, ceil.1, next)) in
    let last : m ≤ high / d = (le-div_iff_mul-le some).1 to in
    let same : div_ceil low d + (m - div_ceil low d) ≡ m = omega arith in
    (m - div_ceil low d, (omega arith, ap (λ k. k * d) same))

-- ---- the ticks of an axis

pub has_round_ticks : HasRoundTicks
has_round_ticks a ordered small =
    let span : span_of a < 2 ^ 64 = omega arith in
    let first = first_above 55 0 (span_of a / 10) in
    let same : distance_of a ≡ round_number first.index = distance_is (span_of a) ∙ first.is in
    let some : 0 < distance_of a = subst (λ d. 0 < d) (sym same) (subst (λ d. 0 < d) (round_is first.index) (round_some first.index)) in
    let reaches = reaches_beyond (span_of a) span in
    record {
      round = subst IsRound (sym same) (is_round first.index);
      reaches = reaches;
      least = λ n is beyond. least_beyond (span_of a) n is beyond;
      few = few_between a.low a.high (distance_of a) some reaches;
      low = λ k below. from_low a.low (distance_of a) k some;
      high = λ k below. to_high a.low a.high (distance_of a) k some below;
      all = λ m from to. each_between a.low a.high (distance_of a) m some from to;
    }
