use Rattle.std.proofs.Common.{◌≡◌, ℕ, ◌+◌, ◌<◌, length, take, get_or}
use Rattle.std.specs.Prelude.{◌==◌, count_by}
use Rattle.population_charts.proofs.sample.count_states.Given as goal

abbrev pub invariant-loop-cell : goal.invariant-loop-cell
invariant-loop-cell l = (n : ℕ) → n < length l.counts → get_or l.counts n 0 ≡ count_by (λ c. c.state == n + 1) (take l.cell-index l.cells)
