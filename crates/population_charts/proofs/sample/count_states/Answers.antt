use Rattle.std.proofs.Common.{◌≡◌, ◌≢◌, ℕ, ◌+◌, ◌-◌, ◌<◌, ◌∙◌, length, take, get_or, arith, pos, sym, subst}
use Rattle.pattern_cells.specs.declared.cell.Cell.{Cell}
use Rattle.population_charts.proofs.CountLaws.{AreCounted, counted_none, counted_one}
use Rattle.population_charts.proofs.sample.count_states.Goals as goal
use Rattle.population_charts.proofs.sample.count_states.Goals.{then-state-gt0+then-state-counts, else-state-gt0}

abbrev none : Cell
none = record { x = pos 0; y = pos 0; state = 0 }

pub loop-cell-preserved : goal.loop-cell-preserved
loop-cell-preserved c =
    let cells = c.args.cells.now in
    let i = c.loop-cell.cell-index in
    let here = c.from-state.ensures in
    elim c.if-state-gt0.branch [
      | then-state-gt0+then-state-counts w ↦
          let some = w.if-state-gt0.true in
          let known = w.if-state-counts.true in
          let is : (get_or cells i none).state ≡ c.from-state.result - 1 + 1 = sym here ∙ omega arith in
          subst (λ counts. AreCounted counts (take (i + 1) cells)) (sym w.counts-is)
          (counted_one c.loop-cell.counts cells i (c.from-state.result - 1) none c.loop-cell-test.true (omega arith) is c.loop-cell.invariant)
      | else-state-gt0 w ↦
          let either = w.else-state-gt0.either in
          let other : (n : ℕ) → n < length c.loop-cell.counts → (get_or cells i none).state ≢ n + 1 = λ n within. omega arith in
          subst (λ counts. AreCounted counts (take (i + 1) cells)) (sym w.counts-is) (counted_none c.loop-cell.counts cells i none c.loop-cell-test.true other c.loop-cell.invariant)
    ]
