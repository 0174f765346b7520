use Rattle.std.proofs.Common.{◌+◌, ℕ}
use Rattle.cell_pictures.proofs.DrawnLaws.{text_more}
use Rattle.population_charts.specs.Chart.{state_line}
use Rattle.population_charts.proofs.lines.push_state_lines.Goals as goal

pub loop-before-preserved : goal.loop-before-preserved
loop-before-preserved g c =
    let k = g.K.Sink.known in
    text_more (k c.args.sink.now) (k c.loop-before.sink) (k c.push_state_line.new.sink) c.loop-before.before
    (λ (n : ℕ). state_line c.args.samples.now (n + 1)) c.loop-before.invariant c.in_ok-push_state_line.ensures
