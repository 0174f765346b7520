use Rattle.std.proofs.Common.{◌≡◌, ◌≤◌, ◌∙◌, ℕ}
use Rattle.cell_pictures.proofs.DrawnLaws.{◌⊕◌, last_push, pushed, text_more}
use Rattle.population_charts.specs.Axis.{tick, tick_count}
use Rattle.population_charts.specs.Chart.{count_tick}
use Rattle.population_charts.proofs.LineLaws.{same_number, texts_to}
use Rattle.population_charts.proofs.ticks.push_count_ticks.Goals as goal

pub loop-number-preserved : goal.loop-number-preserved
loop-number-preserved g c =
    let k = g.K.Sink.known in
    let drawn = rw c.tick.ensures.tick at c.in_ok-push_count_tick.ensures in
    text_more (k c.push_all.new.self) (k c.loop-number.sink) (k c.push_count_tick.new.sink) c.loop-number.number
    (λ (n : ℕ). count_tick c.args.axis (tick c.args.axis n)) c.loop-number.invariant drawn

pub returns : goal.returns
returns g c =
    let k = g.K.Sink.known in
    let all : c.loop-number.number ≡ tick_count c.args.axis =
    let low : c.tick_count-number-end.result ≤ c.loop-number.number = c.loop-number-test.false in
    let high : c.loop-number.number ≤ c.tick_count-number-end.result = c.loop-number.auto.number-end in
    same_number c.loop-number.number c.tick_count-number-end.result high low ∙ c.tick_count-number-end.ensures in
    let ticks = texts_to (k c.push_all.new.self) (k c.loop-number.sink) c.loop-number.number (tick_count c.args.axis)
    (λ (n : ℕ). count_tick c.args.axis (tick c.args.axis n)) all c.loop-number.invariant in
    last_push (pushed c.in_ok-push_all.ensures ⊕ ticks) c.push_all-2.ensures
