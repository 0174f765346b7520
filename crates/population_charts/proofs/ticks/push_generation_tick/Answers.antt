use Rattle.std.proofs.Common.{◌≡◌, ◌+◌, ◌∙◌, ap, ℕ}
use Rattle.population_charts.specs.Axis.{along}
use Rattle.cell_pictures.proofs.DrawnLaws.{◌⊕◌, last_push}
use Rattle.population_charts.proofs.ticks.push_generation_tick.Goals as goal

pub returns : goal.returns
returns g c =
    let place : 1200 + c.from-x.result ≡ 1200 + along c.args.axis c.args.number 8100 = ap (λ (n : ℕ). 1200 + n) (c.from-x.ensures ∙ c.along.ensures.along) in
    let mark = rw place at c.in_ok-push_number.ensures in
    let label = rw place at c.in_ok-push_number-2.ensures in
    last_push (mark ⊕ label ⊕ c.in_ok-push_number-3.ensures) c.push_all.ensures
