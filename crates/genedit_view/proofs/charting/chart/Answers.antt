use Rattle.std.proofs.Common.{◌∙◌, ap, refl, Err}
use Rattle.std.proofs.lemmas.Result.{err_from_is_err_and}
use Rattle.genedit_view.specs.declared.fault.ViewFault.{ViewFault}
use Rattle.genedit_view.specs.Samples.IsChart.{Charted, NotCharted}
use Rattle.genedit_view.proofs.charting.chart.Goals as goal

pub returns-in_err-told : goal.returns-in_err-told
returns-in_err-told g c =
    let p = err_from_is_err_and c.from_residual.result c.from_residual.ensures.1 in
    NotCharted c.in_err-told.field-0.0 (p.1 ∙ ap (λ (e : ViewFault). Err e) p.2) c.in_err-told.ensures.fault refl

pub returns-in-Ok : goal.returns-in-Ok
returns-in-Ok g c = Charted c.in_ok-told.told.rule c.in_ok-told.told.samples.items c.in_ok-told.ensures.samples c.in-Ok.ensures.drawn tt c.in_ok-told.ensures.bounds

pub returns-in-Err : goal.returns-in-Err
returns-in-Err g c = Charted c.in_ok-told.told.rule c.in_ok-told.told.samples.items c.in_ok-told.ensures.samples c.in-Err.ensures.drawn c.in-Err.ensures.fault tt
