use Rattle.std.proofs.Common.{◌≡◌, ◌∙◌, ap, subst, rules, refl, ℕ, List}
use Rattle.std.specs.Prelude.{Ok, Err}
use Rattle.devices.specs.Sink.{IsPush}
use Rattle.script_check.specs.Check.{ReportsAs, ComesTo, outcome_of}
use Rattle.genedit_io.specs.Runs.IsRun.{Pushed, Refused, Left}
use Rattle.script_check.proofs.CheckLemmas.{push_made, push_failed}
use Rattle.script_check.proofs.check.check_script.Goals as goal

pub returns-in_err-script-clause-run : goal.returns-in_err-script-clause-run
returns-in_err-script-clause-run g c = Left _ (search rules) c.in_err-script.ensures.left refl

pub returns-in_err-report-clause-run : goal.returns-in_err-report-clause-run
returns-in_err-report-clause-run g c = Refused _ c.in_err-report.field-0.0 (search rules) c.in_ok-script.ensures.all (search rules) refl

pub returns-in_err-push_output-clause-run : goal.returns-in_err-push_output-clause-run
returns-in_err-push_output-clause-run g c =
    let name = c.args.name.now in
    let out = c.in_ok-report.report.text.items in
    let reports : ReportsAs name c.in_ok-script.script.items out =
    subst (λ (t : List ℕ). ReportsAs name t out) c.deref.ensures.value (record {
      notes = c.in_ok-report.report.notes.notes.items;
      refusals = c.in_ok-report.report.refusals.items;
      faults = c.in_ok-report.ensures.faults;
      first = c.in_ok-report.ensures.first;
      refused = c.in_ok-report.ensures.refusals;
      printed = c.in_ok-report.ensures.text;
    }) in
    let is : c.from_residual-in_err-push_output.result ≡ Err c.in_err-push_output.field-0.0 = search rules in
    let failed : c.push_output.result ≡ Err c.in_err-push_output.field-0.0 = search rules in
    let pushed : IsPush (g.K.Sink.known c.args.sink.now) (g.K.Sink.known c.push_output.new.sink) c.push_output.result out =
    subst (λ (t : List ℕ). IsPush (g.K.Sink.known c.args.sink.now) (g.K.Sink.known c.push_output.new.sink) c.push_output.result t) c.deref-2.ensures.value c.push_output.ensures.pushed in
    rw is (Pushed c.in_ok-script.script.items out c.in_ok-script.ensures.all reports
    (push_failed _ _ c.push_output.result c.in_err-push_output.field-0.0 out failed pushed) (search rules))

pub returns-clause-run : goal.returns-clause-run
returns-clause-run g c =
    let name = c.args.name.now in
    let out = c.in_ok-report.report.text.items in
    let reports : ReportsAs name c.in_ok-script.script.items out =
    subst (λ (t : List ℕ). ReportsAs name t out) c.deref.ensures.value (record {
      notes = c.in_ok-report.report.notes.notes.items;
      refusals = c.in_ok-report.report.refusals.items;
      faults = c.in_ok-report.ensures.faults;
      first = c.in_ok-report.ensures.first;
      refused = c.in_ok-report.ensures.refusals;
      printed = c.in_ok-report.ensures.text;
    }) in
    let made : c.push_output.result ≡ Ok c.in_ok-push_output.field-0 = search rules in
    let pushed : IsPush (g.K.Sink.known c.args.sink.now) (g.K.Sink.known c.push_output.new.sink) c.push_output.result out =
    subst (λ (t : List ℕ). IsPush (g.K.Sink.known c.args.sink.now) (g.K.Sink.known c.push_output.new.sink) c.push_output.result t) c.deref-2.ensures.value c.push_output.ensures.pushed in
    Pushed c.in_ok-script.script.items out c.in_ok-script.ensures.all reports
    (push_made _ _ c.push_output.result c.in_ok-push_output.field-0 c.outcome-outcome.result out made pushed) (search rules)

pub returns-clause-outcome : goal.returns-clause-outcome
returns-clause-outcome g c =
    let comes : ComesTo c.deref.result.now c.outcome-outcome.result = record {
      refusals = c.in_ok-report.report.refusals.items;
      refused = c.in_ok-report.ensures.refusals;
      is = c.outcome-outcome.ensures ∙ ap (λ (lines : List ℕ). outcome_of lines c.in_ok-report.report.refusals.items) c.in_ok-report.ensures.faults;
    } in
    (c.in_ok-script.script.items, c.in_ok-script.ensures.all, subst (λ (t : List ℕ). ComesTo t c.outcome-outcome.result) c.deref.ensures.value comes)
