use Rattle.std.proofs.Common.{◌∙◌, ◌+◌, ◌≤◌, ap, sym, refl}
use Rattle.std.specs.Prelude.{max, ◌==◌, if◌then◌else◌}
use Rattle.multistate_rle.specs.Reading.{width_of, height_of}
use Rattle.multistate_rle.specs.Steps.{pen_of}
use Rattle.multistate_rle.proofs.StepLemmas.{draws_run, none_is}
use Rattle.multistate_rle.proofs.PatternLaws.{fine_run}
use Rattle.multistate_rle.proofs.SideLemmas.{width_with_run, height_with_run}
use Rattle.multistate_rle.proofs.tokens.TokenReader.draw_run.Goals as goal

pub returns : goal.returns
returns c = (
  sym c.run_fault.ensures ∙ none_is c.run_fault.result c.in_default.not-Some,
  draws_run c.args.self.now _ _ c.args.state refl refl c.in_ok-push_run.ensures.ok c.requires.begun,
)

pub invariant_of-self-2-clause-wide : goal.invariant_of-self-2-clause-wide
invariant_of-self-2-clause-wide c =
    let old = c.args.self.now in
    let some : 1 ≤ c.args.count = (fine_run c.args.place (pen_of c.args.self.now) c.args.count c.args.state (sym c.run_fault.ensures ∙ none_is c.run_fault.result c.in_default.not-Some)).some in
    c.reached-self.ensures
    ∙ ap (λ w. if c.args.state == 0 then w else max w (old.column + c.args.count)) old.wide
    ∙ sym (width_with_run old.cells.items c.args.count c.args.state old.column old.row some)
    ∙ ap (width_of 0) (sym c.in_ok-push_run.ensures.ok)

pub invariant_of-self-2-clause-high : goal.invariant_of-self-2-clause-high
invariant_of-self-2-clause-high c =
    let old = c.args.self.now in
    let some : 1 ≤ c.args.count = (fine_run c.args.place (pen_of c.args.self.now) c.args.count c.args.state (sym c.run_fault.ensures ∙ none_is c.run_fault.result c.in_default.not-Some)).some in
    c.reached-self-2.ensures
    ∙ ap (λ h. if c.args.state == 0 then h else max h (old.row + 1)) old.high
    ∙ sym (height_with_run old.cells.items c.args.count c.args.state old.column old.row some)
    ∙ ap (height_of 0) (sym c.in_ok-push_run.ensures.ok)
