use Rattle.std.proofs.Common.{◌≡◌, ◌≤◌, ◌<◌, ◌+◌, ◌^◌, ℕ, true, ◌∙◌, ap, inr, length, get_or, sym, subst, arith}
use Rattle.std.specs.Prelude.{is_ok, not}
use Rattle.generations_rule.specs.Place.{Place}
use Rattle.generations_rule.specs.Rule.{GenerationsRule}
use Rattle.stamped_tree.specs.Plane.{map_of}
use Rattle.generation_engine.specs.Universe.{states_in_writes}
use Rattle.command_words.specs.Ranges.{generation_at, steps_of}
use Rattle.map_periods.specs.PlanePeriods.{refuses_export}
use Rattle.map_periods.proofs.PeriodLaws.{at_end}
use Rattle.population_charts.specs.Sample.{SampleValue}
use Rattle.genedit_view.specs.Samples.{IsSampledAt}
use Rattle.genedit_view.proofs.SampleLaws.{appended, each_more, one_longer, said_of_same}
use Rattle.genedit_view.proofs.samples.samples_in.Goals as goal

pub returns-in_err-sample-clause-refused : goal.returns-in_err-sample-clause-refused
returns-in_err-sample-clause-refused c =
    let r = c.args.rule.now in
    let f : Place → ℕ = states_in_writes (map_of c.args.plane.now) in
    let now = c.loop-steps.invariant in
    let source = c.loop-steps.generations in
    let fault = c.in_err-sample.field-0.0 in
    let count : c.from-steps-end.result ≡ steps_of c.args.range = c.from-steps-end.ensures ∙ c.steps.ensures in
    let le : c.loop-steps.steps ≤ c.from-steps-end.result = omega arith in
    let refused = said_of_same (λ (t : GenerationsRule) (h : Place → ℕ). refuses_export t h c.at.result fault) source.rule.now r (states_in_writes (map_of source.plane.now)) f now.rule now.map c.in_err-sample.ensures.refused in
    at_end c.from_residual.result _ _ c.from_residual.ensures.1
    (λ e told. inr (record {
      within = subst (λ n. n ≤ 2 ^ 29) c.last_generation.ensures c.if-last_generation-gt-LAST_GENERATION.false;
      steps = c.loop-steps.steps;
      one = subst (λ n. c.loop-steps.steps ≤ n) count le;
      refused = subst (λ x. refuses_export r f (generation_at c.args.range c.loop-steps.steps) x) (sym told) (subst (λ n. refuses_export r f n fault) c.at.ensures refused);
    }))

pub loop-steps-preserved : goal.loop-steps-preserved
loop-steps-preserved c =
    let r = c.args.rule.now in
    let f : Place → ℕ = states_in_writes (map_of c.args.plane.now) in
    let now = c.loop-steps.invariant in
    let source = c.loop-steps.generations in
    let sample = c.in_ok-sample.sample in
    let before = c.loop-steps.samples.items in
    let ok : is_ok c.push.result ≡ true = c.is_err.ensures.negation ∙ ap not c.if-is_err.false in
    let all = appended c.push.result before c.push.new.self.items sample ok c.push.ensures.items in
    let moved = said_of_same (λ (t : GenerationsRule) (h : Place → ℕ). IsSampledAt t h c.at.result sample) source.rule.now r (states_in_writes (map_of source.plane.now)) f now.rule now.map c.in_ok-sample.ensures.sample in
    let last = subst (λ n. IsSampledAt r f n sample) c.at.ensures moved in
    let P : ℕ → SampleValue → Type 0 = λ k s. IsSampledAt r f (generation_at c.args.range k) s in
    record {
      rule = c.sample_at.ensures.rule ∙ now.rule;
      map = c.sample_at.ensures.map ∙ now.map;
      many = ap length all ∙ one_longer before sample c.loop-steps.steps now.many;
      each = subst (λ xs. (k : ℕ) (d : SampleValue) → k < c.loop-steps.steps + 1 → P k (get_or xs k d)) (sym all) (each_more P before sample c.loop-steps.steps now.many now.each last);
    }
