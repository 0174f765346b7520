use Rattle.std.proofs.Common.{◌≡◌, ◌∙◌, ℕ, inr, ap, subst}
use Rattle.generations_rule.specs.Place.{Place}
use Rattle.stamped_tree.specs.Plane.{map_of}
use Rattle.generation_engine.specs.Universe.{states_in_writes}
use Rattle.export.proofs.ExportLaws.{one_map}
use Rattle.cell_pictures.specs.Shown.{state_at}
use Rattle.map_periods.specs.Periods.{IsPeriodOf, IsRefusedWithin}
use Rattle.map_periods.specs.PlanePeriods.{refuses_export}
use Rattle.genedit_view.proofs.SeenLaws.{at_end}
use Rattle.genedit_view.proofs.period.period_of_file.Goals as goal

pub returns-in_err-period-clause-fault : goal.returns-in_err-period-clause-fault
returns-in_err-period-clause-fault c =
    let r = c.in_ok-seen.seen.rule in
    let cells = c.in_ok-seen.seen.cells.items in
    let f = states_in_writes (map_of c.in_ok-plane.plane) in
    let same : f ≡ state_at cells = one_map f (state_at c.deref.result.now) c.in_ok-plane.ensures.states ∙ ap state_at c.deref.ensures.value in
    at_end c.from_residual-in_err-period.result _ _ c.from_residual-in_err-period.ensures.1
    (λ e told. inr (inr (record {
      rule = r;
      states = state_at cells;
      read = c.in_ok-seen.ensures.read;
      refusal = c.in_err-period.field-0.0;
      refused = subst (λ (h : Place → ℕ). IsRefusedWithin r h (refuses_export r h) c.args.search.first c.args.search.most c.in_err-period.field-0.0) same c.in_err-period.ensures.refused;
      told = told;
    })))

pub returns-clause-period : goal.returns-clause-period
returns-clause-period c =
    let r = c.in_ok-seen.seen.rule in
    let cells = c.in_ok-seen.seen.cells.items in
    let f = states_in_writes (map_of c.in_ok-plane.plane) in
    let same : f ≡ state_at cells = one_map f (state_at c.deref.result.now) c.in_ok-plane.ensures.states ∙ ap state_at c.deref.ensures.value in
    record {
      rule = r;
      states = state_at cells;
      read = c.in_ok-seen.ensures.read;
      within = c.in_ok-period.ensures.range;
      is = subst (λ (h : Place → ℕ). IsPeriodOf r h c.args.search.first c.args.search.most c.in_ok-period.period) same c.in_ok-period.ensures.period;
    }
