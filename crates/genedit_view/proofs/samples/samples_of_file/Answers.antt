use Rattle.std.proofs.Common.{◌≡◌, ◌∙◌, ℕ, inr, ap, subst}
use Rattle.generations_rule.specs.Place.{Place}
use Rattle.stamped_tree.specs.Plane.{map_of}
use Rattle.generation_engine.specs.Universe.{states_in_writes}
use Rattle.export.proofs.ExportLaws.{one_map}
use Rattle.cell_pictures.specs.Shown.{state_at}
use Rattle.genedit_view.specs.Samples.{AreNotSampled, AreSampledIn}
use Rattle.genedit_view.proofs.SeenLaws.{at_end}
use Rattle.genedit_view.proofs.samples.samples_of_file.Goals as goal

pub returns-in_err-samples-clause-fault : goal.returns-in_err-samples-clause-fault
returns-in_err-samples-clause-fault c =
    let r = c.in_ok-seen.seen.rule in
    let cells = c.in_ok-seen.seen.cells.items in
    let f = states_in_writes (map_of c.in_ok-plane.plane) in
    let same : f ≡ state_at cells = one_map f (state_at c.deref.result.now) c.in_ok-plane.ensures.states ∙ ap state_at c.deref.ensures.value in
    at_end c.from_residual-in_err-samples.result _ _ c.from_residual-in_err-samples.ensures.1
    (λ e told. inr (inr (record {
      rule = r;
      states = state_at cells;
      read = c.in_ok-seen.ensures.read;
      refusal = c.in_err-samples.field-0.0;
      refused = subst (λ (h : Place → ℕ). AreNotSampled r h c.args.range c.in_err-samples.field-0.0) same c.in_err-samples.ensures.refused;
      told = told;
    })))

pub returns-clause-samples : goal.returns-clause-samples
returns-clause-samples c =
    let r = c.in_ok-seen.seen.rule in
    let cells = c.in_ok-seen.seen.cells.items in
    let f = states_in_writes (map_of c.in_ok-plane.plane) in
    let same : f ≡ state_at cells = one_map f (state_at c.deref.result.now) c.in_ok-plane.ensures.states ∙ ap state_at c.deref.ensures.value in
    record {
      states = state_at cells;
      read = c.in_ok-seen.ensures.read;
      within = c.in_ok-samples.ensures.range;
      are = subst (λ (h : Place → ℕ). AreSampledIn r h c.args.range c.in_ok-samples.samples.items) same c.in_ok-samples.ensures.samples;
    }
