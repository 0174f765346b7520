use Rattle.std.proofs.Common.{◌≡◌, ℕ, ◌<◌, ◌∙◌, ap, sym, subst, arith, inl, inr}
use Rattle.std.specs.Prelude.{Err}
use Rattle.std.proofs.lemmas.Bool.{cases_lt}
use Rattle.generations_rule.specs.Place.{Place}
use Rattle.generations_rule.specs.Rule.{GenerationsRule}
use Rattle.generations_rule.specs.Evolution.{at}
use Rattle.generation_engine.specs.Universe.{population_of, states_in_writes, states_of}
use Rattle.generation_engine.specs.Walk.{AreCellsOf}
use Rattle.stamped_tree.specs.Plane.{map_of}
use Rattle.export.specs.Export.{IsExportRefused, population_at, population_in_universe}
use Rattle.export.proofs.ExportLaws.{cells_below, one_map, when_err, when_ok}
use Rattle.export.proofs.exporting.cells_of.Goals as goal

shown_cells : (c : goal.After-cells_within) → states_of c.args.engine.now ≡ at c.args.rule.now (states_in_writes (map_of c.args.plane.now)) c.args.generation
shown_cells c =
    let f : Place → ℕ = states_in_writes (map_of c.args.plane.now) in
    let e = c.args.engine.now in
    one_map _ _ c.requires.run.shows ∙ ap (λ (t : GenerationsRule). at t f e.generation) c.requires.run.rule ∙ ap (λ (n : ℕ). at c.args.rule.now f n) c.requires.at

counted : (c : goal.After-cells_within) → population_of c.args.engine.now ≡ population_at c.args.rule.now (states_in_writes (map_of c.args.plane.now)) c.args.generation
counted c = ap (λ h. population_in_universe h) (shown_cells c)

pub returns-clause-cells : goal.returns-clause-cells
returns-clause-cells c = when_ok _ _ c.cells_within.result (λ listed is are.
    (let f : Place → ℕ = states_in_writes (map_of c.args.plane.now) in
    let cells : AreCellsOf (at c.args.rule.now f c.args.generation) listed.items = subst (λ h. AreCellsOf h listed.items) (shown_cells c) are in
    record {
      few = elim (cases_lt c.args.limit (population_at c.args.rule.now f c.args.generation)) [
        | inl over ↦ (let refused = c.cells_within.ensures.too_many.1 (let count = counted c in omega (arith, over, count)) in absurd (cc))
        | inr few ↦ few
      ];
      are_cells = cells;
      below = cells_below c.args.rule.now f c.args.generation listed.items c.states-states.ensures.rule c.requires.states cells;
    })) c.cells_within.ensures.cells

pub returns-clause-err : goal.returns-clause-err
returns-clause-err c = when_err _ _ c.cells_within.result (λ fault is told_as. elim told_as [
  | inl over ↦ subst (λ e. IsExportRefused c.args.rule.now (states_in_writes (map_of c.args.plane.now)) c.args.generation c.args.limit e) (sym over)
      (inr (c.requires.generation, subst (λ n. c.args.limit < n) (counted c) (c.cells_within.ensures.too_many.0 (is ∙ ap (λ e. Err e) over))))
  | inr want ↦ subst (λ e. IsExportRefused c.args.rule.now (states_in_writes (map_of c.args.plane.now)) c.args.generation c.args.limit e) (sym want) (inl (tt, c.requires.generation))
]) c.cells_within.ensures.err
