use Rattle.std.proofs.Common.{subst}
use Rattle.std.specs.Prelude.{IfErr}
use Rattle.generations_rule.specs.Rule.{GenerationsRule}
use Rattle.stamped_tree.specs.Plane.{StampedPlane, map_of}
use Rattle.generation_engine.specs.Universe.{states_in_writes}
use Rattle.map_periods.specs.Periods.{IsRefusedWithin}
use Rattle.map_periods.specs.PlanePeriods.{refuses_export}
use Rattle.map_periods.proofs.plane.period_in.Goals as goal

pub returns-clause-refused : goal.returns-clause-refused
returns-clause-refused c =
    let source = c.of-generations.result in
    let refused : GenerationsRule → StampedPlane → Type 0 = λ r p. IfErr c.period_of.result (IsRefusedWithin r (states_in_writes (map_of p)) (refuses_export r (states_in_writes (map_of p))) c.args.first c.args.most) in
    subst (λ (r : GenerationsRule). refused r c.args.plane.now) c.of-generations.ensures.rule
    (subst (λ (p : StampedPlane). refused source.rule.now p) c.of-generations.ensures.plane c.period_of.ensures.refused)
