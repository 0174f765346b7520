use Rattle.std.proofs.Common.{subst}
use Rattle.generations_rule.specs.Rule.{GenerationsRule}
use Rattle.stamped_tree.specs.Plane.{StampedPlane, map_of}
use Rattle.generation_engine.specs.Universe.{states_in_writes}
use Rattle.map_periods.specs.Periods.{IsRefusedWithin}
use Rattle.map_periods.specs.PlanePeriods.{refuses_export}
use Rattle.told_generations.proofs.OutcomeLaws.{on_ok}
use Rattle.told_generations.proofs.SearchLaws.{refusal_printed}
use Rattle.told_generations.proofs.period.push_period.Goals as goal

pub returns-in-Err-clause-told : goal.returns-in-Err-clause-told
returns-in-Err-clause-told c =
    let states = states_in_writes (map_of c.args.replica.now.plane) in
    let of_plane =
    subst (λ (p : StampedPlane). IsRefusedWithin c.rule.result (states_in_writes (map_of p)) (refuses_export c.rule.result (states_in_writes (map_of p))) c.args.first c.args.most c.in-Err.fault)
    c.plane.ensures.value c.in-Err.ensures.refused in
    let within = subst (λ (r : GenerationsRule). IsRefusedWithin r states (refuses_export r states) c.args.first c.args.most c.in-Err.fault) c.rule.ensures of_plane in
    on_ok c.push_refusal.result _ _ (λ line. refusal_printed c.args.replica.now.rule states c.args.first c.args.most c.args.out.now.items c.push_refusal.new.out.items c.in-Err.fault within line)
    c.push_refusal.ensures.told
