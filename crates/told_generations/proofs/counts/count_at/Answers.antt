use Rattle.std.proofs.Common.{subst}
use Rattle.generations_rule.specs.Rule.{GenerationsRule}
use Rattle.stamped_tree.specs.Plane.{StampedPlane, map_of}
use Rattle.generation_engine.specs.Universe.{states_in_writes}
use Rattle.export.specs.Asking.{CountsAt}
use Rattle.told_generations.proofs.counts.count_at.Goals as goal

pub returns-in-Ok-clause-count : goal.returns-in-Ok-clause-count
returns-in-Ok-clause-count c =
    let counted = subst (λ (p : StampedPlane). CountsAt c.rule.result (states_in_writes (map_of p)) c.args.generation c.in-Ok.count) c.plane.ensures.value c.in-Ok.ensures.count.1 in
    subst (λ (r : GenerationsRule). CountsAt r (states_in_writes (map_of c.args.replica.now.plane)) c.args.generation c.in-Ok.count) c.rule.ensures counted
