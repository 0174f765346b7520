use Rattle.std.proofs.Common.{ap}
use Rattle.stamped_tree.specs.Plane.{StampedPlane, map_of}
use Rattle.generation_engine.specs.Universe.{states_in_writes}
use Rattle.told_generations.proofs.MacrocellLaws.{macrocell_of_run}
use Rattle.told_generations.proofs.macrocell.macrocell_of.Goals as goal

pub returns-in_ok-text-in-Ok-clause-text : goal.returns-in_ok-text-in-Ok-clause-text
returns-in_ok-text-in-Ok-clause-text c =
    macrocell_of_run c.args.replica.now.rule c.rule-rule.result (states_in_writes (map_of c.args.replica.now.plane)) (states_in_writes (map_of c.plane.result.now)) c.args.generation c.from.result c.in-Ok.engine c.in_ok-text-in-Ok.text.items
    c.rule-rule.ensures (ap (λ (p : StampedPlane). states_in_writes (map_of p)) c.plane.ensures.value) c.from.ensures c.in-Ok.ensures.run c.in-Ok.ensures.at c.in_ok-text-in-Ok.ensures
