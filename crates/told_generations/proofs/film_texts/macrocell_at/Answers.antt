use Rattle.std.proofs.Common.{refl}
use Rattle.stamped_tree.specs.Plane.{map_of}
use Rattle.generation_engine.specs.Universe.{states_in_writes}
use Rattle.told_generations.proofs.MacrocellLaws.{macrocell_of_run}
use Rattle.told_generations.proofs.film_texts.macrocell_at.Goals as goal

pub returns-clause-text : goal.returns-clause-text
returns-clause-text c =
    let r = c.args.rule.now in
    let states = states_in_writes (map_of c.args.plane.now) in
    macrocell_of_run r r states states c.args.generation c.from.result c.in_ok-universe.universe c.in_ok-text.field-0.items
    refl refl c.from.ensures c.in_ok-universe.ensures.run c.in_ok-universe.ensures.at c.in_ok-text.ensures
