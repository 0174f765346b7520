use Rattle.std.proofs.Common.{◌≡◌, ◌≤◌, ◌-◌, ◌∙◌, ap, length, refl, arith, rules}
use Rattle.generations_rule.specs.Place.{at_place}
use Rattle.stamped_tree.specs.Plane.{map_of}
use Rattle.std.proofs.lemmas.Option.{slice_get_read}
use Rattle.replica_core.proofs.EventLaws.{shows_in_world}
use Rattle.replica_core.proofs.world.show.Goals as goal

pub returns-in-Some : goal.returns-in-Some
returns-in-Some c = λ w side.
    let held = c.index-replicas-index.result in
    let r = c.in-Some.ensures in
    let one : 1 ≤ c.args.number = omega (arith, r.0.0, c.from.ensures) in
    let at : c.in-Some.index ≡ c.args.number - 1 = r.1 ∙ ap (λ n. n - 1) c.from.ensures in
    let value : c.get.result ≡ map_of held.plane (at_place c.args.x c.args.y) = search rules in
    shows_in_world w c.args.replicas.now c.args.number c.in-Some.index held c.args.x c.args.y c.get.result side one at
    (slice_get_read c.args.replicas.now (length c.args.replicas.now) c.in-Some.index held refl (omega (arith, r.0.0, r.0.1, r.1)) c.index-replicas-index.is)
    value
