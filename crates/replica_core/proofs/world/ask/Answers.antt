use Rattle.std.proofs.Common.{◌≡◌, ◌≤◌, ◌-◌, ◌∙◌, ap, length, refl, arith}
use Rattle.std.proofs.lemmas.Option.{slice_get_read}
use Rattle.std.proofs.lemmas.Result.{IfOk-weaker}
use Rattle.replica_core.specs.declared.world.KeptUniverse.{KeptUniverse}
use Rattle.replica_core.proofs.EventLaws.{tells_in_world}
use Rattle.replica_core.proofs.UniverseLaws.{universe_kept}
use Rattle.replica_core.proofs.RoomLaws.{export_wants}
use Rattle.replica_core.proofs.world.ask.Goals as goal

pub returns-clause-step : goal.returns-clause-step
returns-clause-step c = IfOk-weaker c.tell_at.result _ _ (λ reply told w side.
    let held = c.index-replicas-index.result in
    let r = c.in-Some.ensures in
    let one : 1 ≤ c.args.number = omega (arith, r.0.0, c.from.ensures) in
    let at : c.in-Some.index ≡ c.args.number - 1 = r.1 ∙ ap (λ n. n - 1) c.from.ensures in
    tells_in_world w c.args.replicas.now c.args.number c.in-Some.index c.args.question held reply side one at
    (slice_get_read c.args.replicas.now (length c.args.replicas.now) c.in-Some.index held refl (omega (arith, r.0.0, r.0.1, r.1)) c.index-replicas-index.is)
    told) c.tell_at.ensures.told

pub returns-clause-universe : goal.returns-clause-universe
returns-clause-universe c =
    let held = c.index-replicas-index.result in
    let r = c.in-Some.ensures in
    universe_kept (λ (k : KeptUniverse). k.place) (λ (k : KeptUniverse). k.engine) c.args.replicas.now c.in-Some.index held c.tell_at.new.universe
    (slice_get_read c.args.replicas.now (length c.args.replicas.now) c.in-Some.index held refl (omega (arith, r.0.0, r.0.1, r.1)) c.index-replicas-index.is)
    c.tell_at.ensures.universe

pub returns-clause-full : goal.returns-clause-full
returns-clause-full c = λ is w side.
    let held = c.index-replicas-index.result in
    let r = c.in-Some.ensures in
    let one : 1 ≤ c.args.number = omega (arith, r.0.0, c.from.ensures) in
    let at : c.in-Some.index ≡ c.args.number - 1 = r.1 ∙ ap (λ n. n - 1) c.from.ensures in
    export_wants w c.args.replicas.now c.args.number c.in-Some.index _ held side one at
    (slice_get_read c.args.replicas.now (length c.args.replicas.now) c.in-Some.index held refl (omega (arith, r.0.0, r.0.1, r.1)) c.index-replicas-index.is)
    (c.tell_at.ensures.full is)
