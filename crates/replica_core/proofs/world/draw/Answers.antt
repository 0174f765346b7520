use Rattle.std.proofs.Common.{◌≡◌, ◌≤◌, ◌-◌, ◌∙◌, Some, ap, get_or, sym, arith}
use Rattle.std.proofs.lemmas.Option.{slice_get-get_or}
use Rattle.std.proofs.lemmas.Result.{IfOk-weaker}
use Rattle.replica_core.proofs.CurrentLaws.{current_set}
use Rattle.replica_core.proofs.EventLaws.{draws_in_world, draws_nowhere}
use Rattle.replica_core.proofs.RoomLaws.{draw_wants}
use Rattle.replica_core.proofs.world.draw.Goals as goal

pub returns-in-Some-clause-step : goal.returns-in-Some-clause-step
returns-in-Some-clause-step c = IfOk-weaker c.draw_at.result _ _ (λ reply step w valid side.
    let old = get_or c.args.replicas.now c.in-Some.index c.index-replicas-index.result in
    let r = c.in-Some.ensures in
    let one : 1 ≤ c.args.number = omega (arith, r.0.0, c.from.ensures) in
    let at : c.in-Some.index ≡ c.args.number - 1 = r.1 ∙ ap (λ n. n - 1) c.from.ensures in
    let drawn = draws_in_world w c.args.replicas.now c.args.number c.in-Some.index old c.draw_at.new.replica c.args.spec.now reply valid side
    one at
    (slice_get-get_or c.args.replicas.now c.in-Some.index c.index-replicas-index.result (omega (arith, r.0.0, r.0.1, r.1)))
    (λ h. step w.rule h) in
    (drawn.0, drawn.1)) c.draw_at.ensures.step

pub returns-in-Some-clause-edits : goal.returns-in-Some-clause-edits
returns-in-Some-clause-edits c = IfOk-weaker c.draw_at.result _ _ (λ reply step w valid side.
    let old = get_or c.args.replicas.now c.in-Some.index c.index-replicas-index.result in
    let r = c.in-Some.ensures in
    let one : 1 ≤ c.args.number = omega (arith, r.0.0, c.from.ensures) in
    let at : c.in-Some.index ≡ c.args.number - 1 = r.1 ∙ ap (λ n. n - 1) c.from.ensures in
    let drawn = draws_in_world w c.args.replicas.now c.args.number c.in-Some.index old c.draw_at.new.replica c.args.spec.now reply valid side
    one at
    (slice_get-get_or c.args.replicas.now c.in-Some.index c.index-replicas-index.result (omega (arith, r.0.0, r.0.1, r.1)))
    (λ h. step w.rule h) in
    drawn.2) c.draw_at.ensures.step

pub returns-in-None-clause-edits : goal.returns-in-None-clause-edits
returns-in-None-clause-edits c = λ w valid side.
    (draws_nowhere w c.args.replicas.now c.args.number c.args.spec.now valid side
    (λ one within. c.in-None.ensures (omega (arith, one, c.from.ensures), omega (arith, within, c.from.ensures)))).2

pub returns-in-Some-clause-remembered : goal.returns-in-Some-clause-remembered
returns-in-Some-clause-remembered c = λ messages are.
    let old = get_or c.args.replicas.now c.in-Some.index c.index-replicas-index.result in
    let entry = c.index_mut.result.now in
    let r = c.in-Some.ensures in
    current_set c.args.replicas.now messages c.args.remembered.now.current.items c.in-Some.index old c.draw_at.new.replica entry c.draw_at.new.current
    (slice_get-get_or c.args.replicas.now c.in-Some.index c.index-replicas-index.result (omega (arith, r.0.0, r.0.1, r.1)))
    (slice_get-get_or c.args.remembered.now.current.items c.in-Some.index c.index_mut.result.now (omega (arith, r.0.0, r.0.1, r.1, c.requires)) ∙ ap Some (sym c.index_mut.ensures.value))
    c.draw_at.ensures.remembered are

pub returns-in-Some-clause-full : goal.returns-in-Some-clause-full
returns-in-Some-clause-full c = λ is w nodes valid side room.
    let old = get_or c.args.replicas.now c.in-Some.index c.index-replicas-index.result in
    let r = c.in-Some.ensures in
    let one : 1 ≤ c.args.number = omega (arith, r.0.0, c.from.ensures) in
    let at : c.in-Some.index ≡ c.args.number - 1 = r.1 ∙ ap (λ n. n - 1) c.from.ensures in
    draw_wants w c.args.replicas.now c.args.number c.in-Some.index nodes old c.args.spec.now valid side room one at
    (slice_get-get_or c.args.replicas.now c.in-Some.index c.index-replicas-index.result (omega (arith, r.0.0, r.0.1, r.1)))
    (λ h. c.draw_at.ensures.full is w.rule h)
