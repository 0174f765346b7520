use Rattle.std.proofs.Common.{◌≡◌, ◌≤◌, ◌-◌, ◌∙◌, Some, ap, get_or, length, refl, sym, arith}
use Rattle.std.proofs.lemmas.Option.{slice_get_read, slice_get-get_or}
use Rattle.std.proofs.lemmas.Result.{IfOk-weaker}
use Rattle.replica_core.proofs.CurrentLaws.{current_set}
use Rattle.replica_core.proofs.EventLaws.{takes_in_world}
use Rattle.replica_core.proofs.RoomLaws.{delivery_wants}
use Rattle.replica_core.proofs.world.deliver.Goals as goal

pub returns-clause-step : goal.returns-clause-step
returns-clause-step c = IfOk-weaker c.take_at.result _ _ (λ reply step w side sides.
    let old = get_or c.args.replicas.now c.in-Some-index_of.to c.index-replicas-to.result in
    let text = c.as_slice-text.result.now in
    let m = c.in-Some.ensures in
    let r = c.in-Some-index_of.ensures in
    let one : 1 ≤ c.args.number = omega (arith, r.0.0, c.from.ensures) in
    let at : c.in-Some-index_of.to ≡ c.args.number - 1 = r.1 ∙ ap (λ n. n - 1) c.from.ensures in
    takes_in_world w c.args.replicas.now c.args.messages.now c.args.message c.in-Some.from c.args.number c.in-Some-index_of.to
    old c.take_at.new.replica text reply side sides
    m.0.0 m.1 (slice_get_read c.args.messages.now (length c.args.messages.now) c.in-Some.from c.index-messages-from.result refl (omega (arith, m.0.0, m.0.1, m.1)) c.index-messages-from.is
    ∙ ap Some (sym c.as_slice-text.ensures))
    one at (slice_get-get_or c.args.replicas.now c.in-Some-index_of.to c.index-replicas-to.result (omega (arith, r.0.0, r.0.1, r.1)))
    (λ h sent. step w.rule h sent)) c.take_at.ensures.step

pub returns-clause-remembered : goal.returns-clause-remembered
returns-clause-remembered c = λ are.
    let old = get_or c.args.replicas.now c.in-Some-index_of.to c.index-replicas-to.result in
    let entry = c.index_mut.result.now in
    let r = c.in-Some-index_of.ensures in
    current_set c.args.replicas.now c.args.messages.now c.args.remembered.now.current.items c.in-Some-index_of.to old c.take_at.new.replica entry c.take_at.new.current
    (slice_get-get_or c.args.replicas.now c.in-Some-index_of.to c.index-replicas-to.result (omega (arith, r.0.0, r.0.1, r.1)))
    (slice_get-get_or c.args.remembered.now.current.items c.in-Some-index_of.to c.index_mut.result.now (omega (arith, r.0.0, r.0.1, r.1, c.requires)) ∙ ap Some (sym c.index_mut.ensures.value))
    c.take_at.ensures.remembered are

pub returns-clause-full : goal.returns-clause-full
returns-clause-full c = λ is w nodes side sides room.
    let old = get_or c.args.replicas.now c.in-Some-index_of.to c.index-replicas-to.result in
    let text = c.as_slice-text.result.now in
    let m = c.in-Some.ensures in
    let r = c.in-Some-index_of.ensures in
    let one : 1 ≤ c.args.number = omega (arith, r.0.0, c.from.ensures) in
    let at : c.in-Some-index_of.to ≡ c.args.number - 1 = r.1 ∙ ap (λ n. n - 1) c.from.ensures in
    delivery_wants w c.args.replicas.now c.args.messages.now c.args.message c.in-Some.from c.args.number c.in-Some-index_of.to nodes old text side sides room
    m.0.0 m.1 (slice_get_read c.args.messages.now (length c.args.messages.now) c.in-Some.from c.index-messages-from.result refl (omega (arith, m.0.0, m.0.1, m.1)) c.index-messages-from.is
    ∙ ap Some (sym c.as_slice-text.ensures))
    one at (slice_get-get_or c.args.replicas.now c.in-Some-index_of.to c.index-replicas-to.result (omega (arith, r.0.0, r.0.1, r.1)))
    (λ h sent. c.take_at.ensures.full is w.rule h sent)
