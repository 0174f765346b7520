use Rattle.std.proofs.Common.{List, refl, sym, subst, length, ap, ◌∙◌}
use Rattle.std.specs.Prelude.{IfSome}
use Rattle.std.proofs.lemmas.List.{with_items_is}
use Rattle.std.proofs.lemmas.Result.{IfOk-weaker}
use Rattle.replica_core.specs.Replica.{ReplicaState}
use Rattle.replica_core.specs.World.{AreEdits, HaveRoom, IsUniverseOf, after, StandSideBySide, StandsForSent, StandsFor, StandsForWorld, WantsRoom}
use Rattle.replica_core.proofs.HistoryLaws.{edits_delivered, edits_sent_of, edits_sent_on}
use Rattle.replica_core.proofs.CurrentLaws.{current_same}
use Rattle.replica_core.proofs.EventLaws.{goes_by_drawing, goes_by_delivery, goes_by_naming, goes_by_sending}
use Rattle.replica_core.proofs.RoomLaws.{may_stop, memory_stops, memory_stops_both}
use Rattle.replica_core.proofs.world.happen.Goals as goal

pub returns-in-Draw-clause-step : goal.returns-in-Draw-clause-step
returns-in-Draw-clause-step c = IfOk-weaker c.draw.result _ _ (λ reply step w valid stands.
    let inside = subst (StandsForWorld w) (sym c.world.view_is) stands in
    let replicas = c.world.inside.replicas in
    goes_by_drawing w c.args.event.now c.in-Draw.number c.in-Draw.spec reply _ _ c.in-Draw.is inside refl refl c.draw.new.replicas
    (with_items_is replicas c.draw.new.replicas (c.draw.ensures.as_many ∙ ap length c.deref_mut.ensures.value ∙ sym replicas.ok.0))
    (step w valid (subst (StandSideBySide (StandsFor w.rule) w.replicas) (sym c.deref_mut.ensures.value) inside.replicas))) c.draw.ensures.step

pub returns-in-SendState-clause-step : goal.returns-in-SendState-clause-step
returns-in-SendState-clause-step c = IfOk-weaker c.send_state.result _ _ (λ reply step w valid stands.
    let inside = subst (StandsForWorld w) (sym c.world.view_is) stands in
    goes_by_sending w c.args.event.now c.in-SendState.number reply _ _ c.in-SendState.is inside refl refl
    (step w (subst (StandSideBySide (StandsFor w.rule) w.replicas) (sym c.deref-in-SendState.ensures.value) inside.replicas) inside.messages)) c.send_state.ensures.step

pub returns-in-SendDelta-clause-step : goal.returns-in-SendDelta-clause-step
returns-in-SendDelta-clause-step c = IfOk-weaker c.send_delta.result _ _ (λ reply step w valid stands.
    let inside = subst (StandsForWorld w) (sym c.world.view_is) stands in
    goes_by_naming w c.args.event.now c.in-SendDelta.number c.in-SendDelta.from c.in-SendDelta.count reply _ _ c.in-SendDelta.is inside refl refl
    (step w (subst (StandSideBySide (StandsFor w.rule) w.replicas) (sym c.deref.ensures.value) inside.replicas) inside.messages)) c.send_delta.ensures.step

pub returns-in-Deliver-clause-step : goal.returns-in-Deliver-clause-step
returns-in-Deliver-clause-step c = IfOk-weaker c.deliver.result _ _ (λ reply step w valid stands.
    let inside = subst (StandsForWorld w) (sym c.world.view_is) stands in
    let replicas = c.world.inside.replicas in
    goes_by_delivery w c.args.event.now c.in-Deliver.message c.in-Deliver.number reply _ _ c.in-Deliver.is inside refl refl c.deliver.new.replicas
    (with_items_is replicas c.deliver.new.replicas (c.deliver.ensures.as_many ∙ ap length c.deref_mut-in-Deliver.ensures.value ∙ sym replicas.ok.0))
    (step w (subst (StandSideBySide (StandsFor w.rule) w.replicas) (sym c.deref_mut-in-Deliver.ensures.value) inside.replicas)
    (subst (StandSideBySide (λ k. StandsForSent w.rule) w.messages) (sym c.deref-in-Deliver.ensures.value) inside.messages))) c.deliver.ensures.step

pub returns-in-Draw-clause-edits : goal.returns-in-Draw-clause-edits
returns-in-Draw-clause-edits c = IfOk-weaker c.draw.result _ _ (λ reply edits w valid stands.
    let inside = subst (StandsForWorld w) (sym c.world.view_is) stands in
    subst (λ e. AreEdits (after w e)) (sym c.in-Draw.is)
    (edits w valid (subst (StandSideBySide (StandsFor w.rule) w.replicas) (sym c.deref_mut.ensures.value) inside.replicas))) c.draw.ensures.edits

pub returns-in-SendState-clause-edits : goal.returns-in-SendState-clause-edits
returns-in-SendState-clause-edits c = IfOk-weaker c.send_state.result _ _ (λ reply step w valid stands.
    subst (λ e. AreEdits (after w e)) (sym c.in-SendState.is) (edits_sent_on w c.in-SendState.number valid)) c.send_state.ensures.step

pub returns-in-SendDelta-clause-edits : goal.returns-in-SendDelta-clause-edits
returns-in-SendDelta-clause-edits c = IfOk-weaker c.send_delta.result _ _ (λ reply step w valid stands.
    subst (λ e. AreEdits (after w e)) (sym c.in-SendDelta.is) (edits_sent_of w c.in-SendDelta.number c.in-SendDelta.from c.in-SendDelta.count valid)) c.send_delta.ensures.step

pub returns-in-Dump-clause-edits : goal.returns-in-Dump-clause-edits
returns-in-Dump-clause-edits c = IfOk-weaker c.dump.result _ _ (λ reply step w valid stands.
    subst (λ e. AreEdits (after w e)) (sym c.in-Dump.is) valid) c.dump.ensures.step

pub returns-in-Deliver-clause-edits : goal.returns-in-Deliver-clause-edits
returns-in-Deliver-clause-edits c = IfOk-weaker c.deliver.result _ _ (λ reply step w valid stands.
    subst (λ e. AreEdits (after w e)) (sym c.in-Deliver.is) (edits_delivered w c.in-Deliver.message c.in-Deliver.number valid)) c.deliver.ensures.step

pub returns-in-Show-clause-edits : goal.returns-in-Show-clause-edits
returns-in-Show-clause-edits c = λ w valid stands.
    subst (λ e. AreEdits (after w e)) (sym c.in-Show.is) valid

pub returns-in-Same-clause-edits : goal.returns-in-Same-clause-edits
returns-in-Same-clause-edits c = IfOk-weaker c.same.result _ _ (λ reply step w valid stands.
    subst (λ e. AreEdits (after w e)) (sym c.in-Same.is) valid) c.same.ensures.step

pub returns-in-Draw-clause-room : goal.returns-in-Draw-clause-room
returns-in-Draw-clause-room c = λ nodes all.
    let replicas = c.world.inside.replicas in
    subst (HaveRoom nodes) (sym (with_items_is replicas c.draw.new.replicas (c.draw.ensures.as_many ∙ ap length c.deref_mut.ensures.value ∙ sym replicas.ok.0)))
    (c.draw.ensures.room nodes (subst (HaveRoom nodes) (sym c.deref_mut.ensures.value) (subst (λ s. HaveRoom nodes s.replicas) (sym c.world.view_is) all)))

pub returns-in-SendDelta-clause-room : goal.returns-in-SendDelta-clause-room
returns-in-SendDelta-clause-room c = λ nodes all.
    subst (λ s. HaveRoom nodes s.replicas) (sym c.world.view_is) all

pub returns-in-SendState-clause-room : goal.returns-in-SendState-clause-room
returns-in-SendState-clause-room c = λ nodes all.
    subst (λ s. HaveRoom nodes s.replicas) (sym c.world.view_is) all

pub returns-in-Deliver-clause-room : goal.returns-in-Deliver-clause-room
returns-in-Deliver-clause-room c = λ nodes all.
    let replicas = c.world.inside.replicas in
    subst (HaveRoom nodes) (sym (with_items_is replicas c.deliver.new.replicas (c.deliver.ensures.as_many ∙ ap length c.deref_mut-in-Deliver.ensures.value ∙ sym replicas.ok.0)))
    (c.deliver.ensures.room nodes (subst (HaveRoom nodes) (sym c.deref_mut-in-Deliver.ensures.value) (subst (λ s. HaveRoom nodes s.replicas) (sym c.world.view_is) all)))

pub invariant_of-world : goal.invariant_of-world
invariant_of-world c =
    let replicas = c.world.inside.replicas in
    let messages = c.world.inside.messages.items in
    let changed = with_items_is replicas c.draw.new.replicas (c.draw.ensures.as_many ∙ ap length c.deref_mut.ensures.value ∙ sym replicas.ok.0) in (
      current_same c.draw.new.replicas _ messages messages c.draw.new.remembered.current.items _
          changed refl
          refl
          (c.draw.ensures.remembered messages (current_same replicas.items _ messages messages c.world.inside.remembered.current.items _ c.deref_mut.ensures.value refl refl c.world.invariant.0)),
      subst (λ (l : List ReplicaState). IfSome c.draw.new.remembered.universe (λ kept. IsUniverseOf l kept.place kept.engine)) (sym changed)
          (c.draw.ensures.universe (subst (λ (l : List ReplicaState). IfSome c.world.inside.remembered.universe (λ kept. IsUniverseOf l kept.place kept.engine)) (sym c.deref_mut.ensures.value) c.world.invariant.1)),
    )

pub returns-in-Draw-clause-err : goal.returns-in-Draw-clause-err
returns-in-Draw-clause-err c = may_stop c.draw.result c.args.event.now _ (λ is w nodes valid stands room.
    let inside = subst (StandsForWorld w) (sym c.world.view_is) stands in
    subst (λ e. WantsRoom nodes w e) (sym c.in-Draw.is)
    (c.draw.ensures.full is w nodes valid (subst (StandSideBySide (StandsFor w.rule) w.replicas) (sym c.deref_mut.ensures.value) inside.replicas)
    (subst (HaveRoom nodes) (sym c.deref_mut.ensures.value) (subst (λ s. HaveRoom nodes s.replicas) (sym c.world.view_is) room))))

pub returns-in-Deliver-clause-err : goal.returns-in-Deliver-clause-err
returns-in-Deliver-clause-err c = may_stop c.deliver.result c.args.event.now _ (λ is w nodes valid stands room.
    let inside = subst (StandsForWorld w) (sym c.world.view_is) stands in
    subst (λ e. WantsRoom nodes w e) (sym c.in-Deliver.is)
    (c.deliver.ensures.full is w nodes (subst (StandSideBySide (StandsFor w.rule) w.replicas) (sym c.deref_mut-in-Deliver.ensures.value) inside.replicas)
    (subst (StandSideBySide (λ k. StandsForSent w.rule) w.messages) (sym c.deref-in-Deliver.ensures.value) inside.messages)
    (subst (HaveRoom nodes) (sym c.deref_mut-in-Deliver.ensures.value) (subst (λ s. HaveRoom nodes s.replicas) (sym c.world.view_is) room))))

pub returns-in-SendDelta-clause-err : goal.returns-in-SendDelta-clause-err
returns-in-SendDelta-clause-err c = memory_stops c.send_delta.result c.args.event.now _ _ c.send_delta.ensures.err

pub returns-in-SendState-clause-err : goal.returns-in-SendState-clause-err
returns-in-SendState-clause-err c = memory_stops c.send_state.result c.args.event.now _ _ c.send_state.ensures.err

pub returns-in-Same-clause-err : goal.returns-in-Same-clause-err
returns-in-Same-clause-err c = memory_stops_both c.same.result c.args.event.now _ _ _ c.same.ensures.err

pub returns-in-Dump-clause-err : goal.returns-in-Dump-clause-err
returns-in-Dump-clause-err c = memory_stops c.dump.result c.args.event.now _ _ c.dump.ensures.err

pub returns-in-Export-clause-edits : goal.returns-in-Export-clause-edits
returns-in-Export-clause-edits c = IfOk-weaker c.ask.result _ _ (λ reply step w valid stands.
    subst (λ e. AreEdits (after w e)) (sym c.in-Export.is) valid) c.ask.ensures.step

pub returns-in-Export-clause-room : goal.returns-in-Export-clause-room
returns-in-Export-clause-room c = λ nodes all.
    subst (λ s. HaveRoom nodes s.replicas) (sym c.world.view_is) all

pub returns-in-Export-clause-err : goal.returns-in-Export-clause-err
returns-in-Export-clause-err c = may_stop c.ask.result c.args.event.now _ (λ is w nodes valid stands room.
    let inside = subst (StandsForWorld w) (sym c.world.view_is) stands in
    subst (λ e. WantsRoom nodes w e) (sym c.in-Export.is)
    (c.ask.ensures.full is w (subst (StandSideBySide (StandsFor w.rule) w.replicas) (sym c.deref-in-Export.ensures.value) inside.replicas)))

pub returns-in-Cut-clause-edits : goal.returns-in-Cut-clause-edits
returns-in-Cut-clause-edits c = IfOk-weaker c.ask-in-Cut.result _ _ (λ reply step w valid stands.
    subst (λ e. AreEdits (after w e)) (sym c.in-Cut.is) valid) c.ask-in-Cut.ensures.step

pub returns-in-Cut-clause-room : goal.returns-in-Cut-clause-room
returns-in-Cut-clause-room c = λ nodes all.
    subst (λ s. HaveRoom nodes s.replicas) (sym c.world.view_is) all

pub returns-in-Cut-clause-err : goal.returns-in-Cut-clause-err
returns-in-Cut-clause-err c = may_stop c.ask-in-Cut.result c.args.event.now _ (λ is w nodes valid stands room.
    let inside = subst (StandsForWorld w) (sym c.world.view_is) stands in
    subst (λ e. WantsRoom nodes w e) (sym c.in-Cut.is)
    (c.ask-in-Cut.ensures.full is w (subst (StandSideBySide (StandsFor w.rule) w.replicas) (sym c.deref-in-Cut.ensures.value) inside.replicas)))

pub returns-in-Count-clause-edits : goal.returns-in-Count-clause-edits
returns-in-Count-clause-edits c = IfOk-weaker c.ask-in-Count.result _ _ (λ reply step w valid stands.
    subst (λ e. AreEdits (after w e)) (sym c.in-Count.is) valid) c.ask-in-Count.ensures.step

pub returns-in-Count-clause-room : goal.returns-in-Count-clause-room
returns-in-Count-clause-room c = λ nodes all.
    subst (λ s. HaveRoom nodes s.replicas) (sym c.world.view_is) all

pub returns-in-Count-clause-err : goal.returns-in-Count-clause-err
returns-in-Count-clause-err c = may_stop c.ask-in-Count.result c.args.event.now _ (λ is w nodes valid stands room.
    let inside = subst (StandsForWorld w) (sym c.world.view_is) stands in
    subst (λ e. WantsRoom nodes w e) (sym c.in-Count.is)
    (c.ask-in-Count.ensures.full is w (subst (StandSideBySide (StandsFor w.rule) w.replicas) (sym c.deref-in-Count.ensures.value) inside.replicas)))
