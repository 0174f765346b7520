use Rattle.std.proofs.Common.{◌≡◌, ◌≤◌, ◌-◌, ◌∙◌, ◌++◌, ◌∷◌, [], suc, ap, sym, subst, length, refl, arith}
use Rattle.std.specs.Prelude.{Some, slice_set}
use Rattle.std.proofs.lemmas.Option.{slice_get_read}
use Rattle.replica_events.specs.declared.event.Event.TheVariants.{SendState}
use Rattle.replica_core.specs.declared.event.Reply.TheVariants as replies
use Rattle.replica_core.specs.World.{AreCurrent, IsReply, StandSideBySide, StandsForSent, after}
use Rattle.replica_core.proofs.CurrentLaws.{current_noted}
use Rattle.replica_core.proofs.EventLaws.{sends_in_world}
use Rattle.replica_core.proofs.StandingLaws.{sends_taken}
use Rattle.replica_core.proofs.world.send_state.Goals as goal

pub returns-clause-step : goal.returns-clause-step
returns-clause-step c = λ w side sides.
    let sender = c.index-replicas-index.result in
    let r = c.in-Some.ensures in
    let reply = c.in_ok-reply.reply in
    let sent = c.in_ok-reply.ensures.sent in
    let one : 1 ≤ c.args.number = omega (arith, r.0.0, c.from.ensures) in
    let at : c.in-Some.index ≡ c.args.number - 1 = r.1 ∙ ap (λ n. n - 1) c.from.ensures in
    subst (λ ms. IsReply w (SendState c.args.number) reply
    × StandSideBySide (λ k. StandsForSent w.rule) (after w (SendState c.args.number)).messages ms) (sym sent.0)
    (sends_in_world w c.args.replicas.now c.args.messages.now.items c.args.number c.in-Some.index sender c.in_ok-text.text.items reply
    side sides one at
    (slice_get_read c.args.replicas.now (length c.args.replicas.now) c.in-Some.index sender refl (omega (arith, r.0.0, r.0.1, r.1)) c.index-replicas-index.is)
    (sent.1 ∙ ap (λ ms. replies.Sent (length ms)) sent.0)
    (λ h stands. sends_taken w.rule (suc c.in-Some.index) h sender c.in_ok-text.text.items stands c.in_ok-text.ensures))

pub returns-clause-remembered : goal.returns-clause-remembered
returns-clause-remembered c =
    let sender = c.index-replicas-index.result in
    let r = c.in-Some.ensures in
    let place = c.len-place.ensures ∙ c.args.messages.now.ok.0 in
    subst (λ ms. AreCurrent c.args.replicas.now ms (slice_set c.args.current.now c.in-Some.index (Some c.len-place.result))) (sym c.in_ok-reply.ensures.sent.0)
    (subst (λ n. AreCurrent c.args.replicas.now (c.args.messages.now.items ++ c.in_ok-text.text.items ∷ []) (slice_set c.args.current.now c.in-Some.index (Some n))) (sym place)
    (current_noted c.args.replicas.now c.args.messages.now.items c.args.current.now c.in-Some.index sender c.in_ok-text.text.items
    (slice_get_read c.args.replicas.now (length c.args.replicas.now) c.in-Some.index sender refl (omega (arith, r.0.0, r.0.1, r.1)) c.index-replicas-index.is)
    c.in_ok-text.ensures c.requires))
