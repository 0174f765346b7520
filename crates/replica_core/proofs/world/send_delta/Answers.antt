use Rattle.std.proofs.Common.{◌≡◌, ◌≤◌, ◌-◌, ◌∙◌, ap, sym, subst, length, refl, arith}
use Rattle.std.proofs.lemmas.Option.{slice_get_read}
use Rattle.std.proofs.lemmas.Result.{IfOk-weaker}
use Rattle.delta_exchange.specs.Delta.{AreTellable}
use Rattle.replica_events.specs.declared.event.Event.TheVariants.{SendDelta}
use Rattle.replica_core.specs.declared.event.Reply.TheVariants as replies
use Rattle.replica_core.specs.Exchange.{entries}
use Rattle.replica_core.specs.World.{IsReply, StandSideBySide, StandsForSent, after}
use Rattle.replica_core.proofs.CurrentLaws.{current_sent}
use Rattle.replica_core.proofs.EventLaws.{refuses_entries_in_world, sends_entries_in_world}
use Rattle.replica_core.proofs.ExchangeLaws.{entries_are, entries_given, entries_refused}
use Rattle.replica_core.proofs.world.send_delta.Goals as goal

pub returns-in-Ok-clause-step : goal.returns-in-Ok-clause-step
returns-in-Ok-clause-step c = IfOk-weaker c.send.result _ _ (λ reply sent w side sides.
    let sender = c.index-replicas-index.result in
    let r = c.in-Some.ensures in
    let one : 1 ≤ c.args.number = omega (arith, r.0.0, c.from.ensures) in
    let at : c.in-Some.index ≡ c.args.number - 1 = r.1 ∙ ap (λ n. n - 1) c.from.ensures in
    let given = entries_given sender.rule (entries sender.journal c.args.from c.args.count) c.in-Ok.text.items c.in-Ok.ensures.text in
    subst (λ ms. IsReply w (SendDelta c.args.number c.args.from c.args.count) reply
    × StandSideBySide (λ k. StandsForSent w.rule) (after w (SendDelta c.args.number c.args.from c.args.count)).messages ms) (sym sent.0)
    (sends_entries_in_world w c.args.replicas.now c.args.messages.now.items c.args.number c.in-Some.index c.args.from c.args.count sender c.in-Ok.text.items reply
    side sides one at
    (slice_get_read c.args.replicas.now (length c.args.replicas.now) c.in-Some.index sender refl (omega (arith, r.0.0, r.0.1, r.1)) c.index-replicas-index.is)
    (sent.1 ∙ ap (λ ms. replies.Sent (length ms)) sent.0)
    given.0 given.1 given.2
    (subst (AreTellable sender.rule.states) (entries_are sender.journal c.args.from c.args.count given.0 given.1) c.in-Ok.ensures.edits))) c.send.ensures.sent

pub returns-in-Err-clause-step : goal.returns-in-Err-clause-step
returns-in-Err-clause-step c = IfOk-weaker c.refused.result _ _ (λ reply told w side sides.
    let sender = c.index-replicas-index.result in
    let r = c.in-Some.ensures in
    let one : 1 ≤ c.args.number = omega (arith, r.0.0, c.from.ensures) in
    let at : c.in-Some.index ≡ c.args.number - 1 = r.1 ∙ ap (λ n. n - 1) c.from.ensures in
    refuses_entries_in_world w c.args.replicas.now c.args.messages.now.items c.args.number c.in-Some.index c.args.from c.args.count sender reply c.in-Err.fault
    side sides one at
    (slice_get_read c.args.replicas.now (length c.args.replicas.now) c.in-Some.index sender refl (omega (arith, r.0.0, r.0.1, r.1)) c.index-replicas-index.is)
    (entries_refused sender.rule (entries sender.journal c.args.from c.args.count) c.in-Err.fault _ told.0 c.in-Err.ensures.err)
    told.1) c.refused.ensures.reply

pub returns-in-Ok-clause-remembered : goal.returns-in-Ok-clause-remembered
returns-in-Ok-clause-remembered c = λ current are.
    current_sent c.args.replicas.now c.args.messages.now.items c.send.new.messages.items current c.in-Ok.text.items c.send.result
    (λ reply. reply ≡ replies.Sent (length c.send.new.messages.items)) c.send.ensures.sent c.send.ensures.unsent are
