use Rattle.std.proofs.Common.{◌≡◌, [], ◌∷◌, ◌++◌, ◌+◌, Err, add-one, suc, take, drop, drop-cons, sym, subst, arith, ap, ◌∙◌}
use Rattle.std.specs.Prelude.{IfErr}
use Rattle.std.proofs.lemmas.Result.{err_from_is_err_and}
use Rattle.std.proofs.Math.Seq.{take-suc}
use Rattle.std.proofs.lemmas.List.{take_all, take-append-drop}
use Rattle.replica_core.specs.World.{AreEdits, AreReplies, IsStopOf, StandsForWorld, after_all, opening}
use Rattle.replica_core.proofs.HistoryLaws.{edits_opening, sound_opening}
use Rattle.replica_core.proofs.RunLaws.{IsRunning, running_begins, running_goes, running_stops}
use Rattle.replica_core.proofs.world.replay_within.Goals as goal

pub loop-event-init : goal.loop-event-init
loop-event-init c = (
  subst (λ told. IsRunning (opening c.args.rule c.args.n) [] told c.in_ok-world.world) (sym c.in_ok-replies.ensures.items)
      (running_begins (opening c.args.rule c.args.n) c.in_ok-world.world (sound_opening c.args.rule c.args.n c.ranges.n.fits) (edits_opening c.args.rule c.args.n) c.in_ok-world.ensures.new),
  c.in_ok-world.ensures.room,
)

pub loop-event-preserved : goal.loop-event-preserved
loop-event-preserved c =
    let i = c.loop-event.event-index in
    let next : take (i + 1) c.args.events.now ≡ take i c.args.events.now ++ c.event-item.result ∷ [] =
    ap (λ k. take k c.args.events.now) (add-one i) ∙ take-suc c.args.events.now i c.event-item.result c.loop-event-test.true
    ∙ ap (λ e. take i c.args.events.now ++ e ∷ []) (sym c.event-item.is) in (
      subst (λ told. IsRunning (opening c.args.rule c.args.n) (take (i + 1) c.args.events.now) told c.happen.new.world) (sym c.in_ok-push.ensures.items)
          (subst (λ done. IsRunning (opening c.args.rule c.args.n) done (c.loop-event.replies.items ++ c.in_ok-reply.reply ∷ []) c.happen.new.world) (sym next)
          (running_goes (opening c.args.rule c.args.n) (take i c.args.events.now) c.event-item.result
          c.loop-event.replies.items c.in_ok-reply.reply c.loop-event.world c.happen.new.world c.loop-event.invariant.0
          (λ w. c.in_ok-reply.ensures.step w) (λ w. c.in_ok-reply.ensures.edits w))),
      c.happen.ensures.room c.args.nodes c.loop-event.invariant.1,
    )

pub returns-in_err-reply-clause-stopped : goal.returns-in_err-reply-clause-stopped
returns-in_err-reply-clause-stopped c =
    let i = c.loop-event.event-index in
    let rest : drop i c.args.events.now ≡ c.event-item.result ∷ drop (suc i) c.args.events.now =
    drop-cons c.args.events.now i c.event-item.result c.loop-event-test.true ∙ ap (λ e. e ∷ drop (suc i) c.args.events.now) (sym c.event-item.is) in
    let is = err_from_is_err_and c.from_residual-in_err-reply.result c.from_residual-in_err-reply.ensures.1 in
    subst (λ r. IfErr r (IsStopOf c.args.nodes (opening c.args.rule c.args.n) c.args.events.now)) (sym (is.1 ∙ ap Err is.2))
    (running_stops c.args.nodes (opening c.args.rule c.args.n) c.args.events.now (take i c.args.events.now) (drop (suc i) c.args.events.now) c.event-item.result c.loop-event.replies.items c.loop-event.world
    c.in_err-reply.field-0.0 (sym (take-append-drop i c.args.events.now) ∙ ap (λ l. take i c.args.events.now ++ l) rest) c.loop-event.invariant.0 c.loop-event.invariant.1 c.in_err-reply.ensures.err)

pub returns-clause-replies : goal.returns-clause-replies
returns-clause-replies c =
    subst (λ done. AreReplies (opening c.args.rule c.args.n) done c.loop-event.replies.items) (take_all c.loop-event.event-index c.args.events.now (omega (arith, c.loop-event-test.false)))
    c.loop-event.invariant.0.replies

pub returns-clause-world : goal.returns-clause-world
returns-clause-world c =
    subst (λ done. StandsForWorld (after_all (opening c.args.rule c.args.n) done) c.loop-event.world) (take_all c.loop-event.event-index c.args.events.now (omega (arith, c.loop-event-test.false)))
    c.loop-event.invariant.0.stands

pub returns-clause-edits : goal.returns-clause-edits
returns-clause-edits c =
    subst (λ done. AreEdits (after_all (opening c.args.rule c.args.n) done)) (take_all c.loop-event.event-index c.args.events.now (omega (arith, c.loop-event-test.false)))
    c.loop-event.invariant.0.edits

pub returns-clause-room : goal.returns-clause-room
returns-clause-room c = c.loop-event.invariant.1
