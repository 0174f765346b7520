use Rattle.std.proofs.Common.{◌∙◌, arith, subst, sym}
use Rattle.relay_board.specs.declared.relay.Turn.TheVariants.{Idle, Published}
use Rattle.relay_board.specs.Turns.{IsTurn}
use Rattle.seat_server.proofs.TurningLaws.{IsAmid, StandsAmid, counted, ends_failed, ends_idle, fails_on, goes_on, idles_closed, idles_on, of_same, same_closed}
use Rattle.seat_server.proofs.turns.take_turns.Goals.{else-has_failed, then-has_failed+then-not-closed}
use Rattle.seat_server.proofs.turns.take_turns.Goals as goal

pub loop-preserved-in-Published : goal.loop-preserved-in-Published
loop-preserved-in-Published g c = (
  of_same c.args.relay.now c.loop.relay c.turn.new.self c.loop.invariant.0 c.turn.ensures.same,
  goes_on 1000 c.loop.failed c.args.relay.now c.loop.relay c.turn.new.self (Published c.in-Published.field-0) c.loop.invariant.1
      (record { same = c.turn.ensures.same; turned = c.in-Published.ensures.turned }),
)

pub returns-then-is_over-clause-turned : goal.returns-then-is_over-clause-turned
returns-then-is_over-clause-turned g c =
    ends_idle 1000 c.loop.failed c.args.relay.now c.loop.relay c.turn.new.self c.loop.invariant.1 (record { same = c.turn.ensures.same; turned = c.in-Idle.ensures.turned })

pub loop-preserved-in-Idle : goal.loop-preserved-in-Idle
loop-preserved-in-Idle g c =
    let same = of_same c.args.relay.now c.loop.relay c.turn.new.self c.loop.invariant.0 c.turn.ensures.same in
    let idle : IsTurn c.loop.relay Idle c.turn.new.self = record { same = c.turn.ensures.same; turned = c.in-Idle.ensures.turned } in
    elim c.if-has_failed.branch [
      | then-has_failed+then-not-closed w ↦ subst (StandsAmid 1000 c.loop.failed c.args.relay.now) (sym (c.rest.ensures ∙ w.relay-is)) (
        same_closed c.args.relay.now c.turn.new.self w.close.new.self same w.close.ensures.closed,
        idles_closed 1000 c.loop.failed c.args.relay.now c.loop.relay c.turn.new.self w.close.new.self c.loop.invariant.1 idle w.close.ensures.closed,
      )
      | else-has_failed w ↦ subst (StandsAmid 1000 c.loop.failed c.args.relay.now) (sym (c.rest.ensures ∙ w.relay-is)) (
        same,
        idles_on 1000 c.loop.failed c.args.relay.now c.loop.relay c.turn.new.self c.loop.invariant.1 idle,
      )
    ]

pub returns-then-failed-ge-MOST_FAILED-clause-turned : goal.returns-then-failed-ge-MOST_FAILED-clause-turned
returns-then-failed-ge-MOST_FAILED-clause-turned g c =
    let sum = counted c.loop.failed c.saturating_add-failed.result c.loop.invariant.1.few c.saturating_add-failed.ensures in
    ends_failed 1000 c.loop.failed c.args.relay.now c.loop.relay c.turn.new.self c.in-Failed.fault c.loop.invariant.1
    (record { same = c.turn.ensures.same; turned = c.in-Failed.ensures.turned }) (omega (arith, c.loop.invariant.1.few, sum, c.if-failed-ge-MOST_FAILED.true))

pub loop-preserved : goal.loop-preserved
loop-preserved g c =
    let sum = counted c.loop.failed c.saturating_add-failed.result c.loop.invariant.1.few c.saturating_add-failed.ensures in
    let amid =
    fails_on 1000 c.loop.failed c.args.relay.now c.loop.relay c.turn.new.self c.in-Failed.fault c.loop.invariant.1
    (record { same = c.turn.ensures.same; turned = c.in-Failed.ensures.turned }) (omega (arith, sum, c.if-failed-ge-MOST_FAILED.false)) in
    subst (StandsAmid 1000 c.saturating_add-failed.result c.args.relay.now) (sym c.rest-in-Failed.ensures) (
      of_same c.args.relay.now c.loop.relay c.turn.new.self c.loop.invariant.0 c.turn.ensures.same,
      subst (λ k. IsAmid 1000 k c.args.relay.now c.turn.new.self) (sym sum) amid,
    )
