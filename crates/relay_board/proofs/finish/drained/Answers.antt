use Rattle.std.proofs.Common.{subst}
use Rattle.relay_board.specs.Relaying.{Relaying}
use Rattle.relay_board.specs.Turns.{IsTurn, Turns}
use Rattle.relay_board.specs.declared.relay.Turn.TheVariants.{Idle, Published}
use Rattle.relay_board.proofs.Turning.{further}
use Rattle.relay_board.proofs.finish.drained.Goals as goal
use Rattle.relay_board.proofs.finish.drained.Goals.{in-Idle, in-Published}

pub loop-preserved : goal.loop-preserved
loop-preserved g c =
    let a : Relaying = c.args.relay.now in
    let b : Relaying = c.loop.relay in
    let d : Relaying = c.turn.new.self in
    elim c.match-turn.branch [
      | in-Idle w ↦
          let one : IsTurn b Idle d = record { same = c.turn.ensures.same; turned = subst (λ t. Turns b t d) w.in-Idle.is c.turn.ensures.turned } in
          further a b d Idle c.loop.invariant one one
      | in-Published w ↦
          let one : IsTurn b (Published w.in-Published.field-0) d = record { same = c.turn.ensures.same; turned = subst (λ t. Turns b t d) w.in-Published.is c.turn.ensures.turned } in
          further a b d (Published w.in-Published.field-0) c.loop.invariant one one
    ]
