use Rattle.std.proofs.Common.{◌∙◌, subst, sym}
use Rattle.kept_server.specs.Running.{IsAmid}
use Rattle.kept_server.proofs.Runs.{amid_closed, amid_turned, runs_on}
use Rattle.kept_server.proofs.turns.take_kept_turns.Goals.{else-has_failed, then-has_failed+then-not-closed}
use Rattle.kept_server.proofs.turns.take_kept_turns.Goals as goal

pub loop-preserved-in-Published : goal.loop-preserved-in-Published
loop-preserved-in-Published g c = amid_turned c.turn.ensures.turned.steps c.args.keeper.now c.loop.keeper c.turn.new.self c.loop.invariant c.turn.ensures.same c.turn.ensures.turned.taken

pub returns-then-is_over-clause-run : goal.returns-then-is_over-clause-run
returns-then-is_over-clause-run g c = runs_on c.turn.ensures.turned.steps c.args.keeper.now c.loop.keeper c.turn.new.self c.loop.invariant.run c.turn.ensures.turned.taken

pub loop-preserved-in-Idle : goal.loop-preserved-in-Idle
loop-preserved-in-Idle g c =
    let turned : IsAmid c.args.keeper.now c.turn.new.self = amid_turned c.turn.ensures.turned.steps c.args.keeper.now c.loop.keeper c.turn.new.self c.loop.invariant c.turn.ensures.same c.turn.ensures.turned.taken in
    elim c.if-has_failed.branch [
      | then-has_failed+then-not-closed w ↦ subst (IsAmid c.args.keeper.now) (sym (c.rest.ensures ∙ w.keeper-is)) (amid_closed c.args.keeper.now c.turn.new.self w.close.new.self turned w.close.ensures.closed)
      | else-has_failed w ↦ subst (IsAmid c.args.keeper.now) (sym (c.rest.ensures ∙ w.keeper-is)) turned
    ]

pub returns-then-is_last-clause-run : goal.returns-then-is_last-clause-run
returns-then-is_last-clause-run g c = runs_on c.turn.ensures.turned.steps c.args.keeper.now c.loop.keeper c.turn.new.self c.loop.invariant.run c.turn.ensures.turned.taken

pub loop-preserved : goal.loop-preserved
loop-preserved g c =
    subst (IsAmid c.args.keeper.now) (sym c.rest-in-Failed.ensures)
    (amid_turned c.turn.ensures.turned.steps c.args.keeper.now c.loop.keeper c.turn.new.self c.loop.invariant c.turn.ensures.same c.turn.ensures.turned.taken)
