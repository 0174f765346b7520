use Rattle.std.proofs.Common.{arith}
use Rattle.tile_steps.proofs.WindowLemmas.{steps_none, steps_more, steps_all}
use Rattle.tile_steps.proofs.window.step.Goals as goal

pub loop-four-init : goal.loop-four-init
loop-four-init N c = steps_none N.row.N c.args.rule.now c.args.margin c.args.old.now _

pub loop-four-preserved : goal.loop-four-preserved
loop-four-preserved N c =
    steps_more N.row.N c.args.rule.now c.args.margin c.loop-four.four c.min-first.result c.args.old.now c.loop-four.new c.put.new.window
    c.taken-rows.result c.step_rows.new.planes c.live_rows-live.result c.rows_from.result c.rows_from-in-loop-four.result
    (c.min-first.ensures) c.loop-four.invariant c.live_rows-live.ensures c.taken-rows.ensures c.rows_from.ensures c.rows_from-in-loop-four.ensures c.step_rows.ensures c.put.ensures

pub returns-clause-steps : goal.returns-clause-steps
returns-clause-steps N c = steps_all N.row.N c.args.rule.now c.args.margin c.loop-four.four c.args.old.now c.loop-four.new (omega (arith, c.requires.margin)) c.loop-four.invariant
