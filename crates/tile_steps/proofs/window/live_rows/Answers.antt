use Rattle.std.proofs.Common.{arith}
use Rattle.tile_steps.proofs.WindowLemmas.{live_more}
use Rattle.tile_steps.proofs.window.live_rows.Goals as goal

pub loop-four-init : goal.loop-four-init
loop-four-init N c = λ x y hx hy. absurd (omega arith)

pub loop-four-preserved : goal.loop-four-preserved
loop-four-preserved N c =
    live_more N.row.N c.loop-four.four c.args.window.now c.taken-rows.result c.loop-four.live c.where_equal.result _
    c.requires.0 c.loop-four.invariant c.taken-rows.ensures c.where_equal.ensures c.put_rows.ensures

pub returns : goal.returns
returns N c = λ x y hx hy. c.loop-four.invariant x y hx (omega arith)
