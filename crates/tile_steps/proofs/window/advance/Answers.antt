use Rattle.std.proofs.Common.{◌≡◌, ◌+◌, ◌*◌, arith}
use Rattle.tile_steps.proofs.AdvanceLemmas.{advances_none, advances_more, advances_as}
use Rattle.tile_steps.proofs.window.advance.Goals as goal

pub loop-pair-init : goal.loop-pair-init
loop-pair-init N c = advances_none N.row.N c.args.rule.now c.args.window.now

pub loop-pair-preserved : goal.loop-pair-preserved
loop-pair-preserved N c =
    let g = 2 * c.loop-pair.pair in
    let one = advances_more N.row.N c.args.rule.now g _ c.args.window.now c.loop-pair.window c.step.new.new c.step.ensures.rule (omega arith) c.loop-pair.invariant c.step.ensures.steps in
    let two = advances_more N.row.N c.args.rule.now (g + 1) _ c.args.window.now c.step.new.new c.step-in-loop-pair.new.new c.step.ensures.rule (omega arith) one c.step-in-loop-pair.ensures.steps in
    advances_as N.row.N c.args.rule.now (g + 1 + 1) (2 * (c.loop-pair.pair + 1)) c.args.window.now c.step-in-loop-pair.new.new (omega arith) two

pub returns-then-generations-eq1 : goal.returns-then-generations-eq1
returns-then-generations-eq1 N c =
    let g = 2 * c.loop-pair.pair in
    let before : g + 1 ≡ c.args.generations = omega (arith, c.if-generations-eq1.true, c.loop-pair-test.false) in
    advances_as N.row.N c.args.rule.now (g + 1) c.args.generations c.args.window.now c.step-then-generations-eq1.new.new before
    (advances_more N.row.N c.args.rule.now g _ c.args.window.now c.loop-pair.window c.step-then-generations-eq1.new.new c.step-then-generations-eq1.ensures.rule (omega arith) c.loop-pair.invariant c.step-then-generations-eq1.ensures.steps)
