use Rattle.std.proofs.Common.{◌+◌, arith}
use Rattle.tile_steps.proofs.RoomLemmas.{told}
use Rattle.tile_steps.proofs.RunLemmas.{run_begun, run_evolved, run_more, run_refused_first, run_refused_more, run_within, too_long_first, too_long_more}
use Rattle.tile_steps.proofs.generations.run.Goals as goal

pub loop-sixteen-init : goal.loop-sixteen-init
loop-sixteen-init N c =
    run_begun N.row.N c.args.rule.now c.args.generations c.args.limits.room c.args.limits.windows c.args.tiles.now.map.entries c.in_ok-left.left c.in_ok-now.now.map.entries
    c.in_ok-left.ensures.left c.in_ok-now.ensures.later c.in_ok-now.ensures.fewest c.in_ok-now.ensures.inside c.in_ok-now.ensures.room

pub loop-sixteen-preserved : goal.loop-sixteen-preserved
loop-sixteen-preserved N c =
    run_more N.row.N c.args.rule.now c.args.generations c.args.limits.room c.args.limits.windows c.args.tiles.now.map.entries c.loop-sixteen.sixteen c.loop-sixteen.left c.loop-sixteen.now.map.entries
    c.states-states.ensures.rule (omega (arith, c.loop-sixteen-test.true)) c.loop-sixteen.invariant (c.loop-sixteen.sixteen + 1) c.in_ok-left-2.left c.in_ok-now-2.now.map.entries (omega arith)
    c.in_ok-left-2.ensures.left c.in_ok-now-2.ensures.later c.in_ok-now-2.ensures.fewest c.in_ok-now-2.ensures.inside c.in_ok-now-2.ensures.room

pub returns-clause-evolved : goal.returns-clause-evolved
returns-clause-evolved N c =
    run_evolved N.row.N c.args.rule.now c.args.generations c.args.limits.room c.args.limits.windows c.args.tiles.now.map.entries c.loop-sixteen.left c.loop-sixteen.now.map.entries c.loop-sixteen.sixteen
    (omega (arith, c.loop-sixteen-test.false)) c.loop-sixteen.invariant

pub returns-clause-within : goal.returns-clause-within
returns-clause-within N c =
    run_within N.row.N c.args.rule.now c.args.generations c.args.limits.room c.args.limits.windows c.args.tiles.now.map.entries c.loop-sixteen.left c.loop-sixteen.now.map.entries c.loop-sixteen.sixteen
    (omega (arith, c.loop-sixteen-test.false)) c.loop-sixteen.invariant

pub returns-in_err-left-clause-cause : goal.returns-in_err-left-clause-cause
returns-in_err-left-clause-cause N c =
    told _ _ _ c.from_residual.ensures.1
    (too_long_first N.row.N c.args.rule.now c.args.generations c.args.limits.room c.args.limits.windows c.args.tiles.now.map.entries _ c.in_err-left.ensures.cause.0 c.in_err-left.ensures.cause.1)

pub returns-in_err-now-clause-cause : goal.returns-in_err-now-clause-cause
returns-in_err-now-clause-cause N c =
    told _ _ _ c.from_residual-in_err-now.ensures.1
    (run_refused_first N.row.N c.args.rule.now c.args.generations c.args.limits.room c.args.limits.windows c.args.tiles.now.map.entries _ c.in_err-now.ensures.cause)

pub returns-in_err-left-2-clause-cause : goal.returns-in_err-left-2-clause-cause
returns-in_err-left-2-clause-cause N c =
    told _ _ _ c.from_residual-in_err-left-2.ensures.1
    (too_long_more N.row.N c.args.rule.now c.args.generations c.args.limits.room c.args.limits.windows c.args.tiles.now.map.entries c.loop-sixteen.sixteen c.loop-sixteen.left c.loop-sixteen.now.map.entries
    c.states-states.ensures.rule (omega (arith, c.loop-sixteen-test.true)) c.loop-sixteen.invariant _ c.in_err-left-2.ensures.cause.0 c.in_err-left-2.ensures.cause.1)

pub returns-in_err-now-2-clause-cause : goal.returns-in_err-now-2-clause-cause
returns-in_err-now-2-clause-cause N c =
    told _ _ _ c.from_residual-in_err-now-2.ensures.1
    (run_refused_more N.row.N c.args.rule.now c.args.generations c.args.limits.room c.args.limits.windows c.args.tiles.now.map.entries c.loop-sixteen.sixteen c.loop-sixteen.left c.loop-sixteen.now.map.entries
    c.states-states.ensures.rule (omega (arith, c.loop-sixteen-test.true)) c.loop-sixteen.invariant _ c.in_err-now-2.ensures.cause)
