use Rattle.std.proofs.Common.{◌≡◌, ◌<◌, length, arith}
use Rattle.tile_steps.proofs.SetLemmas.{set_none, set_more, set_all}
use Rattle.tile_steps.proofs.tile.set_state.Goals as goal

pub loop-p-init : goal.loop-p-init
loop-p-init N c = set_none c.args.column c.args.row c.args.state c.args.planes.now

pub loop-p-preserved : goal.loop-p-preserved
loop-p-preserved N c =
    let start : length c.args.planes.now ≡ N.row.N = c.told-planes in
    let within : c.loop-p.p < length c.args.planes.now = omega (arith, start, c.loop-p-test.true) in
    set_more c.args.column c.args.row c.args.state c.loop-p.p _ c.args.planes.now c.loop-p.planes _ within c.has_digit.ensures c.loop-p.invariant c.set_digit.ensures

pub returns : goal.returns
returns N c =
    let all : c.loop-p.p ≡ N.row.N = omega arith in
    set_all N.row.N c.loop-p.p c.args.column c.args.row c.args.state c.args.planes.now c.loop-p.planes all c.requires.state c.loop-p.invariant
