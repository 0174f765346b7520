use Rattle.std.proofs.Common.{◌<◌, length, arith}
use Rattle.bitplane_kernel.proofs.StepLemmas.{made}
use Rattle.bitplane_kernel.proofs.step.make_changes.Goals as goal

pub returns : goal.returns
returns N c =
    let room : 0 < length c.clear.new.planes = omega arith in
    made c.args.rule.now N.row.N c.states.result c.args.planes.now c.add_one.new.planes c.clear.new.planes _ _ _ _
    c.requires.few.0 c.requires.few.1 c.requires.enough c.states.ensures.value room
    c.add_one.ensures c.where_equal-past.ensures c.clear.ensures c.or.ensures
