use Rattle.std.proofs.Common.{arith, ◌<◌}
use Rattle.samples.proofs.Below.{edit_below}
use Rattle.samples.proofs.loading.plane_of.Goals as goal

pub returns : goal.returns
returns c = edit_below c.args.rule.now.states c.in_ok-edit.edit _ (let h = c.states-states.ensures.rule.least in omega (arith, h)) c.in_ok-edit.ensures.states c.in_ok-plane.ensures.map
