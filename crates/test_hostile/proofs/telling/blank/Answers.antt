use Rattle.std.proofs.Common.{arith, ◌<◌}
use Rattle.test_hostile.proofs.Blank.{blank_below}
use Rattle.test_hostile.proofs.telling.blank.Goals as goal

pub returns : goal.returns
returns c = blank_below c.args.rule.now.states _ (let h = c.states-states.ensures.rule.least in omega (arith, h)) c.in_ok-plane.ensures.map
