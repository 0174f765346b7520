use Rattle.std.proofs.Common.{◌≤◌, ◌-◌, arith}
use Rattle.macrocell_universes.proofs.Inner.{first_middle}
use Rattle.macrocell_universes.proofs.middle.middle_of.Goals as goal

pub loop-middle-init : goal.loop-middle-init
loop-middle-init c = (first_middle c.args.entries.now c.args.root c.quarters_of.result c.quarters_of.ensures, omega (arith, c.requires.level))
