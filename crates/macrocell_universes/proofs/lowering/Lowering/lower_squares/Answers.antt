use Rattle.std.proofs.Common.{◌-◌}
use Rattle.macrocell_universes.proofs.Abouts.{numbered_again}
use Rattle.macrocell_universes.proofs.lowering.Lowering.lower_squares.Goals as goal

pub lower-requires-clause-upper : goal.lower-requires-clause-upper
lower-requires-clause-upper c = numbered_again c.args.entries.now c.args.level c.args.upper c.requires.least c.requires.upper

pub lower-requires-clause-lower : goal.lower-requires-clause-lower
lower-requires-clause-lower c = numbered_again c.args.entries.now c.args.level c.args.lower c.requires.least c.requires.lower
