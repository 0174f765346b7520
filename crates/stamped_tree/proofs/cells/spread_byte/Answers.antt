use Rattle.std.proofs.Common.{◌∙◌}
use Rattle.stamped_tree.proofs.Morton.{byte_spread}
use Rattle.stamped_tree.proofs.cells.spread_byte.Goals as goal

pub returns-clause-value : goal.returns-clause-value
returns-clause-value c = c.from.ensures ∙ byte_spread c.args.byte c.requires
