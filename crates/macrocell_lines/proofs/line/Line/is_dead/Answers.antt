use Rattle.std.proofs.Common.{◌∙◌, sym, ap}
use Rattle.macrocell_lines.specs.Listing.{is_dead_line}
use Rattle.macrocell_lines.proofs.Steps.{dead_leaf}
use Rattle.macrocell_lines.proofs.line.Line.is_dead.Goals as goal

pub returns-in-Leaf : goal.returns-in-Leaf
returns-in-Leaf c = dead_leaf c.is_dead.result c.in-Leaf.leaf c.is_dead.ensures.dead c.is_dead.ensures.side ∙ sym (ap is_dead_line c.in-Leaf.is)
