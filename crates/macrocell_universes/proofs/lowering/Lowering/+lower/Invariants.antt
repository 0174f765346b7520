use Rattle.macrocell_universes.proofs.lowering.Lowering.+lower.Given as goal

abbrev pub decreases-lower : goal.decreases-lower
decreases-lower l = l.pair.level
