use Rattle.macrocell_universes.proofs.block.+block_reach.Given as goal

abbrev pub decreases-block_reach : goal.decreases-block_reach
decreases-block_reach l = l.block.level
