use Rattle.macrocell_universes.proofs.state.+state_of.Given as goal

abbrev pub decreases-state_of : goal.decreases-state_of
decreases-state_of l = l.square.level
