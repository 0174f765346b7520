use Rattle.generation_engine.proofs.extent.+widen.Given as goal

abbrev pub decreases-widen : goal.decreases-widen
decreases-widen l = l.square.now.level
