use Rattle.generation_engine.proofs.counts.+count_square.Given as goal

abbrev pub decreases-count_square : goal.decreases-count_square
decreases-count_square l = l.level
