use Rattle.generation_engine.proofs.window.+count_in.Given as goal

abbrev pub decreases-count_in : goal.decreases-count_in
decreases-count_in l = l.square.now.level
