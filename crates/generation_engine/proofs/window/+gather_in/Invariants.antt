use Rattle.generation_engine.proofs.window.+gather_in.Given as goal

abbrev pub decreases-gather_in : goal.decreases-gather_in
decreases-gather_in l = l.square.now.level
