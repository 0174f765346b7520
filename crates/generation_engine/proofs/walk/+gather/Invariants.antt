use Rattle.generation_engine.proofs.walk.+gather.Given as goal

abbrev pub decreases-gather : goal.decreases-gather
decreases-gather l = l.level
