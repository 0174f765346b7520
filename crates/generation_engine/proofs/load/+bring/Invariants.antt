use Rattle.generation_engine.proofs.load.+bring.Given as goal

abbrev pub decreases-bring : goal.decreases-bring
decreases-bring l = l.level
