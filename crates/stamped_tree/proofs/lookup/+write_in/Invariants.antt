use Rattle.stamped_tree.proofs.lookup.+write_in.Given as goal

abbrev pub decreases-write_in : goal.decreases-write_in
decreases-write_in l = l.level
