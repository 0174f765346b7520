use Rattle.stamped_tree.proofs.copy.+copy_square.Given as goal

abbrev pub decreases-copy_square : goal.decreases-copy_square
decreases-copy_square l = l.level
