use Rattle.test_planes.proofs.messages.first.+push_square.Given as goal

abbrev pub decreases-push_square : goal.decreases-push_square
decreases-push_square l = l.levels
