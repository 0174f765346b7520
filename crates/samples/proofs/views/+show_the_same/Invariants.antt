use Rattle.samples.proofs.views.+show_the_same.Given as goal

abbrev pub decreases-show_the_same : goal.decreases-show_the_same
decreases-show_the_same l = l.levels
