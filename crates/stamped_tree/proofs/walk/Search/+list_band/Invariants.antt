use Rattle.stamped_tree.proofs.walk.Search.+list_band.Given as goal

abbrev pub decreases-list_band : goal.decreases-list_band
decreases-list_band l = l.rows.level
