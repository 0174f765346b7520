use Rattle.std.proofs.Common.{refl}
use Rattle.tile_steps.proofs.PutLemmas.{held_first, origin_grid}
use Rattle.tile_steps.proofs.filling.Filling.new.Goals as goal

pub returns-clause-shows : goal.returns-clause-shows
returns-clause-shows N c = held_first N.row.N _ _ _ c.new.ensures (origin_grid _ refl refl) c.dead.ensures
