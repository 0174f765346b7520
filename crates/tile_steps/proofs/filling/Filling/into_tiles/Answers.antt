use Rattle.tile_steps.proofs.PutLemmas.{has_stored, stored_shows}
use Rattle.tile_steps.proofs.filling.Filling.into_tiles.Goals as goal

pub returns-clause-tiles : goal.returns-clause-tiles
returns-clause-tiles N c = λ f shows. stored_shows N.row.N _ _ _ _ f c.in_ok-store.ensures.stored shows

pub returns-clause-corners : goal.returns-clause-corners
returns-clause-corners N c = λ q has. has_stored N.row.N _ _ _ _ c.in_ok-store.ensures.stored q has
