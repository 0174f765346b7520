use Rattle.std.proofs.Common.{None, false, refl}
use Rattle.generation_engine.specs.Walk.{middle_grid}
use Rattle.generation_engine.proofs.Extents.{widened_beside}
use Rattle.generation_engine.proofs.extent.extent_of.Goals as goal

-- at first nothing is found
pub returns : goal.returns
returns c = (widened_beside c.args.store.now 28 0 0 (middle_grid c.args.store.now c.args.root) c.middle_squares-squares.result c.middle_squares-squares.ensures
    None c.widen-found.result c.widen-found-2.result c.widen-found-3.result c.widen.result
    c.widen-found.ensures c.widen-found-2.ensures c.widen-found-3.ensures c.widen.ensures).widened (λ u v. false) (λ u v. refl)
