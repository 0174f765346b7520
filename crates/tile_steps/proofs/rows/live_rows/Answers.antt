use Rattle.tile_steps.proofs.LifeLemmas.{life_law}
use Rattle.tile_steps.proofs.rows.live_rows.Goals as goal

pub returns : goal.returns
returns c = λ x y hx hy.
    life_law c.args.above c.args.live c.args.below c.neighbours-count.result _ _ _ _ c.neighbours-count.ensures c.not.ensures c.and.ensures c.or.ensures c.and-2.ensures x y hx hy
