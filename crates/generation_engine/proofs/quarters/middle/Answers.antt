use Rattle.generation_engine.proofs.Squares.{middle_cut}
use Rattle.generation_engine.proofs.quarters.middle.Goals as goal

pub returns : goal.returns
returns c = middle_cut c.args.store.now c.args.level c.args.part c.quarters-outer.result c.quarters-nw.result c.quarters-ne.result c.quarters-sw.result c.quarters-se.result _ _ _ _ _ _ _ _ c.requires.level
    c.quarters-outer.ensures c.quarters-nw.ensures c.quarters-ne.ensures c.quarters-sw.ensures c.quarters-se.ensures
