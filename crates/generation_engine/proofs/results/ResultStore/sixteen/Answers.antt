use Rattle.generation_engine.proofs.Sixteen.{sixteen_drawn}
use Rattle.generation_engine.proofs.results.ResultStore.sixteen.Goals as goal

pub returns : goal.returns
returns c =
    rw (← c.self.view_is) (sixteen_drawn c.self.inside.store c.args.level c.args.part c.quarters-outer.result c.quarters-nw.result c.quarters-ne.result c.quarters-sw.result c.quarters-se.result
    _ _ _ _ _ _ _ _ _ _ _ _ _ _ _ _ _ _ _ _ c.requires.level c.quarters-outer.ensures c.quarters-nw.ensures c.quarters-ne.ensures c.quarters-sw.ensures c.quarters-se.ensures)
