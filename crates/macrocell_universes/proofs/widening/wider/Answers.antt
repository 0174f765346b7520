use Rattle.std.proofs.Common.{◌+◌, refl, arith}
use Rattle.square_store.proofs.Drawn.{grown_more}
use Rattle.generation_engine.specs.EngineLeaf.{leaf_grid}
use Rattle.macrocell_universes.proofs.Widenings.{wider_about}
use Rattle.macrocell_universes.proofs.widening.wider.Goals as goal

pub returns-clause-grows : goal.returns-clause-grows
returns-clause-grows c =
    grown_more leaf_grid 8 _ _ _ c.in_ok-dead.ensures.grows (grown_more leaf_grid 8 _ _ _ c.in_ok-nw.ensures.grows (grown_more leaf_grid 8 _ _ _ c.in_ok-ne.ensures.grows (grown_more leaf_grid 8 _ _ _ c.in_ok-sw.ensures.grows c.in_ok-se.ensures.grows)))

pub returns-clause-about : goal.returns-clause-about
returns-clause-about c = λ f are.
    wider_about f c.args.store.now c.add_blank.new.self c.add_four.new.self c.add_four-2.new.self c.add_four-3.new.self c.add_four-4.new.self c.args.parts c.in_ok-dead.dead c.in_ok-nw.nw c.in_ok-ne.ne c.in_ok-sw.sw c.in_ok-se.se (c.args.parts.level + 1) c.requires.level refl
    c.in_ok-dead.ensures.grows c.in_ok-nw.ensures.grows c.in_ok-ne.ensures.grows c.in_ok-sw.ensures.grows c.in_ok-se.ensures.grows c.in_ok-dead.ensures.draws are
    c.in_ok-nw.ensures.draws c.in_ok-ne.ensures.draws c.in_ok-sw.ensures.draws c.in_ok-se.ensures.draws
