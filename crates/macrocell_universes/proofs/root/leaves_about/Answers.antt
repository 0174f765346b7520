use Rattle.std.proofs.Common.{◌≡◌, ◌-◌, ◌^◌, refl}
use Rattle.square_store.proofs.Drawn.{grown_more}
use Rattle.generation_engine.specs.EngineLeaf.{leaf_grid}
use Rattle.macrocell_text.specs.Maps.{map_of_root}
use Rattle.macrocell_universes.specs.Numbered.{square_of}
use Rattle.macrocell_universes.proofs.Corners.{corners_about, leaves_under, leaves_within}
use Rattle.macrocell_universes.proofs.root.leaves_about.Goals as goal

pub returns-clause-grows : goal.returns-clause-grows
returns-clause-grows c =
    grown_more leaf_grid 8 _ _ _ c.in_ok-nw.ensures.grows (grown_more leaf_grid 8 _ _ _ c.in_ok-ne.ensures.grows (grown_more leaf_grid 8 _ _ _ c.in_ok-sw.ensures.grows (grown_more leaf_grid 8 _ _ _ c.in_ok-se.ensures.grows c.in_ok-dead.ensures.grows)))

pub returns-clause-about : goal.returns-clause-about
returns-clause-about c =
    let es = c.args.entries.now in let q = c.args.root in let half = 2 ^ (q.level - 1) in
    corners_about (map_of_root (square_of es q)) c.add_corner.new.store c.add_corner-2.new.store c.add_corner-3.new.store c.add_corner-4.new.store c.add_blank.new.self
    c.in_ok-nw.nw c.in_ok-ne.ne c.in_ok-sw.sw c.in_ok-se.se c.in_ok-dead.dead (leaves_within es q half c.requires.is c.requires.few refl)
    c.in_ok-ne.ensures.grows c.in_ok-sw.ensures.grows c.in_ok-se.ensures.grows c.in_ok-dead.ensures.grows
    c.in_ok-nw.ensures.block c.in_ok-ne.ensures.block c.in_ok-sw.ensures.block c.in_ok-se.ensures.block (c.in_ok-dead.ensures.draws 0) (leaves_under es q half c.requires.is c.requires.few refl)
