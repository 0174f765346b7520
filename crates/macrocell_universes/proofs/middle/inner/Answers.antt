use Rattle.std.proofs.Common.{subst}
use Rattle.macrocell_text.specs.Maps.{map_of_root}
use Rattle.macrocell_universes.specs.declared.quarters.Numbered.{Numbered}
use Rattle.macrocell_universes.specs.Numbered.{AreQuarters, square_of}
use Rattle.macrocell_universes.proofs.Inner.{inner_middle}
use Rattle.macrocell_universes.proofs.middle.inner.Goals as goal

pub returns-clause-middle : goal.returns-clause-middle
returns-clause-middle c =
    let es = c.args.entries.now in
    inner_middle es (map_of_root (square_of es c.args.root)) c.args.middle c.quarters_of-nw.result c.quarters_of-ne.result c.quarters_of-sw.result c.quarters_of-se.result c.requires.level c.requires.middle c.requires.plane
    (subst (λ (q : Numbered). AreQuarters es q c.quarters_of-nw.result) c.numbered.ensures c.quarters_of-nw.ensures) (subst (λ (q : Numbered). AreQuarters es q c.quarters_of-ne.result) c.numbered-2.ensures c.quarters_of-ne.ensures)
    (subst (λ (q : Numbered). AreQuarters es q c.quarters_of-sw.result) c.numbered-3.ensures c.quarters_of-sw.ensures) (subst (λ (q : Numbered). AreQuarters es q c.quarters_of-se.result) c.numbered-4.ensures c.quarters_of-se.ensures)
