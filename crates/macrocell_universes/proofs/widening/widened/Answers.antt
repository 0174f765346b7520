use Rattle.std.proofs.Common.{◌≡◌, ◌≤◌, ◌+◌, refl, arith}
use Rattle.square_store.proofs.Drawn.{grown_more}
use Rattle.generation_engine.specs.EngineLeaf.{leaf_grid}
use Rattle.macrocell_universes.proofs.Lowerings.{grown_itself}
use Rattle.macrocell_universes.proofs.Widenings.{root_drawn}
use Rattle.macrocell_universes.proofs.widening.widened.Goals as goal

pub loop-about-init : goal.loop-about-init
loop-about-init c = (grown_itself c.args.store.now, (c.requires.stand, ((λ f are. are), omega (arith, c.requires.level))))

pub loop-about-preserved : goal.loop-about-preserved
loop-about-preserved c = (
  grown_more leaf_grid 8 _ _ _ c.loop-about.invariant.0 c.in_ok-about.ensures.grows,
  (c.in_ok-about.ensures.stand, ((λ f are. c.in_ok-about.ensures.about f (c.loop-about.invariant.1.1.0 f are)), omega (arith, c.in_ok-about.ensures.level, c.loop-about-test.true))),
)

pub returns-clause-root : goal.returns-clause-root
returns-clause-root c = λ f are. (
    let few = c.loop-about.invariant.1.1.1 in
    let last : c.loop-about.about.level ≡ 29 = omega (arith, few, c.loop-about-test.false) in
    root_drawn f c.loop-about.store c.add_four.new.self c.loop-about.about c.in_ok-root.root last (c.loop-about.invariant.1.1.0 f are) c.in_ok-root.ensures.draws)
