use Rattle.std.proofs.Common.{arith, refl, rules}
use Rattle.std.proofs.lemmas.Bool.{false≢true}
use Rattle.tile_steps.proofs.MapLemmas.{all_at}
use Rattle.tile_steps.proofs.RunLemmas.{inside_none, inside_more, inside_all}
use Rattle.tile_steps.proofs.tiles.Tiles.are_inside.Goals as goal

pub loop-index-init : goal.loop-index-init
loop-index-init N c = inside_none N.row.N c.args.self.now.map.entries

pub loop-index-preserved : goal.loop-index-preserved
loop-index-preserved N c =
    inside_more N.row.N c.args.self.now.map.entries c.loop-index.index c.corner_at.result c.corner_at.ensures.0 c.corner_at.ensures.1 (search rules) c.loop-index.invariant

pub returns-then-not-is_inside : goal.returns-then-not-is_inside
returns-then-not-is_inside N c = (
  λ is. absurd (false≢true is),
  λ all. absurd (false≢true (c.if-not-is_inside.ensures.1 (all_at N.row.N c.args.self.now.map.entries c.loop-index.index c.corner_at.result c.corner_at.ensures.0 all c.corner_at.ensures.1))),
)

pub returns : goal.returns
returns N c = (λ _. inside_all N.row.N c.args.self.now.map.entries c.loop-index.index (omega (arith, c.loop-index-test.false, c.len-index-end.ensures.len)) c.loop-index.invariant, λ _. refl)
