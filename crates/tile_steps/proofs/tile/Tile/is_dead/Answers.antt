use Rattle.std.proofs.Common.{arith}
use Rattle.std.proofs.lemmas.Bool.{false≢true}
use Rattle.tile_steps.proofs.PlaneLists.{dead_planes}
use Rattle.tile_steps.proofs.RoomLemmas.{alive_by_plane}
use Rattle.tile_steps.proofs.tile.Tile.is_dead.Goals as goal

pub returns-clause-dead : goal.returns-clause-dead
returns-clause-dead N c = λ _ x y hx hy. dead_planes N.row.N c.args.self.now.planes (λ q h. c.loop-p.invariant q (omega arith)) x y hx hy

pub returns-then-not-is_none-clause-alive : goal.returns-then-not-is_none-clause-alive
returns-then-not-is_none-clause-alive N c = λ _. alive_by_plane N.row.N c.loop-p.p c.args.self.now c.loop-p-test.true c.is_none.ensures.len c.is_none.ensures.fits
    (λ e. false≢true (c.if-not-is_none.ensures.none.1 e))
