use Rattle.std.proofs.Common.{ℕ, ◌+◌, ◌<◌, arith}
use Rattle.bitplane_kernel.specs.Planes.{bit}
use Rattle.bitplane_kernel.specs.Digits.{number_same}
use Rattle.tile_steps.specs.Steps.{window_plane}
use Rattle.tile_steps.specs.Tiles.{tile_plane}
use Rattle.tile_steps.proofs.TileLists.{loaded_none, loaded_more}
use Rattle.tile_steps.proofs.window.load.Goals as goal

pub loop-p-init : goal.loop-p-init
loop-p-init N c = loaded_none _ _ _ _ N.row.N c.args.window.now c.told-window

pub loop-p-preserved : goal.loop-p-preserved
loop-p-preserved N c =
    loaded_more c.args.nw.now.planes c.args.ne.now.planes c.args.sw.now.planes c.args.se.now.planes N.row.N c.loop-p.p c.loop-p.window c.joined.result
    c.loop-p-test.true c.loop-p.invariant c.joined.ensures

pub returns : goal.returns
returns N c =
    let own = λ (q : ℕ) (h : q < N.row.N). c.loop-p.invariant.each q (omega arith) in
    record {
      north_west = λ x y hx hy. number_same N.row.N (λ p. bit (window_plane c.loop-p.window p) x y) (λ p. bit (tile_plane c.args.nw.now.planes p) x y) (λ p h. (own p h).north_west x y hx hy);
      north_east = λ x y hx hy. number_same N.row.N (λ p. bit (window_plane c.loop-p.window p) (x + 32) y) (λ p. bit (tile_plane c.args.ne.now.planes p) x y) (λ p h. (own p h).north_east x y hx hy);
      south_west = λ x y hx hy. number_same N.row.N (λ p. bit (window_plane c.loop-p.window p) x (y + 32)) (λ p. bit (tile_plane c.args.sw.now.planes p) x y) (λ p h. (own p h).south_west x y hx hy);
      south_east = λ x y hx hy. number_same N.row.N (λ p. bit (window_plane c.loop-p.window p) (x + 32) (y + 32)) (λ p. bit (tile_plane c.args.se.now.planes p) x y) (λ p h. (own p h).south_east x y hx hy);
    }
