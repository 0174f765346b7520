use Rattle.std.proofs.Common.{◌+◌, arith}
use Rattle.std.proofs.lemmas.List.{length-replicate}
use Rattle.bitplane_kernel.specs.Planes.{bit}
use Rattle.bitplane_kernel.specs.Digits.{number_same}
use Rattle.tile_steps.specs.Steps.{window_plane}
use Rattle.tile_steps.specs.Tiles.{tile_plane}
use Rattle.tile_steps.proofs.TileLists.{middles_none, middles_more}
use Rattle.tile_steps.proofs.window.middle.Goals as goal

pub loop-p-init : goal.loop-p-init
loop-p-init N c = middles_none c.args.window.now N.row.N _ (length-replicate N.row.N _)

pub loop-p-preserved : goal.loop-p-preserved
loop-p-preserved N c = middles_more c.args.window.now N.row.N c.loop-p.p c.loop-p.planes c.middle_rows.result c.loop-p-test.true c.loop-p.invariant c.middle_rows.ensures

pub returns : goal.returns
returns N c = record {
  same = λ x y hx hy. number_same N.row.N (λ p. bit (tile_plane c.loop-p.planes p) x y) (λ p. bit (window_plane c.args.window.now p) (x + 16) (y + 16)) (λ p h. (c.loop-p.invariant.each p (omega arith)).same x y hx hy);
}
