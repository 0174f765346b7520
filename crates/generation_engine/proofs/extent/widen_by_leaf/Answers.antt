use Rattle.std.proofs.Common.{◌≡◌, ◌≢◌, ◌+◌, ◌*◌, ◌/◌, ◌%◌, ◌<◌, ◌∙◌, ap, sym, subst, arith}
use Rattle.std.specs.Prelude.{◌&&◌, ◌||◌, ◌==◌, Some, slice_index}
use Rattle.generation_engine.specs.EngineLeaf.{leaf_grid}
use Rattle.generation_engine.specs.Extent.{IsWidened, is_live_on}
use Rattle.generation_engine.proofs.Extents.{all_before, before_dead, before_live, is_live_before, none_before, widened_by, widened_more, widened_none}
use Rattle.generation_engine.proofs.extent.widen_by_leaf.Goals as goal
use Rattle.generation_engine.proofs.extent.widen_by_leaf.Goals.{then-get-ne0, else-get-ne0}

pub loop-place-init : goal.loop-place-init
loop-place-init c = widened_none (is_live_before (leaf_grid c.args.leaf.now) c.args.corner.left c.args.corner.top 0) c.args.found (λ u v. none_before (leaf_grid c.args.leaf.now) c.args.corner.left c.args.corner.top u v)

pub loop-place-preserved : goal.loop-place-preserved
loop-place-preserved c =
    let left = c.args.corner.left in let top = c.args.corner.top in
    let grid = leaf_grid c.args.leaf.now in
    let i = c.loop-place.place in
    let small : i < 64 = omega arith in
    let place : 8 * (i / 8) + i % 8 ≡ i = omega arith in
    let state : (grid (i % 8) (i / 8)).state ≡ c.get.result = ap (λ j. slice_index c.args.leaf.now.leaf j) place ∙ sym c.get.ensures in
    let before = is_live_before grid left top i in
    let after = is_live_before grid left top (i + 1) in
    elim c.if-get-ne0.branch [
      | then-get-ne0 w ↦ (let live : c.get.result ≢ 0 = search (arith, w.if-get-ne0.true) in
          subst (IsWidened after c.args.found) (sym w.found-is)
          (widened_by (λ u v. before u v || (u == left + i % 8 && v == top + i / 8)) after c.args.found (Some w.widened-region.result) (λ u v. before_live grid left top i small u v (λ z. live (sym state ∙ z)))
          (widened_more before (λ u v. u == left + i % 8 && v == top + i / 8) c.args.found c.loop-place.found (Some w.widened-region.result) c.loop-place.invariant w.widened-region.ensures)))
      | else-get-ne0 w ↦ (let dead : c.get.result ≡ 0 = search (arith, w.if-get-ne0.false) in
          subst (IsWidened after c.args.found) (sym w.found-is)
          (widened_by before after c.args.found c.loop-place.found (λ u v. before_dead grid left top i small u v (state ∙ dead)) c.loop-place.invariant))
    ]

pub returns : goal.returns
returns c =
    let all : c.loop-place.place ≡ 64 = omega arith in
    let left = c.args.corner.left in let top = c.args.corner.top in
    let grid = leaf_grid c.args.leaf.now in
    widened_by (is_live_before grid left top 64) (is_live_on 8 grid left top) c.args.found c.loop-place.found (λ u v. all_before grid left top u v)
    (subst (λ i. IsWidened (is_live_before grid left top i) c.args.found c.loop-place.found) all c.loop-place.invariant)
