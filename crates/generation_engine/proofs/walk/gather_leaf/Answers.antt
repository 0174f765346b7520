use Rattle.std.proofs.Common.{◌≡◌, ◌<◌, ◌+◌, ◌*◌, ◌/◌, ◌%◌, ◌∙◌, ap, subst, arith}
use Rattle.std.specs.Prelude.{slice_index}
use Rattle.stamped_tree.specs.Walk.{Gathers}
use Rattle.stamped_tree.proofs.Gathering.{IsNonzeroBefore, gathers_place, gathers_leaf, gathers_nothing}
use Rattle.generation_engine.specs.EngineLeaf.{leaf_grid}
use Rattle.generation_engine.proofs.Counted.{first_none, first_more, first_all, first_count}
use Rattle.generation_engine.proofs.walk.gather_leaf.Goals as goal

pub loop-place-init : goal.loop-place-init
loop-place-init c = (gathers_nothing (leaf_grid c.args.leaf.now) c.args.corner.left c.args.corner.top c.args.found.now, (let none = first_none c.args.leaf.now in omega (arith, none)))

pub loop-place-preserved : goal.loop-place-preserved
loop-place-preserved c =
    let i = c.loop-place.place in
    let small : i < 64 = omega arith in
    let pushed = (rw c.get.ensures at c.in_ok-push_live.ensures) in
    let more = first_more c.args.leaf.now i in
    let so_far = c.loop-place.invariant.1 in
    let own = pushed.count in
    let place : 8 * (i / 8) + i % 8 ≡ i = omega arith in (
      gathers_place (leaf_grid c.args.leaf.now) c.args.corner.left c.args.corner.top i (slice_index c.args.leaf.now.leaf i) small (ap (λ j. slice_index c.args.leaf.now.leaf j) place) c.args.found.now c.loop-place.found c.push_live.new.found c.loop-place.invariant.0 pushed.gathers,
      omega (arith, more, so_far, own),
    )

pub returns : goal.returns
returns c =
    let all : c.loop-place.place ≡ 64 = omega arith in
    let count = ap (first_count c.args.leaf.now) all ∙ first_all c.args.leaf.now in
    let so_far = c.loop-place.invariant.1 in
    record {
      gathers = gathers_leaf (leaf_grid c.args.leaf.now) c.args.corner.left c.args.corner.top c.args.found.now c.loop-place.found (subst (λ i. Gathers (IsNonzeroBefore (leaf_grid c.args.leaf.now) c.args.corner.left c.args.corner.top i) c.args.found.now c.loop-place.found) all c.loop-place.invariant.0);
      count = omega (arith, so_far, count);
    }
