use Rattle.std.proofs.Common.{◌≡◌, ◌≢◌, ◌∙◌, ap, sym, arith}
use Rattle.generation_engine.specs.EngineLeaf.{leaf_grid}
use Rattle.generation_engine.specs.Region.{seen_grid}
use Rattle.generation_engine.proofs.Windows.{dead_counted, live_counted, places_all, places_count, places_few, places_none}
use Rattle.generation_engine.proofs.window.count_leaf_in.Goals as goal
use Rattle.generation_engine.proofs.window.count_leaf_in.Goals.{then-cell-ne0, else-cell-ne0}

pub loop-place-init : goal.loop-place-init
loop-place-init c = sym (places_none (seen_grid c.args.region c.args.corner.left c.args.corner.top (leaf_grid c.args.leaf.now)))

pub overflow_add-count : goal.overflow_add-count
overflow_add-count c =
    let few = places_few (seen_grid c.args.region c.args.corner.left c.args.corner.top (leaf_grid c.args.leaf.now)) c.loop-place.place in
    let so_far = c.loop-place.invariant in
    let last = c.loop-place-test.true in
    omega (arith, few, so_far, last)

pub loop-place-preserved : goal.loop-place-preserved
loop-place-preserved c =
    let seen = seen_grid c.args.region c.args.corner.left c.args.corner.top (leaf_grid c.args.leaf.now) in
    elim c.if-cell-ne0.branch [
      | then-cell-ne0 w ↦ (let live : c.seen_cell-cell.result.state ≢ 0 = search (arith, w.if-cell-ne0.true) in w.count-is ∙ live_counted seen c.loop-place.place c.loop-place.count c.seen_cell-cell.result.state c.loop-place.invariant c.seen_cell-cell.ensures.state live)
      | else-cell-ne0 w ↦ (let dead : c.seen_cell-cell.result.state ≡ 0 = search (arith, w.if-cell-ne0.false) in w.count-is ∙ dead_counted seen c.loop-place.place c.loop-place.count c.seen_cell-cell.result.state c.loop-place.invariant c.seen_cell-cell.ensures.state dead)
    ]

pub returns : goal.returns
returns c =
    let all : c.loop-place.place ≡ 64 = omega arith in
    let seen = seen_grid c.args.region c.args.corner.left c.args.corner.top (leaf_grid c.args.leaf.now) in
    c.loop-place.invariant ∙ ap (places_count seen) all ∙ places_all seen
