use Rattle.std.proofs.Common.{◌≡◌, ◌≢◌, ◌<◌, ◌+◌, ◌∙◌, length, ap, sym, subst, arith}
use Rattle.bitplane_kernel.specs.Population.{one_unless_dead}
use Rattle.stamped_tree.specs.declared.cells.ListedCell.{ListedCell}
use Rattle.stamped_tree.specs.Walk.{Gathers}
use Rattle.stamped_tree.proofs.Gathering.{IsNonzeroBefore, cell_on_leaf, gathers_place, gathers_leaf, gathers_nothing}
use Rattle.generation_engine.specs.EngineLeaf.{leaf_grid}
use Rattle.generation_engine.specs.Region.{seen_grid}
use Rattle.generation_engine.proofs.Windows.{places_all, places_count, places_more, places_none}
use Rattle.generation_engine.proofs.window.gather_leaf_in.Goals as goal

pub loop-place-init : goal.loop-place-init
loop-place-init c =
    let seen = seen_grid c.args.region c.args.corner.left c.args.corner.top (leaf_grid c.args.leaf.now) in
    (gathers_nothing seen c.args.corner.left c.args.corner.top c.args.found.now, (let none = places_none seen in omega (arith, none)))

pub loop-place-preserved : goal.loop-place-preserved
loop-place-preserved c =
    let left = c.args.corner.left in let top = c.args.corner.top in
    let seen = seen_grid c.args.region left top (leaf_grid c.args.leaf.now) in
    let i = c.loop-place.place in
    let cell = c.seen_cell-cell.result in
    let small : i < 64 = omega arith in
    let put : cell ≡ cell_on_leaf left top i cell.state = λ k. record { column = c.seen_cell-cell.ensures.column k; row = c.seen_cell-cell.ensures.row k; state = cell.state } in
    let pushed = subst (λ (x : ListedCell). Gathers (λ d. (d ≡ x) × (d.state ≢ 0)) c.loop-place.found c.push_live.new.found) put c.in_ok-push_live.ensures.gathers in
    let more = places_more seen i in
    let so_far = c.loop-place.invariant.1 in
    let state = c.seen_cell-cell.ensures.state in
    let own = c.in_ok-push_live.ensures.count ∙ ap (λ z. length c.loop-place.found + one_unless_dead z) state in (
      gathers_place seen left top i cell.state small (sym state) c.args.found.now c.loop-place.found c.push_live.new.found c.loop-place.invariant.0 pushed,
      omega (arith, more, so_far, own),
    )

pub returns : goal.returns
returns c =
    let left = c.args.corner.left in let top = c.args.corner.top in
    let seen = seen_grid c.args.region left top (leaf_grid c.args.leaf.now) in
    let all : c.loop-place.place ≡ 64 = omega arith in
    let count = ap (places_count seen) all ∙ places_all seen in
    let so_far = c.loop-place.invariant.1 in
    record {
      gathers = gathers_leaf seen left top c.args.found.now c.loop-place.found (subst (λ i. Gathers (IsNonzeroBefore seen left top i) c.args.found.now c.loop-place.found) all c.loop-place.invariant.0);
      count = omega (arith, so_far, count);
    }
