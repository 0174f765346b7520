use Rattle.std.proofs.Common.{◌∙◌, ap, ◌+◌, length}
use Rattle.square_store.proofs.Places.{at_within}
use Rattle.generation_engine.proofs.CountLaws.{below, above_leaves, nw_of_four, ne_of_four, sw_of_four, se_of_four}
use Rattle.generation_engine.proofs.Counted.{leaf_counted, parts_counted, square_blank}
use Rattle.stamped_tree.proofs.Gathering.{gathers_leaf_at}
use Rattle.std.proofs.Common.{◌≡◌, ℕ, ◌-◌, ◌<◌, ◌≤◌, List, sym, subst, arith, slice_index_or}
use Rattle.std.specs.Prelude.{length}
use Rattle.generation_engine.specs.EngineLeaf.{leaf_grid}
use Rattle.generation_engine.proofs.walk.+gather.Goals as goal

pub square-requires : goal.square-requires
square-requires t c = at_within c.args.store.now c.args.level c.args.part c.requires.stands

pub returns-in-Blank : goal.returns-in-Blank
returns-in-Blank t c = square_blank c.args.store.now c.args.level c.args.part c.in-Blank.field-0 c.args.corner.left c.args.corner.top c.args.found.now c.in-Blank.ensures

pub returns-in_ok-gather-in-Four-4 : goal.returns-in_ok-gather-in-Four-4
returns-in_ok-gather-in-Four-4 t c =
    let a = c.args in
    parts_counted a.store.now a.level c.in-Four.level a.part a.corner.left a.corner.top c.side_of-half.result c.in-Four.parts c.index-parts-0.result c.index-parts-1.result c.index-parts-2.result c.index-parts-3.result
    a.found.now c.gather.new.found c.gather-in-Four.new.found c.gather-in-Four-2.new.found c.gather-in-Four-3.new.found
    c.in-Four.ensures c.requires.stands c.side_of-half.ensures
    c.in_ok-gather-in-Four.ensures c.in_ok-gather-in-Four-2.ensures c.in_ok-gather-in-Four-3.ensures c.in_ok-gather-in-Four-4.ensures

pub returns-in_ok-gather_leaf-in-Leaf : goal.returns-in_ok-gather_leaf-in-Leaf
returns-in_ok-gather_leaf-in-Leaf t c = record {
  gathers = gathers_leaf_at leaf_grid c.args.store.now c.args.level c.args.part c.args.corner.left c.args.corner.top c.in-Leaf.leaf.now c.args.found.now c.gather_leaf.new.found c.in-Leaf.ensures c.requires.stands c.in_ok-gather_leaf-in-Leaf.ensures.gathers;
  count = c.in_ok-gather_leaf-in-Leaf.ensures.count ∙ ap (λ n. length c.args.found.now + n) (leaf_counted c.args.store.now c.args.level c.args.part c.in-Leaf.leaf.now c.in-Leaf.ensures c.requires.stands);
}

pub gather-requires : goal.gather-requires
gather-requires t c =
    let b = below c.args.store.now c.args.level c.in-Four.level c.args.part 0 c.index-parts-0.result c.in-Four.parts c.in-Four.ensures c.requires.stands nw_of_four in
    let some = b.some in let half = b.half in let level = c.requires.level in let left = c.requires.left in let top = c.requires.top in let wide_half = c.side_of-half.ensures in let down = c.decreases in
    (omega (arith, some, down), (omega (arith, level), (b.stands, (omega (arith, half, left, wide_half), omega (arith, half, top, wide_half)))))

pub gather-requires-in-Four : goal.gather-requires-in-Four
gather-requires-in-Four t c =
    let b = below c.args.store.now c.args.level c.in-Four.level c.args.part 1 c.index-parts-1.result c.in-Four.parts c.in-Four.ensures c.requires.stands ne_of_four in
    let some = b.some in let half = b.half in let level = c.requires.level in let left = c.requires.left in let top = c.requires.top in let wide_half = c.side_of-half.ensures in let down = c.decreases in
    (omega (arith, some, down), (omega (arith, level), (b.stands, (omega (arith, half, left, wide_half), omega (arith, half, top, wide_half)))))

pub gather-requires-in-Four-2 : goal.gather-requires-in-Four-2
gather-requires-in-Four-2 t c =
    let b = below c.args.store.now c.args.level c.in-Four.level c.args.part 2 c.index-parts-2.result c.in-Four.parts c.in-Four.ensures c.requires.stands sw_of_four in
    let some = b.some in let half = b.half in let level = c.requires.level in let left = c.requires.left in let top = c.requires.top in let wide_half = c.side_of-half.ensures in let down = c.decreases in
    (omega (arith, some, down), (omega (arith, level), (b.stands, (omega (arith, half, left, wide_half), omega (arith, half, top, wide_half)))))

pub gather-requires-in-Four-3 : goal.gather-requires-in-Four-3
gather-requires-in-Four-3 t c =
    let b = below c.args.store.now c.args.level c.in-Four.level c.args.part 3 c.index-parts-3.result c.in-Four.parts c.in-Four.ensures c.requires.stands se_of_four in
    let some = b.some in let half = b.half in let level = c.requires.level in let left = c.requires.left in let top = c.requires.top in let wide_half = c.side_of-half.ensures in let down = c.decreases in
    (omega (arith, some, down), (omega (arith, level), (b.stands, (omega (arith, half, left, wide_half), omega (arith, half, top, wide_half)))))

pub overflow_sub-level : goal.overflow_sub-level
overflow_sub-level t c = above_leaves c.args.store.now c.args.level c.in-Four.level c.args.part c.in-Four.parts c.in-Four.ensures c.requires.stands

pub overflow_sub-level-in-Four : goal.overflow_sub-level-in-Four
overflow_sub-level-in-Four t c = above_leaves c.args.store.now c.args.level c.in-Four.level c.args.part c.in-Four.parts c.in-Four.ensures c.requires.stands

pub overflow_sub-level-in-Four-2 : goal.overflow_sub-level-in-Four-2
overflow_sub-level-in-Four-2 t c = above_leaves c.args.store.now c.args.level c.in-Four.level c.args.part c.in-Four.parts c.in-Four.ensures c.requires.stands

pub overflow_sub-level-in-Four-3 : goal.overflow_sub-level-in-Four-3
overflow_sub-level-in-Four-3 t c = above_leaves c.args.store.now c.args.level c.in-Four.level c.args.part c.in-Four.parts c.in-Four.ensures c.requires.stands

pub overflow_sub-level-in-Four-4 : goal.overflow_sub-level-in-Four-4
overflow_sub-level-in-Four-4 t c = above_leaves c.args.store.now c.args.level c.in-Four.level c.args.part c.in-Four.parts c.in-Four.ensures c.requires.stands
