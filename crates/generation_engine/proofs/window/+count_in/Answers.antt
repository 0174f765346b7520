use Rattle.std.proofs.Common.{◌+◌, ◌-◌, ◌∙◌, ap, sym, arith}
use Rattle.std.proofs.lemmas.Bool.{iff_false}
use Rattle.square_store.proofs.Places.{at_within}
use Rattle.square_store.specs.Squares.{side_at}
use Rattle.bitplane_kernel.specs.Population.{population}
use Rattle.generation_engine.specs.Placed.{grid_of}
use Rattle.generation_engine.specs.Region.{seen_grid}
use Rattle.generation_engine.proofs.Beside.{fits, four_beside, half, is_positive}
use Rattle.generation_engine.proofs.Windows.{apart_dead, blank_dead, counted_beside, dead_population, drawn_leaf, few_beside, leaf_counted_in, seen_dead, count_seen}
use Rattle.generation_engine.proofs.window.+count_in.Goals as goal

pub returns-then-not-meets-clause-count : goal.returns-then-not-meets-clause-count
returns-then-not-meets-clause-count t c =
    let q = c.args.square.now in
    let none = iff_false c.meets.ensures c.if-not-meets.true in
    sym (dead_population (side_at 8 q.level) (seen_grid c.args.region q.corner.left q.corner.top (grid_of c.args.store.now q)) (apart_dead c.args.region c.of_square-own.result q (grid_of c.args.store.now q) c.of_square-own.ensures none))

pub count_square-requires-clause-level : goal.count_square-requires-clause-level
count_square-requires-clause-level t c = let few = c.requires.placed.level in omega (arith, few)

pub returns-then-has_all-clause-count : goal.returns-then-has_all-clause-count
returns-then-has_all-clause-count t c = c.count_square.ensures.count ∙ count_seen c.args.store.now c.args.region c.of_square-own.result c.args.square.now c.of_square-own.ensures (sym c.has_all.ensures ∙ c.if-has_all.true)

pub square-requires : goal.square-requires
square-requires t c = at_within c.args.store.now c.args.square.now.level c.args.square.now.part c.requires.placed.stands

pub side_by_side-quarters-requires-clause-left : goal.side_by_side-quarters-requires-clause-left
side_by_side-quarters-requires-clause-left t c = fits c.args.store.now c.args.square.now c.in-Four.level c.in-Four.parts c.requires.placed c.in-Four.ensures c.args.square.now.corner.left c.requires.placed.left

pub side_by_side-quarters-requires-clause-top : goal.side_by_side-quarters-requires-clause-top
side_by_side-quarters-requires-clause-top t c = fits c.args.store.now c.args.square.now c.in-Four.level c.in-Four.parts c.requires.placed c.in-Four.ensures c.args.square.now.corner.top c.requires.placed.top

pub count_in-ne-requires : goal.count_in-ne-requires
count_in-ne-requires t c =
    let put = four_beside c.args.store.now c.args.square.now c.in-Four.level c.in-Four.parts c.requires.placed c.in-Four.ensures c.side_by_side-quarters.result c.side_by_side-quarters.ensures in
    let some = is_positive c.args.store.now c.args.square.now c.in-Four.level c.in-Four.parts c.requires.placed c.in-Four.ensures in
    let level = put.ne.level in let down = c.decreases in
    (omega (arith, some, level, down), (put.ne.placed, c.count_in-nw.ensures.counted))

pub count_in-sw-requires : goal.count_in-sw-requires
count_in-sw-requires t c =
    let put = four_beside c.args.store.now c.args.square.now c.in-Four.level c.in-Four.parts c.requires.placed c.in-Four.ensures c.side_by_side-quarters.result c.side_by_side-quarters.ensures in
    let some = is_positive c.args.store.now c.args.square.now c.in-Four.level c.in-Four.parts c.requires.placed c.in-Four.ensures in
    let level = put.sw.level in let down = c.decreases in
    (omega (arith, some, level, down), (put.sw.placed, c.count_in-ne.ensures.counted))

pub count_in-se-requires : goal.count_in-se-requires
count_in-se-requires t c =
    let put = four_beside c.args.store.now c.args.square.now c.in-Four.level c.in-Four.parts c.requires.placed c.in-Four.ensures c.side_by_side-quarters.result c.side_by_side-quarters.ensures in
    let some = is_positive c.args.store.now c.args.square.now c.in-Four.level c.in-Four.parts c.requires.placed c.in-Four.ensures in
    let level = put.se.level in let down = c.decreases in
    (omega (arith, some, level, down), (put.se.placed, c.count_in-sw.ensures.counted))

pub overflow_add-result : goal.overflow_add-result
overflow_add-result t c =
    let put = four_beside c.args.store.now c.args.square.now c.in-Four.level c.in-Four.parts c.requires.placed c.in-Four.ensures c.side_by_side-quarters.result c.side_by_side-quarters.ensures in
    let few = few_beside c.args.store.now c.args.region _ _ _ _ c.side_by_side-quarters.result put in
    let nw = c.count_in-nw.ensures.count in let ne = c.count_in-ne.ensures.count in let sw = c.count_in-sw.ensures.count in let se = c.count_in-se.ensures.count in
    omega (arith, few, nw, ne, sw, se)

pub overflow_add-result-in-Four : goal.overflow_add-result-in-Four
overflow_add-result-in-Four t c =
    let put = four_beside c.args.store.now c.args.square.now c.in-Four.level c.in-Four.parts c.requires.placed c.in-Four.ensures c.side_by_side-quarters.result c.side_by_side-quarters.ensures in
    let few = few_beside c.args.store.now c.args.region _ _ _ _ c.side_by_side-quarters.result put in
    let nw = c.count_in-nw.ensures.count in let ne = c.count_in-ne.ensures.count in let sw = c.count_in-sw.ensures.count in let se = c.count_in-se.ensures.count in
    omega (arith, few, nw, ne, sw, se)

pub overflow_add-result-in-Four-2 : goal.overflow_add-result-in-Four-2
overflow_add-result-in-Four-2 t c =
    let put = four_beside c.args.store.now c.args.square.now c.in-Four.level c.in-Four.parts c.requires.placed c.in-Four.ensures c.side_by_side-quarters.result c.side_by_side-quarters.ensures in
    let few = few_beside c.args.store.now c.args.region _ _ _ _ c.side_by_side-quarters.result put in
    let nw = c.count_in-nw.ensures.count in let ne = c.count_in-ne.ensures.count in let sw = c.count_in-sw.ensures.count in let se = c.count_in-se.ensures.count in
    omega (arith, few, nw, ne, sw, se)

pub returns-in-Blank-clause-count : goal.returns-in-Blank-clause-count
returns-in-Blank-clause-count t c =
    let q = c.args.square.now in
    sym (dead_population (side_at 8 q.level) (seen_grid c.args.region q.corner.left q.corner.top (grid_of c.args.store.now q))
    (seen_dead c.args.region (side_at 8 q.level) q.corner.left q.corner.top (grid_of c.args.store.now q) (blank_dead c.args.store.now q c.in-Blank.field-0 c.in-Blank.ensures)))

pub returns-in-Leaf-clause-count : goal.returns-in-Leaf-clause-count
returns-in-Leaf-clause-count t c = c.count_leaf_in.ensures ∙ leaf_counted_in c.args.store.now c.args.region c.args.square.now c.in-Leaf.leaf.now (drawn_leaf c.args.store.now c.args.square.now c.in-Leaf.leaf.now c.requires.placed c.in-Leaf.ensures)

pub returns-in-Four-clause-count : goal.returns-in-Four-clause-count
returns-in-Four-clause-count t c =
    let s = c.args.store.now in let q = c.args.square.now in
    let put = four_beside s q c.in-Four.level c.in-Four.parts c.requires.placed c.in-Four.ensures c.side_by_side-quarters.result c.side_by_side-quarters.ensures in
    (λ i. c.count_in-nw.ensures.count i + c.count_in-ne.ensures.count i + c.count_in-sw.ensures.count i + c.count_in-se.ensures.count i)
    ∙ counted_beside s c.args.region (q.level - 1) q.corner.left q.corner.top (grid_of s q) c.side_by_side-quarters.result put
    ∙ ap (λ n. population n (λ u v. (seen_grid c.args.region q.corner.left q.corner.top (grid_of s q) u v).state)) (sym (half s q c.in-Four.level c.in-Four.parts c.requires.placed c.in-Four.ensures))
