use Rattle.std.proofs.Common.{◌≡◌, ℕ, slice_index_or, ◌+◌, ◌-◌, ◌<◌, ◌≤◌, ◌∙◌, sym, ap, arith}
use Rattle.square_store.proofs.Places.{at_within}
use Rattle.generation_engine.proofs.Counted.{leaf_counted}
use Rattle.generation_engine.proofs.CountLaws.{above_leaves, below, blank_counted, few_in_quarter, four_counted, one_more_counted, nw_of_four, ne_of_four, sw_of_four, se_of_four}
use Rattle.generation_engine.proofs.counts.+count_square.Goals as goal

pub square-requires : goal.square-requires
square-requires t c = at_within c.args.store.now c.args.level c.args.part c.requires.stands

pub returns-in-Blank-clause-count : goal.returns-in-Blank-clause-count
returns-in-Blank-clause-count t c = blank_counted c.args.store.now c.args.level c.in-Blank.field-0 c.args.part c.in-Blank.ensures

pub returns-in-Leaf-clause-count : goal.returns-in-Leaf-clause-count
returns-in-Leaf-clause-count t c = c.from.ensures ∙ c.population.ensures ∙ leaf_counted c.args.store.now c.args.level c.args.part c.in-Leaf.leaf.now c.in-Leaf.ensures c.requires.stands

pub count_square-nw-requires : goal.count_square-nw-requires
count_square-nw-requires t c =
    let b = below c.args.store.now c.args.level c.in-Four.level c.args.part 0 c.index-parts-0.result c.in-Four.parts c.in-Four.ensures c.requires.stands nw_of_four in
    let some = b.some in let level = c.requires.level in let down = c.decreases in
    (omega (arith, some, down), (omega (arith, level), (b.stands, c.requires.counted)))

pub count_square-ne-requires : goal.count_square-ne-requires
count_square-ne-requires t c =
    let b = below c.args.store.now c.args.level c.in-Four.level c.args.part 1 c.index-parts-1.result c.in-Four.parts c.in-Four.ensures c.requires.stands ne_of_four in
    let some = b.some in let level = c.requires.level in let down = c.decreases in
    (omega (arith, some, down), (omega (arith, level), (b.stands, c.count_square-nw.ensures.counted)))

pub count_square-sw-requires : goal.count_square-sw-requires
count_square-sw-requires t c =
    let b = below c.args.store.now c.args.level c.in-Four.level c.args.part 2 c.index-parts-2.result c.in-Four.parts c.in-Four.ensures c.requires.stands sw_of_four in
    let some = b.some in let level = c.requires.level in let down = c.decreases in
    (omega (arith, some, down), (omega (arith, level), (b.stands, c.count_square-ne.ensures.counted)))

pub count_square-se-requires : goal.count_square-se-requires
count_square-se-requires t c =
    let b = below c.args.store.now c.args.level c.in-Four.level c.args.part 3 c.index-parts-3.result c.in-Four.parts c.in-Four.ensures c.requires.stands se_of_four in
    let some = b.some in let level = c.requires.level in let down = c.decreases in
    (omega (arith, some, down), (omega (arith, level), (b.stands, c.count_square-sw.ensures.counted)))

pub overflow_sub-level : goal.overflow_sub-level
overflow_sub-level t c = above_leaves c.args.store.now c.args.level c.in-Four.level c.args.part c.in-Four.parts c.in-Four.ensures c.requires.stands

pub overflow_sub-level-in-Four : goal.overflow_sub-level-in-Four
overflow_sub-level-in-Four t c = above_leaves c.args.store.now c.args.level c.in-Four.level c.args.part c.in-Four.parts c.in-Four.ensures c.requires.stands

pub overflow_sub-level-in-Four-2 : goal.overflow_sub-level-in-Four-2
overflow_sub-level-in-Four-2 t c = above_leaves c.args.store.now c.args.level c.in-Four.level c.args.part c.in-Four.parts c.in-Four.ensures c.requires.stands

pub overflow_sub-level-in-Four-3 : goal.overflow_sub-level-in-Four-3
overflow_sub-level-in-Four-3 t c = above_leaves c.args.store.now c.args.level c.in-Four.level c.args.part c.in-Four.parts c.in-Four.ensures c.requires.stands

pub returns-in-Some-clause-count : goal.returns-in-Some-clause-count
returns-in-Some-clause-count t c = c.requires.counted.each c.args.part c.in-Some.count.now (sym c.in-Some.ensures.value) c.args.level c.requires.stands

pub overflow_add-count : goal.overflow_add-count
overflow_add-count t c =
    let some = above_leaves c.args.store.now c.args.level c.in-Four.level c.args.part c.in-Four.parts c.in-Four.ensures c.requires.stands in
    let few = λ (p : ℕ). few_in_quarter c.args.store.now c.args.level p some c.requires.level in
    let nw = c.count_square-nw.ensures.count in let few_nw = few (slice_index_or c.in-Four.parts 0 c.index-parts-0.result) in
    let ne = c.count_square-ne.ensures.count in let few_ne = few (slice_index_or c.in-Four.parts 1 c.index-parts-1.result) in
    omega (arith, nw, few_nw, ne, few_ne)

pub overflow_add-count-in-Four : goal.overflow_add-count-in-Four
overflow_add-count-in-Four t c =
    let some = above_leaves c.args.store.now c.args.level c.in-Four.level c.args.part c.in-Four.parts c.in-Four.ensures c.requires.stands in
    let few = λ (p : ℕ). few_in_quarter c.args.store.now c.args.level p some c.requires.level in
    let nw = c.count_square-nw.ensures.count in let few_nw = few (slice_index_or c.in-Four.parts 0 c.index-parts-0.result) in
    let ne = c.count_square-ne.ensures.count in let few_ne = few (slice_index_or c.in-Four.parts 1 c.index-parts-1.result) in
    let sw = c.count_square-sw.ensures.count in let few_sw = few (slice_index_or c.in-Four.parts 2 c.index-parts-2.result) in
    omega (arith, nw, few_nw, ne, few_ne, sw, few_sw)

pub overflow_add-count-in-Four-2 : goal.overflow_add-count-in-Four-2
overflow_add-count-in-Four-2 t c =
    let some = above_leaves c.args.store.now c.args.level c.in-Four.level c.args.part c.in-Four.parts c.in-Four.ensures c.requires.stands in
    let few = λ (p : ℕ). few_in_quarter c.args.store.now c.args.level p some c.requires.level in
    let nw = c.count_square-nw.ensures.count in let few_nw = few (slice_index_or c.in-Four.parts 0 c.index-parts-0.result) in
    let ne = c.count_square-ne.ensures.count in let few_ne = few (slice_index_or c.in-Four.parts 1 c.index-parts-1.result) in
    let sw = c.count_square-sw.ensures.count in let few_sw = few (slice_index_or c.in-Four.parts 2 c.index-parts-2.result) in
    let se = c.count_square-se.ensures.count in let few_se = few (slice_index_or c.in-Four.parts 3 c.index-parts-3.result) in
    omega (arith, nw, few_nw, ne, few_ne, sw, few_sw, se, few_se)

pub returns-in_default-clause-count : goal.returns-in_default-clause-count
returns-in_default-clause-count t c =
    (λ i. c.count_square-nw.ensures.count i + c.count_square-ne.ensures.count i + c.count_square-sw.ensures.count i + c.count_square-se.ensures.count i)
    ∙ four_counted c.args.store.now c.args.level c.in-Four.level c.args.part c.in-Four.parts c.index-parts-0.result c.index-parts-1.result c.index-parts-2.result c.index-parts-3.result c.in-Four.ensures c.requires.stands

pub returns-in_default-clause-counted : goal.returns-in_default-clause-counted
returns-in_default-clause-counted t c =
    one_more_counted c.args.store.now c.args.level c.in-Four.level c.args.part _ c.in-Four.parts c.count_square-se.new.counts.entries c.note.new.counts.entries c.in-Four.ensures c.requires.stands (returns-in_default-clause-count t c) c.count_square-se.ensures.counted c.note.ensures
