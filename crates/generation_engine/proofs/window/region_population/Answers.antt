use Rattle.std.proofs.Common.{◌+◌, ◌∙◌, arith}
use Rattle.generation_engine.specs.Walk.{middle_grid}
use Rattle.generation_engine.proofs.Windows.{counted_beside, few_beside}
use Rattle.generation_engine.proofs.window.region_population.Goals as goal

pub overflow_add-result : goal.overflow_add-result
overflow_add-result c =
    let few = few_beside c.args.store.now c.args.region 28 0 0 (middle_grid c.args.store.now c.args.root) c.middle_squares-squares.result c.middle_squares-squares.ensures in
    let nw = c.count_in-nw.ensures.count in let ne = c.count_in-ne.ensures.count in let sw = c.count_in-sw.ensures.count in let se = c.count_in-se.ensures.count in
    omega (arith, few, nw, ne, sw, se)

pub overflow_add-result-2 : goal.overflow_add-result-2
overflow_add-result-2 c =
    let few = few_beside c.args.store.now c.args.region 28 0 0 (middle_grid c.args.store.now c.args.root) c.middle_squares-squares.result c.middle_squares-squares.ensures in
    let nw = c.count_in-nw.ensures.count in let ne = c.count_in-ne.ensures.count in let sw = c.count_in-sw.ensures.count in let se = c.count_in-se.ensures.count in
    omega (arith, few, nw, ne, sw, se)

pub overflow_add-result-3 : goal.overflow_add-result-3
overflow_add-result-3 c =
    let few = few_beside c.args.store.now c.args.region 28 0 0 (middle_grid c.args.store.now c.args.root) c.middle_squares-squares.result c.middle_squares-squares.ensures in
    let nw = c.count_in-nw.ensures.count in let ne = c.count_in-ne.ensures.count in let sw = c.count_in-sw.ensures.count in let se = c.count_in-se.ensures.count in
    omega (arith, few, nw, ne, sw, se)

pub returns : goal.returns
returns c =
    (λ i. c.count_in-nw.ensures.count i + c.count_in-ne.ensures.count i + c.count_in-sw.ensures.count i + c.count_in-se.ensures.count i)
    ∙ counted_beside c.args.store.now c.args.region 28 0 0 (middle_grid c.args.store.now c.args.root) c.middle_squares-squares.result c.middle_squares-squares.ensures
