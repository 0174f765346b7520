use Rattle.std.proofs.Common.{◌-◌, ◌∙◌, sym, subst, arith}
use Rattle.std.proofs.lemmas.Bool.{iff_false}
use Rattle.square_store.proofs.Places.{at_within}
use Rattle.square_store.specs.Squares.{side_at}
use Rattle.generation_engine.specs.Placed.{grid_of}
use Rattle.generation_engine.specs.Region.{seen_grid}
use Rattle.generation_engine.specs.Walk.{GathersSquare}
use Rattle.generation_engine.proofs.Beside.{fits, four_beside, half, is_positive}
use Rattle.generation_engine.proofs.Windows.{apart_dead, blank_dead, drawn_leaf, gathered_beside, gathered_none, leaf_gathered, seen_dead, whole_gathered}
use Rattle.generation_engine.proofs.window.+gather_in.Goals as goal

pub returns-then-not-meets : goal.returns-then-not-meets
returns-then-not-meets t c =
    let q = c.args.square.now in
    let none = iff_false c.meets.ensures c.if-not-meets.true in
    gathered_none (side_at 8 q.level) (seen_grid c.args.region q.corner.left q.corner.top (grid_of c.args.store.now q)) q.corner.left q.corner.top c.args.found.now (apart_dead c.args.region c.of_square-own.result q (grid_of c.args.store.now q) c.of_square-own.ensures none)

pub returns-then-has_all : goal.returns-then-has_all
returns-then-has_all t c =
    let has = sym c.has_all.ensures ∙ c.if-has_all.true in
    whole_gathered c.args.store.now c.args.region c.of_square-own.result c.args.square.now c.args.found.now c.gather.new.found c.of_square-own.ensures has c.in_ok-gather.ensures

pub square-requires : goal.square-requires
square-requires t c = at_within c.args.store.now c.args.square.now.level c.args.square.now.part c.requires.stands

pub side_by_side-quarters-requires-clause-left : goal.side_by_side-quarters-requires-clause-left
side_by_side-quarters-requires-clause-left t c = fits c.args.store.now c.args.square.now c.in-Four.level c.in-Four.parts c.requires c.in-Four.ensures c.args.square.now.corner.left c.requires.left

pub side_by_side-quarters-requires-clause-top : goal.side_by_side-quarters-requires-clause-top
side_by_side-quarters-requires-clause-top t c = fits c.args.store.now c.args.square.now c.in-Four.level c.in-Four.parts c.requires c.in-Four.ensures c.args.square.now.corner.top c.requires.top

pub gather_in-requires-in-Four : goal.gather_in-requires-in-Four
gather_in-requires-in-Four t c =
    let put = four_beside c.args.store.now c.args.square.now c.in-Four.level c.in-Four.parts c.requires c.in-Four.ensures c.side_by_side-quarters.result c.side_by_side-quarters.ensures in
    let some = is_positive c.args.store.now c.args.square.now c.in-Four.level c.in-Four.parts c.requires c.in-Four.ensures in
    let level = put.ne.level in let down = c.decreases in
    (omega (arith, some, level, down), put.ne.placed)

pub gather_in-requires-in-Four-2 : goal.gather_in-requires-in-Four-2
gather_in-requires-in-Four-2 t c =
    let put = four_beside c.args.store.now c.args.square.now c.in-Four.level c.in-Four.parts c.requires c.in-Four.ensures c.side_by_side-quarters.result c.side_by_side-quarters.ensures in
    let some = is_positive c.args.store.now c.args.square.now c.in-Four.level c.in-Four.parts c.requires c.in-Four.ensures in
    let level = put.sw.level in let down = c.decreases in
    (omega (arith, some, level, down), put.sw.placed)

pub gather_in-requires-in-Four-3 : goal.gather_in-requires-in-Four-3
gather_in-requires-in-Four-3 t c =
    let put = four_beside c.args.store.now c.args.square.now c.in-Four.level c.in-Four.parts c.requires c.in-Four.ensures c.side_by_side-quarters.result c.side_by_side-quarters.ensures in
    let some = is_positive c.args.store.now c.args.square.now c.in-Four.level c.in-Four.parts c.requires c.in-Four.ensures in
    let level = put.se.level in let down = c.decreases in
    (omega (arith, some, level, down), put.se.placed)

pub returns-in-Blank : goal.returns-in-Blank
returns-in-Blank t c =
    let q = c.args.square.now in
    gathered_none (side_at 8 q.level) (seen_grid c.args.region q.corner.left q.corner.top (grid_of c.args.store.now q)) q.corner.left q.corner.top c.args.found.now
    (seen_dead c.args.region (side_at 8 q.level) q.corner.left q.corner.top (grid_of c.args.store.now q) (blank_dead c.args.store.now q c.in-Blank.field-0 c.in-Blank.ensures))

pub returns-in_ok-gather_leaf_in-in-Leaf : goal.returns-in_ok-gather_leaf_in-in-Leaf
returns-in_ok-gather_leaf_in-in-Leaf t c = leaf_gathered c.args.store.now c.args.region c.args.square.now c.in-Leaf.leaf.now c.args.found.now c.gather_leaf_in.new.found
    (drawn_leaf c.args.store.now c.args.square.now c.in-Leaf.leaf.now c.requires c.in-Leaf.ensures) c.in_ok-gather_leaf_in-in-Leaf.ensures

pub returns-in_ok-gather_in-in-Four-4 : goal.returns-in_ok-gather_in-in-Four-4
returns-in_ok-gather_in-in-Four-4 t c =
    let s = c.args.store.now in let q = c.args.square.now in
    let put = four_beside s q c.in-Four.level c.in-Four.parts c.requires c.in-Four.ensures c.side_by_side-quarters.result c.side_by_side-quarters.ensures in
    let l4 = c.gather_in-in-Four-3.new.found in
    subst (λ n. GathersSquare n (seen_grid c.args.region q.corner.left q.corner.top (grid_of s q)) q.corner.left q.corner.top c.args.found.now l4) (sym (half s q c.in-Four.level c.in-Four.parts c.requires c.in-Four.ensures))
    (gathered_beside s c.args.region (q.level - 1) q.corner.left q.corner.top (grid_of s q) c.side_by_side-quarters.result put c.args.found.now c.gather_in.new.found c.gather_in-in-Four.new.found c.gather_in-in-Four-2.new.found l4
    c.in_ok-gather_in-in-Four.ensures c.in_ok-gather_in-in-Four-2.ensures c.in_ok-gather_in-in-Four-3.ensures c.in_ok-gather_in-in-Four-4.ensures)
