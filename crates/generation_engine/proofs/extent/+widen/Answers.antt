use Rattle.std.proofs.Common.{◌≡◌, ◌-◌, ◌∙◌, sym, subst, arith}
use Rattle.square_store.proofs.Places.{at_within}
use Rattle.square_store.specs.Squares.{side_at}
use Rattle.generation_engine.specs.Extent.{IsWidened, is_live_on}
use Rattle.generation_engine.specs.Placed.{grid_of, is_live_in}
use Rattle.generation_engine.proofs.Beside.{fits, four_beside, half, is_positive}
use Rattle.generation_engine.proofs.Extents.{dead_square, leaf_widened, live_inside, widened_beside, widened_inside, widened_none}
use Rattle.generation_engine.proofs.Windows.{blank_dead, drawn_leaf}
use Rattle.generation_engine.proofs.extent.+widen.Goals as goal
use Rattle.generation_engine.proofs.extent.+widen.Goals.{in_default-via-in-None-1, in_default-via-in-Some+else-has_all}

pub returns : goal.returns
returns t c =
    let q = c.args.square.now in
    let has = sym c.has_all.ensures ∙ c.if-has_all.true in
    rw c.in-Some.is (widened_inside (is_live_in c.args.store.now q) c.in-Some.region (λ u v. live_inside c.args.store.now c.in-Some.region c.of_square-own.result q u v c.of_square-own.ensures has))

pub square-requires : goal.square-requires
square-requires t c = at_within c.args.store.now c.args.square.now.level c.args.square.now.part c.requires.stands

pub side_by_side-quarters-requires-clause-left : goal.side_by_side-quarters-requires-clause-left
side_by_side-quarters-requires-clause-left t c = fits c.args.store.now c.args.square.now c.in-Four.level c.in-Four.parts c.requires c.in-Four.ensures c.args.square.now.corner.left c.requires.left

pub side_by_side-quarters-requires-clause-top : goal.side_by_side-quarters-requires-clause-top
side_by_side-quarters-requires-clause-top t c = fits c.args.store.now c.args.square.now c.in-Four.level c.in-Four.parts c.requires c.in-Four.ensures c.args.square.now.corner.top c.requires.top

pub widen-found-requires-in-Four : goal.widen-found-requires-in-Four
widen-found-requires-in-Four t c =
    let put = four_beside c.args.store.now c.args.square.now c.in-Four.level c.in-Four.parts c.requires c.in-Four.ensures c.side_by_side-quarters.result c.side_by_side-quarters.ensures in
    let some = is_positive c.args.store.now c.args.square.now c.in-Four.level c.in-Four.parts c.requires c.in-Four.ensures in
    let level = put.ne.level in let down = c.decreases in
    (omega (arith, some, level, down), put.ne.placed)

pub widen-found-requires-in-Four-2 : goal.widen-found-requires-in-Four-2
widen-found-requires-in-Four-2 t c =
    let put = four_beside c.args.store.now c.args.square.now c.in-Four.level c.in-Four.parts c.requires c.in-Four.ensures c.side_by_side-quarters.result c.side_by_side-quarters.ensures in
    let some = is_positive c.args.store.now c.args.square.now c.in-Four.level c.in-Four.parts c.requires c.in-Four.ensures in
    let level = put.sw.level in let down = c.decreases in
    (omega (arith, some, level, down), put.sw.placed)

pub widen-requires : goal.widen-requires
widen-requires t c =
    let put = four_beside c.args.store.now c.args.square.now c.in-Four.level c.in-Four.parts c.requires c.in-Four.ensures c.side_by_side-quarters.result c.side_by_side-quarters.ensures in
    let some = is_positive c.args.store.now c.args.square.now c.in-Four.level c.in-Four.parts c.requires c.in-Four.ensures in
    let level = put.se.level in let down = c.decreases in
    (omega (arith, some, level, down), put.se.placed)

pub returns-in-Blank : goal.returns-in-Blank
returns-in-Blank t c =
    let q = c.args.square.now in
    let same : c.in_default.found ≡ c.args.found = elim c.in_default.branch [ in_default-via-in-None-1 w ↦ w.found-is | in_default-via-in-Some+else-has_all w ↦ w.found-is ∙ sym w.in-Some.is ] in
    rw same (widened_none (is_live_in c.args.store.now q) c.args.found (λ u v. dead_square (side_at 8 q.level) (grid_of c.args.store.now q) q.corner.left q.corner.top u v (blank_dead c.args.store.now q c.in-Blank.field-0 c.in-Blank.ensures)))

pub returns-in-Leaf : goal.returns-in-Leaf
returns-in-Leaf t c =
    let q = c.args.square.now in
    let same : c.in_default.found ≡ c.args.found = elim c.in_default.branch [ in_default-via-in-None-1 w ↦ w.found-is | in_default-via-in-Some+else-has_all w ↦ w.found-is ∙ sym w.in-Some.is ] in
    leaf_widened c.args.store.now q c.in-Leaf.leaf.now c.args.found c.widen_by_leaf.result (drawn_leaf c.args.store.now q c.in-Leaf.leaf.now c.requires c.in-Leaf.ensures) (rw same at c.widen_by_leaf.ensures)

pub returns-in-Four : goal.returns-in-Four
returns-in-Four t c =
    let s = c.args.store.now in let q = c.args.square.now in
    let same : c.in_default.found ≡ c.args.found = elim c.in_default.branch [ in_default-via-in-None-1 w ↦ w.found-is | in_default-via-in-Some+else-has_all w ↦ w.found-is ∙ sym w.in-Some.is ] in
    let put = four_beside s q c.in-Four.level c.in-Four.parts c.requires c.in-Four.ensures c.side_by_side-quarters.result c.side_by_side-quarters.ensures in
    subst (λ n. IsWidened (is_live_on n (grid_of s q) q.corner.left q.corner.top) c.args.found c.widen.result) (sym (half s q c.in-Four.level c.in-Four.parts c.requires c.in-Four.ensures))
    (widened_beside s (q.level - 1) q.corner.left q.corner.top (grid_of s q) c.side_by_side-quarters.result put c.args.found c.widen-found.result c.widen-found-in-Four.result c.widen-found-in-Four-2.result c.widen.result
    (rw same at c.widen-found.ensures) c.widen-found-in-Four.ensures c.widen-found-in-Four-2.ensures c.widen.ensures)
