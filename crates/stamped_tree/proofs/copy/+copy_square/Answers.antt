use Rattle.std.proofs.Common.{◌-◌, sym, inl}
use Rattle.std.specs.Prelude.{slice_index_or}
use Rattle.square_store.specs.Squares.{side_at, grid_at}
use Rattle.square_store.proofs.PieceLaws.{corner_nw, corner_ne, corner_sw, corner_se, adds_more, adds_quarter}
use Rattle.square_store.proofs.Places.{at_within}
use Rattle.square_store.proofs.Drawn.{grown_more}
use Rattle.stamped_tree.specs.LeafKind.{plane_grid}
use Rattle.stamped_tree.proofs.Copying.{all_copied}
use Rattle.stamped_tree.proofs.Cutting.{one_cut, from_nw, from_ne, from_sw, from_se}
use Rattle.stamped_tree.proofs.Parts.{of_level, above_leaves, nw_stands, ne_stands, sw_stands, se_stands, part_falls}
use Rattle.stamped_tree.proofs.copy.+copy_square.Goals as goal

pub returns-in-Some-clause-copy : goal.returns-in-Some-clause-copy
returns-in-Some-clause-copy t c = c.requires.copies.each c.args.part c.in-Some.copy.now (sym c.in-Some.ensures.value)

pub square-requires : goal.square-requires
square-requires t c = at_within c.args.source.now c.args.level c.args.part c.requires.part

pub copy_four-requires-clause-copied : goal.copy_four-requires-clause-copied
copy_four-requires-clause-copied t c = all_copied c.args.source.now c.copy_square.new.target c.copy_square-in-Four.new.target c.copy_square-in-Four-2.new.target c.copy_square-in-Four-3.new.target c.in-Four.parts c.in-Four.ensures.four _ _ _ _ _ _ _ _
    c.in_ok-ne-in-Four.ensures.grows c.in_ok-sw-in-Four.ensures.grows c.in_ok-se-in-Four.ensures.grows
    c.in_ok-nw-in-Four.ensures.copy c.in_ok-ne-in-Four.ensures.copy c.in_ok-sw-in-Four.ensures.copy c.in_ok-se-in-Four.ensures.copy

pub returns-in_ok-copy-in-Blank-clause-pieces : goal.returns-in_ok-copy-in-Blank-clause-pieces
returns-in_ok-copy-in-Blank-clause-pieces t c = one_cut c.args.target.now c.copy_blank.new.target c.args.level c.in_ok-copy-in-Blank.copy (grid_at plane_grid 8 c.args.source.now c.args.level c.args.part) c.in_ok-copy-in-Blank.ensures.added (c.in_ok-copy-in-Blank.ensures.copy.draws c.args.level c.requires.part)

pub returns-in_ok-copy-in-Leaf-clause-pieces : goal.returns-in_ok-copy-in-Leaf-clause-pieces
returns-in_ok-copy-in-Leaf-clause-pieces t c = one_cut c.args.target.now c.copy_leaf.new.target c.args.level c.in_ok-copy-in-Leaf.copy (grid_at plane_grid 8 c.args.source.now c.args.level c.args.part) c.in_ok-copy-in-Leaf.ensures.added (c.in_ok-copy-in-Leaf.ensures.copy.draws c.args.level c.requires.part)

pub returns-in_ok-copy-in-Four-clause-pieces : goal.returns-in_ok-copy-in-Four-clause-pieces
returns-in_ok-copy-in-Four-clause-pieces t c =
    let k = c.args.level in
    let n = side_at 8 (k - 1) in
    let source = c.args.source.now in
    let parts = c.in-Four.parts in
    let four = of_level source k c.in-Four.level c.args.part parts c.in-Four.ensures c.requires.part in
    let f = grid_at plane_grid 8 source k c.args.part in
    let s0 = c.args.target.now in
    let s1 = c.copy_square.new.target in
    let s2 = c.copy_square-in-Four.new.target in
    let s3 = c.copy_square-in-Four-2.new.target in
    let s4 = c.copy_square-in-Four-3.new.target in
    let s5 = c.copy_four.new.target in
    adds_more plane_grid 8 s0 s4 s5 k f c.in_ok-copy-in-Four.ensures.grows
    (adds_more plane_grid 8 s0 s3 s4 k f c.in_ok-se-in-Four.ensures.grows
    (adds_more plane_grid 8 s0 s2 s3 k f c.in_ok-sw-in-Four.ensures.grows
    (adds_more plane_grid 8 s0 s1 s2 k f c.in_ok-ne-in-Four.ensures.grows
    (adds_quarter plane_grid 8 s0 s1 k 0 0 (grid_at plane_grid 8 source (k - 1) (slice_index_or parts 0 c.index-parts-0.result)) f four.positive (corner_nw n) (from_nw source k c.args.part parts four.positive four.four four.draws.same c.index-parts-0.result) c.in_ok-nw-in-Four.ensures.pieces)
    (adds_quarter plane_grid 8 s1 s2 k n 0 (grid_at plane_grid 8 source (k - 1) (slice_index_or parts 1 c.index-parts-1.result)) f four.positive (corner_ne n) (from_ne source k c.args.part parts four.positive four.four four.draws.same c.index-parts-1.result) c.in_ok-ne-in-Four.ensures.pieces))
    (adds_quarter plane_grid 8 s2 s3 k 0 n (grid_at plane_grid 8 source (k - 1) (slice_index_or parts 2 c.index-parts-2.result)) f four.positive (corner_sw n) (from_sw source k c.args.part parts four.positive four.four four.draws.same c.index-parts-2.result) c.in_ok-sw-in-Four.ensures.pieces))
    (adds_quarter plane_grid 8 s3 s4 k n n (grid_at plane_grid 8 source (k - 1) (slice_index_or parts 3 c.index-parts-3.result)) f four.positive (corner_se n) (from_se source k c.args.part parts four.positive four.four four.draws.same c.index-parts-3.result) c.in_ok-se-in-Four.ensures.pieces))
    (one_cut s4 s5 k c.in_ok-copy-in-Four.copy f c.in_ok-copy-in-Four.ensures.added (c.in_ok-copy-in-Four.ensures.copy.draws k c.requires.part))

pub returns-in-Some-clause-pieces : goal.returns-in-Some-clause-pieces
returns-in-Some-clause-pieces t c = λ q held. inl held

pub overflow_sub-level : goal.overflow_sub-level
overflow_sub-level t c = above_leaves c.args.source.now c.args.level c.in-Four.level c.args.part c.in-Four.parts c.in-Four.ensures c.requires.part

pub overflow_sub-level-in-Four : goal.overflow_sub-level-in-Four
overflow_sub-level-in-Four t c = above_leaves c.args.source.now c.args.level c.in-Four.level c.args.part c.in-Four.parts c.in-Four.ensures c.requires.part

pub overflow_sub-level-in-Four-2 : goal.overflow_sub-level-in-Four-2
overflow_sub-level-in-Four-2 t c = above_leaves c.args.source.now c.args.level c.in-Four.level c.args.part c.in-Four.parts c.in-Four.ensures c.requires.part

pub overflow_sub-level-in-Four-3 : goal.overflow_sub-level-in-Four-3
overflow_sub-level-in-Four-3 t c = above_leaves c.args.source.now c.args.level c.in-Four.level c.args.part c.in-Four.parts c.in-Four.ensures c.requires.part

pub copy_square-requires : goal.copy_square-requires
copy_square-requires t c = (part_falls c.args.level t (above_leaves c.args.source.now c.args.level c.in-Four.level c.args.part c.in-Four.parts c.in-Four.ensures c.requires.part) c.decreases, (nw_stands c.args.source.now c.args.level c.in-Four.level c.args.part c.in-Four.parts c.in-Four.ensures c.requires.part c.index-parts-0.result, c.requires.copies))

pub copy_square-requires-in-Four : goal.copy_square-requires-in-Four
copy_square-requires-in-Four t c = (part_falls c.args.level t (above_leaves c.args.source.now c.args.level c.in-Four.level c.args.part c.in-Four.parts c.in-Four.ensures c.requires.part) c.decreases, (ne_stands c.args.source.now c.args.level c.in-Four.level c.args.part c.in-Four.parts c.in-Four.ensures c.requires.part c.index-parts-1.result, c.in_ok-nw-in-Four.ensures.copies))

pub copy_square-requires-in-Four-2 : goal.copy_square-requires-in-Four-2
copy_square-requires-in-Four-2 t c = (part_falls c.args.level t (above_leaves c.args.source.now c.args.level c.in-Four.level c.args.part c.in-Four.parts c.in-Four.ensures c.requires.part) c.decreases, (sw_stands c.args.source.now c.args.level c.in-Four.level c.args.part c.in-Four.parts c.in-Four.ensures c.requires.part c.index-parts-2.result, c.in_ok-ne-in-Four.ensures.copies))

pub copy_square-requires-in-Four-3 : goal.copy_square-requires-in-Four-3
copy_square-requires-in-Four-3 t c = (part_falls c.args.level t (above_leaves c.args.source.now c.args.level c.in-Four.level c.args.part c.in-Four.parts c.in-Four.ensures c.requires.part) c.decreases, (se_stands c.args.source.now c.args.level c.in-Four.level c.args.part c.in-Four.parts c.in-Four.ensures c.requires.part c.index-parts-3.result, c.in_ok-sw-in-Four.ensures.copies))

pub returns-in_err-nw-in-Four-clause-grows : goal.returns-in_err-nw-in-Four-clause-grows
returns-in_err-nw-in-Four-clause-grows t c = c.in_err-nw-in-Four.ensures.grows

pub returns-in_err-ne-in-Four-clause-grows : goal.returns-in_err-ne-in-Four-clause-grows
returns-in_err-ne-in-Four-clause-grows t c = grown_more plane_grid 8 c.args.target.now c.copy_square.new.target c.copy_square-in-Four.new.target c.in_ok-nw-in-Four.ensures.grows c.in_err-ne-in-Four.ensures.grows

pub returns-in_err-sw-in-Four-clause-grows : goal.returns-in_err-sw-in-Four-clause-grows
returns-in_err-sw-in-Four-clause-grows t c = grown_more plane_grid 8 c.args.target.now c.copy_square.new.target c.copy_square-in-Four-2.new.target c.in_ok-nw-in-Four.ensures.grows (grown_more plane_grid 8 c.copy_square.new.target c.copy_square-in-Four.new.target c.copy_square-in-Four-2.new.target c.in_ok-ne-in-Four.ensures.grows c.in_err-sw-in-Four.ensures.grows)

pub returns-in_err-se-in-Four-clause-grows : goal.returns-in_err-se-in-Four-clause-grows
returns-in_err-se-in-Four-clause-grows t c = grown_more plane_grid 8 c.args.target.now c.copy_square.new.target c.copy_square-in-Four-3.new.target c.in_ok-nw-in-Four.ensures.grows (grown_more plane_grid 8 c.copy_square.new.target c.copy_square-in-Four.new.target c.copy_square-in-Four-3.new.target c.in_ok-ne-in-Four.ensures.grows (grown_more plane_grid 8 c.copy_square-in-Four.new.target c.copy_square-in-Four-2.new.target c.copy_square-in-Four-3.new.target c.in_ok-sw-in-Four.ensures.grows c.in_err-se-in-Four.ensures.grows))

pub copy_four-requires-clause-part : goal.copy_four-requires-clause-part
copy_four-requires-clause-part t c = of_level c.args.source.now c.args.level c.in-Four.level c.args.part c.in-Four.parts c.in-Four.ensures c.requires.part

pub copy_four-requires-clause-copies : goal.copy_four-requires-clause-copies
copy_four-requires-clause-copies t c = c.in_ok-se-in-Four.ensures.copies

pub returns-in_err-copy-in-Four-clause-grows : goal.returns-in_err-copy-in-Four-clause-grows
returns-in_err-copy-in-Four-clause-grows t c = grown_more plane_grid 8 c.args.target.now c.copy_square.new.target c.copy_four.new.target c.in_ok-nw-in-Four.ensures.grows (grown_more plane_grid 8 c.copy_square.new.target c.copy_square-in-Four.new.target c.copy_four.new.target c.in_ok-ne-in-Four.ensures.grows (grown_more plane_grid 8 c.copy_square-in-Four.new.target c.copy_square-in-Four-2.new.target c.copy_four.new.target c.in_ok-sw-in-Four.ensures.grows (grown_more plane_grid 8 c.copy_square-in-Four-2.new.target c.copy_square-in-Four-3.new.target c.copy_four.new.target c.in_ok-se-in-Four.ensures.grows c.in_err-copy-in-Four.ensures.grows)))

pub returns-in_ok-copy-in-Four-clause-grows : goal.returns-in_ok-copy-in-Four-clause-grows
returns-in_ok-copy-in-Four-clause-grows t c = grown_more plane_grid 8 c.args.target.now c.copy_square.new.target c.copy_four.new.target c.in_ok-nw-in-Four.ensures.grows (grown_more plane_grid 8 c.copy_square.new.target c.copy_square-in-Four.new.target c.copy_four.new.target c.in_ok-ne-in-Four.ensures.grows (grown_more plane_grid 8 c.copy_square-in-Four.new.target c.copy_square-in-Four-2.new.target c.copy_four.new.target c.in_ok-sw-in-Four.ensures.grows (grown_more plane_grid 8 c.copy_square-in-Four-2.new.target c.copy_square-in-Four-3.new.target c.copy_four.new.target c.in_ok-se-in-Four.ensures.grows c.in_ok-copy-in-Four.ensures.grows)))

pub returns-in_ok-copy-in-Blank-clause-copies : goal.returns-in_ok-copy-in-Blank-clause-copies
returns-in_ok-copy-in-Blank-clause-copies t c = c.in_ok-copy-in-Blank.ensures.copies

pub returns-in_ok-copy-in-Blank-clause-copy : goal.returns-in_ok-copy-in-Blank-clause-copy
returns-in_ok-copy-in-Blank-clause-copy t c = c.in_ok-copy-in-Blank.ensures.copy

pub returns-in_ok-copy-in-Leaf-clause-copies : goal.returns-in_ok-copy-in-Leaf-clause-copies
returns-in_ok-copy-in-Leaf-clause-copies t c = c.in_ok-copy-in-Leaf.ensures.copies

pub returns-in_ok-copy-in-Leaf-clause-copy : goal.returns-in_ok-copy-in-Leaf-clause-copy
returns-in_ok-copy-in-Leaf-clause-copy t c = c.in_ok-copy-in-Leaf.ensures.copy

pub returns-in_ok-copy-in-Four-clause-copies : goal.returns-in_ok-copy-in-Four-clause-copies
returns-in_ok-copy-in-Four-clause-copies t c = c.in_ok-copy-in-Four.ensures.copies

pub returns-in_ok-copy-in-Four-clause-copy : goal.returns-in_ok-copy-in-Four-clause-copy
returns-in_ok-copy-in-Four-clause-copy t c = c.in_ok-copy-in-Four.ensures.copy

pub returns-in_ok-copy-in-Blank-clause-grows : goal.returns-in_ok-copy-in-Blank-clause-grows
returns-in_ok-copy-in-Blank-clause-grows t c = c.in_ok-copy-in-Blank.ensures.grows

pub returns-in_err-copy-in-Blank-clause-grows : goal.returns-in_err-copy-in-Blank-clause-grows
returns-in_err-copy-in-Blank-clause-grows t c = c.in_err-copy-in-Blank.ensures.grows

pub returns-in_ok-copy-in-Leaf-clause-grows : goal.returns-in_ok-copy-in-Leaf-clause-grows
returns-in_ok-copy-in-Leaf-clause-grows t c = c.in_ok-copy-in-Leaf.ensures.grows

pub returns-in_err-copy-in-Leaf-clause-grows : goal.returns-in_err-copy-in-Leaf-clause-grows
returns-in_err-copy-in-Leaf-clause-grows t c = c.in_err-copy-in-Leaf.ensures.grows
