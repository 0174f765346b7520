use Rattle.std.proofs.Common.{[], ◌∷◌, ◌-◌, ap, Err}
use Rattle.std.specs.Prelude.{slice_index_or}
use Rattle.square_store.specs.Squares.{side_at, grid_at, four_grid}
use Rattle.square_store.proofs.PieceLaws.{corner_nw, corner_ne, corner_sw, corner_se, adds_quarter, adds_more, adds_as, adds_none}
use Rattle.stamped_tree.specs.LeafKind.{plane_grid}
use Rattle.stamped_tree.proofs.DrawnPieces.{quarter_full, same_full}
use Rattle.stamped_tree.proofs.Cutting.{from_nw, from_ne, from_sw, from_se}
use Rattle.square_store.proofs.Made.{told}
use Rattle.stamped_tree.proofs.Copying.{all_copied, four_same, four_copied}
use Rattle.square_store.proofs.Places.{at_within}
use Rattle.tree_join.proofs.Growing.{grown_on, some_above, level_below, part_falls, nw_stands, ne_stands, sw_stands, se_stands}
use Rattle.tree_join.proofs.Joining.{copies_later}
use Rattle.tree_join.proofs.bring.+bring.Goals as goal

pub bring-square-requires : goal.bring-square-requires
bring-square-requires t c = at_within c.args.other.now.store c.args.above c.args.there c.requires.there

pub bring-bring_blank-requires : goal.bring-bring_blank-requires
bring-bring_blank-requires t c = rw c.square.ensures at c.in-Blank.ensures

pub bring_four-keep_copy-requires-clause-copied : goal.bring_four-keep_copy-requires-clause-copied
bring_four-keep_copy-requires-clause-copied t c = four_copied c.args.other.now.store c.bring-4.new.plane.store c.args.above c.args.four.now.there c.args.four.now.parts (c.in_ok-nw.nw ∷ c.in_ok-ne.ne ∷ c.in_ok-sw.sw ∷ c.in_ok-se.se ∷ []) c.requires.four
    (all_copied c.args.other.now.store c.bring.new.plane.store c.bring-2.new.plane.store c.bring-3.new.plane.store c.bring-4.new.plane.store c.args.four.now.parts c.requires.four.four _ _ _ _ _ _ _ _
    c.in_ok-ne.ensures.grows.store c.in_ok-sw.ensures.grows.store c.in_ok-se.ensures.grows.store
    c.in_ok-nw.ensures.copy c.in_ok-ne.ensures.copy c.in_ok-sw.ensures.copy c.in_ok-se.ensures.copy) c.add_four.new.plane.store c.in_ok-copy.copy c.in_ok-copy.ensures.draws

pub bring_four-returns-clause-copy : goal.bring_four-returns-clause-copy
bring_four-returns-clause-copy t c = four_copied c.args.other.now.store c.bring-4.new.plane.store c.args.above c.args.four.now.there c.args.four.now.parts (c.in_ok-nw.nw ∷ c.in_ok-ne.ne ∷ c.in_ok-sw.sw ∷ c.in_ok-se.se ∷ []) c.requires.four
    (all_copied c.args.other.now.store c.bring.new.plane.store c.bring-2.new.plane.store c.bring-3.new.plane.store c.bring-4.new.plane.store c.args.four.now.parts c.requires.four.four _ _ _ _ _ _ _ _
    c.in_ok-ne.ensures.grows.store c.in_ok-sw.ensures.grows.store c.in_ok-se.ensures.grows.store
    c.in_ok-nw.ensures.copy c.in_ok-ne.ensures.copy c.in_ok-sw.ensures.copy c.in_ok-se.ensures.copy) c.add_four.new.plane.store c.in_ok-copy.copy c.in_ok-copy.ensures.draws

pub bring_four-returns-in_err-copy-clause-grows : goal.bring_four-returns-in_err-copy-clause-grows
bring_four-returns-in_err-copy-clause-grows t c =
    grown_on _ _ _ c.in_ok-nw.ensures.grows (grown_on _ _ _ c.in_ok-ne.ensures.grows (grown_on _ _ _ c.in_ok-sw.ensures.grows (grown_on _ _ _ c.in_ok-se.ensures.grows c.in_err-copy.ensures.grows)))

pub bring_four-returns-in_err-keep_copy-clause-grows : goal.bring_four-returns-in_err-keep_copy-clause-grows
bring_four-returns-in_err-keep_copy-clause-grows t c =
    grown_on _ _ _ c.in_ok-nw.ensures.grows (grown_on _ _ _ c.in_ok-ne.ensures.grows (grown_on _ _ _ c.in_ok-sw.ensures.grows (grown_on _ _ _ c.in_ok-se.ensures.grows c.in_ok-copy.ensures.grows)))

pub bring_four-returns-clause-grows : goal.bring_four-returns-clause-grows
bring_four-returns-clause-grows t c =
    grown_on _ _ _ c.in_ok-nw.ensures.grows (grown_on _ _ _ c.in_ok-ne.ensures.grows (grown_on _ _ _ c.in_ok-sw.ensures.grows (grown_on _ _ _ c.in_ok-se.ensures.grows c.in_ok-copy.ensures.grows)))

pub bring_four-overflow_sub-above : goal.bring_four-overflow_sub-above
bring_four-overflow_sub-above t c = some_above c.args.above c.requires.four.positive

pub bring_four-bring-requires : goal.bring_four-bring-requires
bring_four-bring-requires t c =
    (part_falls c.args.above t c.requires.four.positive c.decreases, (level_below c.args.above c.requires.most, (nw_stands c.args.other.now.store c.args.above c.args.four.now.there c.args.four.now.parts c.requires.four c.index-four-0.result, c.requires.copies)))

pub bring_four-returns-in_err-nw-clause-grows : goal.bring_four-returns-in_err-nw-clause-grows
bring_four-returns-in_err-nw-clause-grows t c = c.in_err-nw.ensures.grows

pub bring_four-returns-in_err-nw-clause-copies : goal.bring_four-returns-in_err-nw-clause-copies
bring_four-returns-in_err-nw-clause-copies t c = c.in_err-nw.ensures.copies

pub bring_four-returns-in_err-nw-clause-full : goal.bring_four-returns-in_err-nw-clause-full
bring_four-returns-in_err-nw-clause-full t c =
    let k = c.args.above in
    let n = side_at 8 (k - 1) in
    let b = c.args.four.now.there in
    let parts = c.args.four.now.parts in
    let four = c.requires.four in
    let there = c.args.other.now.store in
    let f = grid_at plane_grid 8 there k b in
    let s0 = c.args.plane.now.store in
    let s1 = c.bring.new.plane.store in
    λ e. quarter_full s1 k 0 0 (grid_at plane_grid 8 there (k - 1) (slice_index_or parts 0 c.index-four-0.result)) f four.positive (corner_nw n) (from_nw there k b parts four.positive four.four four.draws.same c.index-four-0.result) (c.in_err-nw.ensures.full (ap (λ e. Err e) (told _ _ _ c.from_residual.ensures.1 e)))

pub bring_four-overflow_sub-above-2 : goal.bring_four-overflow_sub-above-2
bring_four-overflow_sub-above-2 t c = some_above c.args.above c.requires.four.positive

pub bring_four-bring-requires-2 : goal.bring_four-bring-requires-2
bring_four-bring-requires-2 t c =
    (part_falls c.args.above t c.requires.four.positive c.decreases, (level_below c.args.above c.requires.most, (ne_stands c.args.other.now.store c.args.above c.args.four.now.there c.args.four.now.parts c.requires.four c.index-four-1.result, c.in_ok-nw.ensures.copies)))

pub bring_four-returns-in_err-ne-clause-grows : goal.bring_four-returns-in_err-ne-clause-grows
bring_four-returns-in_err-ne-clause-grows t c = grown_on c.args.plane.now c.bring.new.plane c.bring-2.new.plane c.in_ok-nw.ensures.grows c.in_err-ne.ensures.grows

pub bring_four-returns-in_err-ne-clause-copies : goal.bring_four-returns-in_err-ne-clause-copies
bring_four-returns-in_err-ne-clause-copies t c = c.in_err-ne.ensures.copies

pub bring_four-returns-in_err-ne-clause-full : goal.bring_four-returns-in_err-ne-clause-full
bring_four-returns-in_err-ne-clause-full t c =
    let k = c.args.above in
    let n = side_at 8 (k - 1) in
    let b = c.args.four.now.there in
    let parts = c.args.four.now.parts in
    let four = c.requires.four in
    let there = c.args.other.now.store in
    let f = grid_at plane_grid 8 there k b in
    let s0 = c.args.plane.now.store in
    let s1 = c.bring.new.plane.store in
    let s2 = c.bring-2.new.plane.store in
    λ e. quarter_full s2 k n 0 (grid_at plane_grid 8 there (k - 1) (slice_index_or parts 1 c.index-four-1.result)) f four.positive (corner_ne n) (from_ne there k b parts four.positive four.four four.draws.same c.index-four-1.result) (c.in_err-ne.ensures.full (ap (λ e. Err e) (told _ _ _ c.from_residual-in_err-ne.ensures.1 e)))

pub bring_four-overflow_sub-above-3 : goal.bring_four-overflow_sub-above-3
bring_four-overflow_sub-above-3 t c = some_above c.args.above c.requires.four.positive

pub bring_four-bring-requires-3 : goal.bring_four-bring-requires-3
bring_four-bring-requires-3 t c =
    (part_falls c.args.above t c.requires.four.positive c.decreases, (level_below c.args.above c.requires.most, (sw_stands c.args.other.now.store c.args.above c.args.four.now.there c.args.four.now.parts c.requires.four c.index-four-2.result, c.in_ok-ne.ensures.copies)))

pub bring_four-returns-in_err-sw-clause-grows : goal.bring_four-returns-in_err-sw-clause-grows
bring_four-returns-in_err-sw-clause-grows t c = grown_on c.args.plane.now c.bring.new.plane c.bring-3.new.plane c.in_ok-nw.ensures.grows (grown_on c.bring.new.plane c.bring-2.new.plane c.bring-3.new.plane c.in_ok-ne.ensures.grows c.in_err-sw.ensures.grows)

pub bring_four-returns-in_err-sw-clause-copies : goal.bring_four-returns-in_err-sw-clause-copies
bring_four-returns-in_err-sw-clause-copies t c = c.in_err-sw.ensures.copies

pub bring_four-returns-in_err-sw-clause-full : goal.bring_four-returns-in_err-sw-clause-full
bring_four-returns-in_err-sw-clause-full t c =
    let k = c.args.above in
    let n = side_at 8 (k - 1) in
    let b = c.args.four.now.there in
    let parts = c.args.four.now.parts in
    let four = c.requires.four in
    let there = c.args.other.now.store in
    let f = grid_at plane_grid 8 there k b in
    let s0 = c.args.plane.now.store in
    let s1 = c.bring.new.plane.store in
    let s2 = c.bring-2.new.plane.store in
    let s3 = c.bring-3.new.plane.store in
    λ e. quarter_full s3 k 0 n (grid_at plane_grid 8 there (k - 1) (slice_index_or parts 2 c.index-four-2.result)) f four.positive (corner_sw n) (from_sw there k b parts four.positive four.four four.draws.same c.index-four-2.result) (c.in_err-sw.ensures.full (ap (λ e. Err e) (told _ _ _ c.from_residual-in_err-sw.ensures.1 e)))

pub bring_four-overflow_sub-above-4 : goal.bring_four-overflow_sub-above-4
bring_four-overflow_sub-above-4 t c = some_above c.args.above c.requires.four.positive

pub bring_four-bring-requires-4 : goal.bring_four-bring-requires-4
bring_four-bring-requires-4 t c =
    (part_falls c.args.above t c.requires.four.positive c.decreases, (level_below c.args.above c.requires.most, (se_stands c.args.other.now.store c.args.above c.args.four.now.there c.args.four.now.parts c.requires.four c.index-four-3.result, c.in_ok-sw.ensures.copies)))

pub bring_four-returns-in_err-se-clause-grows : goal.bring_four-returns-in_err-se-clause-grows
bring_four-returns-in_err-se-clause-grows t c = grown_on c.args.plane.now c.bring.new.plane c.bring-4.new.plane c.in_ok-nw.ensures.grows (grown_on c.bring.new.plane c.bring-2.new.plane c.bring-4.new.plane c.in_ok-ne.ensures.grows (grown_on c.bring-2.new.plane c.bring-3.new.plane c.bring-4.new.plane c.in_ok-sw.ensures.grows c.in_err-se.ensures.grows))

pub bring_four-returns-in_err-se-clause-copies : goal.bring_four-returns-in_err-se-clause-copies
bring_four-returns-in_err-se-clause-copies t c = c.in_err-se.ensures.copies

pub bring_four-returns-in_err-se-clause-full : goal.bring_four-returns-in_err-se-clause-full
bring_four-returns-in_err-se-clause-full t c =
    let k = c.args.above in
    let n = side_at 8 (k - 1) in
    let b = c.args.four.now.there in
    let parts = c.args.four.now.parts in
    let four = c.requires.four in
    let there = c.args.other.now.store in
    let f = grid_at plane_grid 8 there k b in
    let s0 = c.args.plane.now.store in
    let s1 = c.bring.new.plane.store in
    let s2 = c.bring-2.new.plane.store in
    let s3 = c.bring-3.new.plane.store in
    let s4 = c.bring-4.new.plane.store in
    λ e. quarter_full s4 k n n (grid_at plane_grid 8 there (k - 1) (slice_index_or parts 3 c.index-four-3.result)) f four.positive (corner_se n) (from_se there k b parts four.positive four.four four.draws.same c.index-four-3.result) (c.in_err-se.ensures.full (ap (λ e. Err e) (told _ _ _ c.from_residual-in_err-se.ensures.1 e)))

pub bring_four-add_four-requires-clause-least : goal.bring_four-add_four-requires-clause-least
bring_four-add_four-requires-clause-least t c = c.requires.four.positive

pub bring_four-returns-in_err-copy-clause-full : goal.bring_four-returns-in_err-copy-clause-full
bring_four-returns-in_err-copy-clause-full t c =
    let k = c.args.above in
    let n = side_at 8 (k - 1) in
    let b = c.args.four.now.there in
    let parts = c.args.four.now.parts in
    let four = c.requires.four in
    let there = c.args.other.now.store in
    let f = grid_at plane_grid 8 there k b in
    let s0 = c.args.plane.now.store in
    let s1 = c.bring.new.plane.store in
    let s2 = c.bring-2.new.plane.store in
    let s3 = c.bring-3.new.plane.store in
    let s4 = c.bring-4.new.plane.store in
    let s5 = c.add_four.new.plane.store in
    let copied = c.in_ok-nw.nw ∷ c.in_ok-ne.ne ∷ c.in_ok-sw.sw ∷ c.in_ok-se.se ∷ [] in
    let whole = four_grid plane_grid 8 s4 (k - 1) copied in
    let same = four_same there s4 k b parts copied four
    (all_copied there s1 s2 s3 s4 parts four.four _ _ _ _ _ _ _ _ c.in_ok-ne.ensures.grows.store c.in_ok-sw.ensures.grows.store c.in_ok-se.ensures.grows.store
    c.in_ok-nw.ensures.copy c.in_ok-ne.ensures.copy c.in_ok-sw.ensures.copy c.in_ok-se.ensures.copy) in
    λ e. same_full s5 k whole f same (c.in_err-copy.ensures.full (ap (λ e. Err e) (told _ _ _ c.from_residual-in_err-copy.ensures.1 e)))

pub bring_four-returns-in_err-copy-clause-copies : goal.bring_four-returns-in_err-copy-clause-copies
bring_four-returns-in_err-copy-clause-copies t c = copies_later c.bring-4.new.plane.store c.add_four.new.plane.store c.args.other.now.store c.bring-4.new.copies c.in_err-copy.ensures.grows.store c.in_ok-se.ensures.copies

pub bring_four-keep_copy-requires-clause-copies : goal.bring_four-keep_copy-requires-clause-copies
bring_four-keep_copy-requires-clause-copies t c = copies_later c.bring-4.new.plane.store c.add_four.new.plane.store c.args.other.now.store c.bring-4.new.copies c.in_ok-copy.ensures.grows.store c.in_ok-se.ensures.copies

pub bring_four-returns-in_err-nw-clause-pieces : goal.bring_four-returns-in_err-nw-clause-pieces
bring_four-returns-in_err-nw-clause-pieces t c =
    let k = c.args.above in
    let n = side_at 8 (k - 1) in
    let b = c.args.four.now.there in
    let parts = c.args.four.now.parts in
    let four = c.requires.four in
    let there = c.args.other.now.store in
    let f = grid_at plane_grid 8 there k b in
    let s0 = c.args.plane.now.store in
    let s1 = c.bring.new.plane.store in
    adds_quarter plane_grid 8 s0 s1 k 0 0 (grid_at plane_grid 8 there (k - 1) (slice_index_or parts 0 c.index-four-0.result)) f four.positive (corner_nw n) (from_nw there k b parts four.positive four.four four.draws.same c.index-four-0.result) c.in_err-nw.ensures.pieces

pub bring_four-returns-in_err-ne-clause-pieces : goal.bring_four-returns-in_err-ne-clause-pieces
bring_four-returns-in_err-ne-clause-pieces t c =
    let k = c.args.above in
    let n = side_at 8 (k - 1) in
    let b = c.args.four.now.there in
    let parts = c.args.four.now.parts in
    let four = c.requires.four in
    let there = c.args.other.now.store in
    let f = grid_at plane_grid 8 there k b in
    let s0 = c.args.plane.now.store in
    let s1 = c.bring.new.plane.store in
    let s2 = c.bring-2.new.plane.store in
    adds_more plane_grid 8 s0 s1 s2 k f c.in_err-ne.ensures.grows.store
    (adds_quarter plane_grid 8 s0 s1 k 0 0 (grid_at plane_grid 8 there (k - 1) (slice_index_or parts 0 c.index-four-0.result)) f four.positive (corner_nw n) (from_nw there k b parts four.positive four.four four.draws.same c.index-four-0.result) c.in_ok-nw.ensures.pieces)
    (adds_quarter plane_grid 8 s1 s2 k n 0 (grid_at plane_grid 8 there (k - 1) (slice_index_or parts 1 c.index-four-1.result)) f four.positive (corner_ne n) (from_ne there k b parts four.positive four.four four.draws.same c.index-four-1.result) c.in_err-ne.ensures.pieces)

pub bring_four-returns-in_err-sw-clause-pieces : goal.bring_four-returns-in_err-sw-clause-pieces
bring_four-returns-in_err-sw-clause-pieces t c =
    let k = c.args.above in
    let n = side_at 8 (k - 1) in
    let b = c.args.four.now.there in
    let parts = c.args.four.now.parts in
    let four = c.requires.four in
    let there = c.args.other.now.store in
    let f = grid_at plane_grid 8 there k b in
    let s0 = c.args.plane.now.store in
    let s1 = c.bring.new.plane.store in
    let s2 = c.bring-2.new.plane.store in
    let s3 = c.bring-3.new.plane.store in
    adds_more plane_grid 8 s0 s2 s3 k f c.in_err-sw.ensures.grows.store
    (adds_more plane_grid 8 s0 s1 s2 k f c.in_ok-ne.ensures.grows.store
    (adds_quarter plane_grid 8 s0 s1 k 0 0 (grid_at plane_grid 8 there (k - 1) (slice_index_or parts 0 c.index-four-0.result)) f four.positive (corner_nw n) (from_nw there k b parts four.positive four.four four.draws.same c.index-four-0.result) c.in_ok-nw.ensures.pieces)
    (adds_quarter plane_grid 8 s1 s2 k n 0 (grid_at plane_grid 8 there (k - 1) (slice_index_or parts 1 c.index-four-1.result)) f four.positive (corner_ne n) (from_ne there k b parts four.positive four.four four.draws.same c.index-four-1.result) c.in_ok-ne.ensures.pieces))
    (adds_quarter plane_grid 8 s2 s3 k 0 n (grid_at plane_grid 8 there (k - 1) (slice_index_or parts 2 c.index-four-2.result)) f four.positive (corner_sw n) (from_sw there k b parts four.positive four.four four.draws.same c.index-four-2.result) c.in_err-sw.ensures.pieces)

pub bring_four-returns-in_err-se-clause-pieces : goal.bring_four-returns-in_err-se-clause-pieces
bring_four-returns-in_err-se-clause-pieces t c =
    let k = c.args.above in
    let n = side_at 8 (k - 1) in
    let b = c.args.four.now.there in
    let parts = c.args.four.now.parts in
    let four = c.requires.four in
    let there = c.args.other.now.store in
    let f = grid_at plane_grid 8 there k b in
    let s0 = c.args.plane.now.store in
    let s1 = c.bring.new.plane.store in
    let s2 = c.bring-2.new.plane.store in
    let s3 = c.bring-3.new.plane.store in
    let s4 = c.bring-4.new.plane.store in
    adds_more plane_grid 8 s0 s3 s4 k f c.in_err-se.ensures.grows.store
    (adds_more plane_grid 8 s0 s2 s3 k f c.in_ok-sw.ensures.grows.store
    (adds_more plane_grid 8 s0 s1 s2 k f c.in_ok-ne.ensures.grows.store
    (adds_quarter plane_grid 8 s0 s1 k 0 0 (grid_at plane_grid 8 there (k - 1) (slice_index_or parts 0 c.index-four-0.result)) f four.positive (corner_nw n) (from_nw there k b parts four.positive four.four four.draws.same c.index-four-0.result) c.in_ok-nw.ensures.pieces)
    (adds_quarter plane_grid 8 s1 s2 k n 0 (grid_at plane_grid 8 there (k - 1) (slice_index_or parts 1 c.index-four-1.result)) f four.positive (corner_ne n) (from_ne there k b parts four.positive four.four four.draws.same c.index-four-1.result) c.in_ok-ne.ensures.pieces))
    (adds_quarter plane_grid 8 s2 s3 k 0 n (grid_at plane_grid 8 there (k - 1) (slice_index_or parts 2 c.index-four-2.result)) f four.positive (corner_sw n) (from_sw there k b parts four.positive four.four four.draws.same c.index-four-2.result) c.in_ok-sw.ensures.pieces))
    (adds_quarter plane_grid 8 s3 s4 k n n (grid_at plane_grid 8 there (k - 1) (slice_index_or parts 3 c.index-four-3.result)) f four.positive (corner_se n) (from_se there k b parts four.positive four.four four.draws.same c.index-four-3.result) c.in_err-se.ensures.pieces)

pub bring_four-returns-in_err-copy-clause-pieces : goal.bring_four-returns-in_err-copy-clause-pieces
bring_four-returns-in_err-copy-clause-pieces t c =
    let k = c.args.above in
    let n = side_at 8 (k - 1) in
    let b = c.args.four.now.there in
    let parts = c.args.four.now.parts in
    let four = c.requires.four in
    let there = c.args.other.now.store in
    let f = grid_at plane_grid 8 there k b in
    let s0 = c.args.plane.now.store in
    let s1 = c.bring.new.plane.store in
    let s2 = c.bring-2.new.plane.store in
    let s3 = c.bring-3.new.plane.store in
    let s4 = c.bring-4.new.plane.store in
    let s5 = c.add_four.new.plane.store in
    let copied = c.in_ok-nw.nw ∷ c.in_ok-ne.ne ∷ c.in_ok-sw.sw ∷ c.in_ok-se.se ∷ [] in
    let whole = four_grid plane_grid 8 s4 (k - 1) copied in
    let same = four_same there s4 k b parts copied four
    (all_copied there s1 s2 s3 s4 parts four.four _ _ _ _ _ _ _ _ c.in_ok-ne.ensures.grows.store c.in_ok-sw.ensures.grows.store c.in_ok-se.ensures.grows.store
    c.in_ok-nw.ensures.copy c.in_ok-ne.ensures.copy c.in_ok-sw.ensures.copy c.in_ok-se.ensures.copy) in
    adds_more plane_grid 8 s0 s4 s5 k f c.in_err-copy.ensures.grows.store
    (adds_more plane_grid 8 s0 s3 s4 k f c.in_ok-se.ensures.grows.store
    (adds_more plane_grid 8 s0 s2 s3 k f c.in_ok-sw.ensures.grows.store
    (adds_more plane_grid 8 s0 s1 s2 k f c.in_ok-ne.ensures.grows.store
    (adds_quarter plane_grid 8 s0 s1 k 0 0 (grid_at plane_grid 8 there (k - 1) (slice_index_or parts 0 c.index-four-0.result)) f four.positive (corner_nw n) (from_nw there k b parts four.positive four.four four.draws.same c.index-four-0.result) c.in_ok-nw.ensures.pieces)
    (adds_quarter plane_grid 8 s1 s2 k n 0 (grid_at plane_grid 8 there (k - 1) (slice_index_or parts 1 c.index-four-1.result)) f four.positive (corner_ne n) (from_ne there k b parts four.positive four.four four.draws.same c.index-four-1.result) c.in_ok-ne.ensures.pieces))
    (adds_quarter plane_grid 8 s2 s3 k 0 n (grid_at plane_grid 8 there (k - 1) (slice_index_or parts 2 c.index-four-2.result)) f four.positive (corner_sw n) (from_sw there k b parts four.positive four.four four.draws.same c.index-four-2.result) c.in_ok-sw.ensures.pieces))
    (adds_quarter plane_grid 8 s3 s4 k n n (grid_at plane_grid 8 there (k - 1) (slice_index_or parts 3 c.index-four-3.result)) f four.positive (corner_se n) (from_se there k b parts four.positive four.four four.draws.same c.index-four-3.result) c.in_ok-se.ensures.pieces))
    (adds_as plane_grid 8 s4 s5 k whole f same c.in_err-copy.ensures.pieces)

pub bring_four-returns-in_err-keep_copy-clause-pieces : goal.bring_four-returns-in_err-keep_copy-clause-pieces
bring_four-returns-in_err-keep_copy-clause-pieces t c =
    let k = c.args.above in
    let n = side_at 8 (k - 1) in
    let b = c.args.four.now.there in
    let parts = c.args.four.now.parts in
    let four = c.requires.four in
    let there = c.args.other.now.store in
    let f = grid_at plane_grid 8 there k b in
    let s0 = c.args.plane.now.store in
    let s1 = c.bring.new.plane.store in
    let s2 = c.bring-2.new.plane.store in
    let s3 = c.bring-3.new.plane.store in
    let s4 = c.bring-4.new.plane.store in
    let s5 = c.add_four.new.plane.store in
    let copied = c.in_ok-nw.nw ∷ c.in_ok-ne.ne ∷ c.in_ok-sw.sw ∷ c.in_ok-se.se ∷ [] in
    let whole = four_grid plane_grid 8 s4 (k - 1) copied in
    let same = four_same there s4 k b parts copied four
    (all_copied there s1 s2 s3 s4 parts four.four _ _ _ _ _ _ _ _ c.in_ok-ne.ensures.grows.store c.in_ok-sw.ensures.grows.store c.in_ok-se.ensures.grows.store
    c.in_ok-nw.ensures.copy c.in_ok-ne.ensures.copy c.in_ok-sw.ensures.copy c.in_ok-se.ensures.copy) in
    adds_more plane_grid 8 s0 s4 s5 k f c.in_ok-copy.ensures.grows.store
    (adds_more plane_grid 8 s0 s3 s4 k f c.in_ok-se.ensures.grows.store
    (adds_more plane_grid 8 s0 s2 s3 k f c.in_ok-sw.ensures.grows.store
    (adds_more plane_grid 8 s0 s1 s2 k f c.in_ok-ne.ensures.grows.store
    (adds_quarter plane_grid 8 s0 s1 k 0 0 (grid_at plane_grid 8 there (k - 1) (slice_index_or parts 0 c.index-four-0.result)) f four.positive (corner_nw n) (from_nw there k b parts four.positive four.four four.draws.same c.index-four-0.result) c.in_ok-nw.ensures.pieces)
    (adds_quarter plane_grid 8 s1 s2 k n 0 (grid_at plane_grid 8 there (k - 1) (slice_index_or parts 1 c.index-four-1.result)) f four.positive (corner_ne n) (from_ne there k b parts four.positive four.four four.draws.same c.index-four-1.result) c.in_ok-ne.ensures.pieces))
    (adds_quarter plane_grid 8 s2 s3 k 0 n (grid_at plane_grid 8 there (k - 1) (slice_index_or parts 2 c.index-four-2.result)) f four.positive (corner_sw n) (from_sw there k b parts four.positive four.four four.draws.same c.index-four-2.result) c.in_ok-sw.ensures.pieces))
    (adds_quarter plane_grid 8 s3 s4 k n n (grid_at plane_grid 8 there (k - 1) (slice_index_or parts 3 c.index-four-3.result)) f four.positive (corner_se n) (from_se there k b parts four.positive four.four four.draws.same c.index-four-3.result) c.in_ok-se.ensures.pieces))
    (adds_as plane_grid 8 s4 s5 k whole f same c.in_ok-copy.ensures.pieces)

pub bring_four-returns-clause-pieces : goal.bring_four-returns-clause-pieces
bring_four-returns-clause-pieces t c =
    let k = c.args.above in
    let n = side_at 8 (k - 1) in
    let b = c.args.four.now.there in
    let parts = c.args.four.now.parts in
    let four = c.requires.four in
    let there = c.args.other.now.store in
    let f = grid_at plane_grid 8 there k b in
    let s0 = c.args.plane.now.store in
    let s1 = c.bring.new.plane.store in
    let s2 = c.bring-2.new.plane.store in
    let s3 = c.bring-3.new.plane.store in
    let s4 = c.bring-4.new.plane.store in
    let s5 = c.add_four.new.plane.store in
    let copied = c.in_ok-nw.nw ∷ c.in_ok-ne.ne ∷ c.in_ok-sw.sw ∷ c.in_ok-se.se ∷ [] in
    let whole = four_grid plane_grid 8 s4 (k - 1) copied in
    let same = four_same there s4 k b parts copied four
    (all_copied there s1 s2 s3 s4 parts four.four _ _ _ _ _ _ _ _ c.in_ok-ne.ensures.grows.store c.in_ok-sw.ensures.grows.store c.in_ok-se.ensures.grows.store
    c.in_ok-nw.ensures.copy c.in_ok-ne.ensures.copy c.in_ok-sw.ensures.copy c.in_ok-se.ensures.copy) in
    adds_more plane_grid 8 s0 s4 s5 k f c.in_ok-copy.ensures.grows.store
    (adds_more plane_grid 8 s0 s3 s4 k f c.in_ok-se.ensures.grows.store
    (adds_more plane_grid 8 s0 s2 s3 k f c.in_ok-sw.ensures.grows.store
    (adds_more plane_grid 8 s0 s1 s2 k f c.in_ok-ne.ensures.grows.store
    (adds_quarter plane_grid 8 s0 s1 k 0 0 (grid_at plane_grid 8 there (k - 1) (slice_index_or parts 0 c.index-four-0.result)) f four.positive (corner_nw n) (from_nw there k b parts four.positive four.four four.draws.same c.index-four-0.result) c.in_ok-nw.ensures.pieces)
    (adds_quarter plane_grid 8 s1 s2 k n 0 (grid_at plane_grid 8 there (k - 1) (slice_index_or parts 1 c.index-four-1.result)) f four.positive (corner_ne n) (from_ne there k b parts four.positive four.four four.draws.same c.index-four-1.result) c.in_ok-ne.ensures.pieces))
    (adds_quarter plane_grid 8 s2 s3 k 0 n (grid_at plane_grid 8 there (k - 1) (slice_index_or parts 2 c.index-four-2.result)) f four.positive (corner_sw n) (from_sw there k b parts four.positive four.four four.draws.same c.index-four-2.result) c.in_ok-sw.ensures.pieces))
    (adds_quarter plane_grid 8 s3 s4 k n n (grid_at plane_grid 8 there (k - 1) (slice_index_or parts 3 c.index-four-3.result)) f four.positive (corner_se n) (from_se there k b parts four.positive four.four four.draws.same c.index-four-3.result) c.in_ok-se.ensures.pieces))
    (adds_as plane_grid 8 s4 s5 k whole f same c.in_ok-copy.ensures.pieces)

pub bring_four-returns-in-Some-clause-pieces : goal.bring_four-returns-in-Some-clause-pieces
bring_four-returns-in-Some-clause-pieces t c = adds_none plane_grid 8 c.args.plane.now.store c.args.above (grid_at plane_grid 8 c.args.other.now.store c.args.above c.args.four.now.there)
