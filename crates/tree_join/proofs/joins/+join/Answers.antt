use Rattle.std.proofs.Common.{[], ◌∷◌, ◌-◌, ◌∙◌, ap, refl, sym, subst, Err}
use Rattle.std.specs.Prelude.{slice_index_or}
use Rattle.square_store.specs.Grid.{AreSameWithin}
use Rattle.square_store.specs.Pieces.{AddsPiecesOfGrid}
use Rattle.square_store.specs.Squares.{side_at, grid_at, four_grid}
use Rattle.square_store.proofs.Drawn.{grown_more}
use Rattle.square_store.proofs.PieceLaws.{corner_nw, corner_ne, corner_sw, corner_se, adds_quarter, adds_more, adds_as, adds_none}
use Rattle.stamped_tree.specs.Full.{IsFullStoreFor}
use Rattle.stamped_tree.specs.LeafKind.{plane_grid}
use Rattle.stamped_tree.proofs.DrawnPieces.{quarter_full, same_full}
use Rattle.stamped_tree.proofs.Overwriting.{grown_none}
use Rattle.tree_join.proofs.Pieces.{join_nw, join_ne, join_sw, join_se}
use Rattle.square_store.proofs.Made.{told}
use Rattle.square_store.proofs.Places.{at_within}
use Rattle.tree_join.specs.Squares.{AreQuarters, join_grid}
use Rattle.tree_join.proofs.Growing.{grown_on, some_above, level_below, part_falls, nw_quarter, ne_quarter, sw_quarter, se_quarter}
use Rattle.tree_join.proofs.Joining.{right_wins, joins_as_before, joins_later, copies_later, four_joined, joined_four}
use Rattle.tree_join.proofs.joins.+join.Goals as goal

pub join_quarters-square-requires : goal.join_quarters-square-requires
join_quarters-square-requires t c = at_within c.args.plane.now.store c.args.pair.above c.args.pair.here c.requires.here

pub join_quarters-square-requires-2 : goal.join_quarters-square-requires-2
join_quarters-square-requires-2 t c = at_within c.args.other.now.store c.args.pair.above c.args.pair.there c.requires.there

pub join_quarters-returns-in_err-part-clause-joins : goal.join_quarters-returns-in_err-part-clause-joins
join_quarters-returns-in_err-part-clause-joins t c = joins_later c.join_squares-4.new.plane.store c.add_four_over.new.plane.store c.args.other.now.store c.join_squares-4.new.joins c.in_err-part.ensures.grows.store c.in_ok-se.ensures.joins

pub join_quarters-returns-clause-joins : goal.join_quarters-returns-clause-joins
join_quarters-returns-clause-joins t c = joins_later c.join_squares-4.new.plane.store c.add_four_over.new.plane.store c.args.other.now.store c.join_squares-4.new.joins c.in_ok-part.ensures.grows.store c.in_ok-se.ensures.joins

pub join_quarters-returns-clause-join : goal.join_quarters-returns-clause-join
join_quarters-returns-clause-join t c =
    let qa : AreQuarters c.args.plane.now.store c.args.pair.above c.args.pair.here c.quarter_parts-a.result = rw c.square.ensures at c.quarter_parts-a.ensures in
    let qb : AreQuarters c.args.other.now.store c.args.pair.above c.args.pair.there c.quarter_parts-b.result = rw c.square-2.ensures at c.quarter_parts-b.ensures in
    joined_four c.args.other.now.store c.args.plane.now.store c.join_squares.new.plane.store c.join_squares-2.new.plane.store c.join_squares-3.new.plane.store c.join_squares-4.new.plane.store c.add_four_over.new.plane.store
    c.args.pair.above c.args.pair.here c.args.pair.there c.quarter_parts-a.result c.quarter_parts-b.result _ _ _ _ _ _ _ _ c.in_ok-nw.nw c.in_ok-ne.ne c.in_ok-sw.sw c.in_ok-se.se c.in_ok-part.part
    c.requires.least c.requires.here qa qb
    c.in_ok-nw.ensures.grows.store c.in_ok-ne.ensures.grows.store c.in_ok-sw.ensures.grows.store c.in_ok-se.ensures.grows.store c.in_ok-part.ensures.grows.store
    c.in_ok-nw.ensures.join c.in_ok-ne.ensures.join c.in_ok-sw.ensures.join c.in_ok-se.ensures.join c.in_ok-part.ensures.draws

pub join_squares-returns-in_err-part-clause-joins : goal.join_squares-returns-in_err-part-clause-joins
join_squares-returns-in_err-part-clause-joins t c = joins_later c.args.plane.now.store c.bring.new.plane.store c.args.other.now.store c.args.joins.now c.in_err-part.ensures.grows.store c.requires.joins

pub join_squares-returns-then-loses-clause-joins : goal.join_squares-returns-then-loses-clause-joins
join_squares-returns-then-loses-clause-joins t c = joins_later c.args.plane.now.store c.bring.new.plane.store c.args.other.now.store c.args.joins.now c.in_ok-part.ensures.grows.store c.requires.joins

pub join_squares-returns-in_err-part-2-clause-joins : goal.join_squares-returns-in_err-part-2-clause-joins
join_squares-returns-in_err-part-2-clause-joins t c = joins_later c.args.plane.now.store c.join_leaves.new.plane.store c.args.other.now.store c.args.joins.now c.in_err-part-2.ensures.grows.store c.requires.joins

pub join_squares-returns-then-above-eq0-clause-joins : goal.join_squares-returns-then-above-eq0-clause-joins
join_squares-returns-then-above-eq0-clause-joins t c = joins_later c.args.plane.now.store c.join_leaves.new.plane.store c.args.other.now.store c.args.joins.now c.in_ok-part-2.ensures.grows.store c.requires.joins

pub join_quarters-returns-clause-grows : goal.join_quarters-returns-clause-grows
join_quarters-returns-clause-grows t c =
    grown_on _ _ _ c.in_ok-nw.ensures.grows (grown_on _ _ _ c.in_ok-ne.ensures.grows (grown_on _ _ _ c.in_ok-sw.ensures.grows (grown_on _ _ _ c.in_ok-se.ensures.grows c.in_ok-part.ensures.grows)))

pub join_squares-returns-clause-grows : goal.join_squares-returns-clause-grows
join_squares-returns-clause-grows t c = c.in_ok-part-3.ensures.grows

pub join_quarters-returns-in_err-part-clause-grows : goal.join_quarters-returns-in_err-part-clause-grows
join_quarters-returns-in_err-part-clause-grows t c =
    grown_on _ _ _ c.in_ok-nw.ensures.grows (grown_on _ _ _ c.in_ok-ne.ensures.grows (grown_on _ _ _ c.in_ok-sw.ensures.grows (grown_on _ _ _ c.in_ok-se.ensures.grows c.in_err-part.ensures.grows)))

pub join_quarters-overflow_sub-nw : goal.join_quarters-overflow_sub-nw
join_quarters-overflow_sub-nw t c = some_above c.args.pair.above c.requires.least

pub join_quarters-join_squares-requires : goal.join_quarters-join_squares-requires
join_quarters-join_squares-requires t c =
    let qa : AreQuarters c.args.plane.now.store c.args.pair.above c.args.pair.here c.quarter_parts-a.result = rw c.square.ensures at c.quarter_parts-a.ensures in
    let qb : AreQuarters c.args.other.now.store c.args.pair.above c.args.pair.there c.quarter_parts-b.result = rw c.square-2.ensures at c.quarter_parts-b.ensures in
    (part_falls c.args.pair.above t c.requires.least c.decreases, (level_below c.args.pair.above c.requires.most, (nw_quarter c.args.plane.now.store c.args.pair.above c.args.pair.here c.quarter_parts-a.result qa c.index-a-0.result, (nw_quarter c.args.other.now.store c.args.pair.above c.args.pair.there c.quarter_parts-b.result qb c.index-b-0.result, (c.requires.joins, c.requires.copies)))))

pub join_quarters-returns-in_err-nw-clause-grows : goal.join_quarters-returns-in_err-nw-clause-grows
join_quarters-returns-in_err-nw-clause-grows t c = c.in_err-nw.ensures.grows

pub join_quarters-returns-in_err-nw-clause-joins : goal.join_quarters-returns-in_err-nw-clause-joins
join_quarters-returns-in_err-nw-clause-joins t c = c.in_err-nw.ensures.joins

pub join_quarters-returns-in_err-nw-clause-copies : goal.join_quarters-returns-in_err-nw-clause-copies
join_quarters-returns-in_err-nw-clause-copies t c = c.in_err-nw.ensures.copies

pub join_quarters-returns-in_err-nw-clause-full : goal.join_quarters-returns-in_err-nw-clause-full
join_quarters-returns-in_err-nw-clause-full t c =
    let k = c.args.pair.above in
    let n = side_at 8 (k - 1) in
    let some = c.requires.least in
    let a = c.args.pair.here in
    let b = c.args.pair.there in
    let pa = c.quarter_parts-a.result in
    let pb = c.quarter_parts-b.result in
    let s0 = c.args.plane.now.store in
    let there = c.args.other.now.store in
    let qa : AreQuarters s0 k a pa = rw c.square.ensures at c.quarter_parts-a.ensures in
    let qb : AreQuarters there k b pb = rw c.square-2.ensures at c.quarter_parts-b.ensures in
    let f = join_grid s0 there k a b in
    let s1 = c.join_squares.new.plane.store in
    let g0 = grown_none plane_grid 8 s0 in
    λ e. quarter_full s1 k 0 0 (join_grid s0 there (k - 1) (slice_index_or pa 0 c.index-a-0.result) (slice_index_or pb 0 c.index-b-0.result)) f some (corner_nw n) (join_nw s0 there k a b pa pb some qa qb s0 g0 c.index-a-0.result c.index-b-0.result) (c.in_err-nw.ensures.full (ap (λ e. Err e) (told _ _ _ c.from_residual.ensures.1 e)))

pub join_quarters-overflow_sub-ne : goal.join_quarters-overflow_sub-ne
join_quarters-overflow_sub-ne t c = some_above c.args.pair.above c.requires.least

pub join_quarters-join_squares-requires-2 : goal.join_quarters-join_squares-requires-2
join_quarters-join_squares-requires-2 t c =
    let qa : AreQuarters c.args.plane.now.store c.args.pair.above c.args.pair.here c.quarter_parts-a.result = rw c.square.ensures at c.quarter_parts-a.ensures in
    let qb : AreQuarters c.args.other.now.store c.args.pair.above c.args.pair.there c.quarter_parts-b.result = rw c.square-2.ensures at c.quarter_parts-b.ensures in
    (part_falls c.args.pair.above t c.requires.least c.decreases, (level_below c.args.pair.above c.requires.most, (c.in_ok-nw.ensures.grows.store.stands (c.args.pair.above - 1) _ (ne_quarter c.args.plane.now.store c.args.pair.above c.args.pair.here c.quarter_parts-a.result qa c.index-a-1.result), (ne_quarter c.args.other.now.store c.args.pair.above c.args.pair.there c.quarter_parts-b.result qb c.index-b-1.result, (c.in_ok-nw.ensures.joins, c.in_ok-nw.ensures.copies)))))

pub join_quarters-returns-in_err-ne-clause-grows : goal.join_quarters-returns-in_err-ne-clause-grows
join_quarters-returns-in_err-ne-clause-grows t c = grown_on c.args.plane.now c.join_squares.new.plane c.join_squares-2.new.plane c.in_ok-nw.ensures.grows c.in_err-ne.ensures.grows

pub join_quarters-returns-in_err-ne-clause-joins : goal.join_quarters-returns-in_err-ne-clause-joins
join_quarters-returns-in_err-ne-clause-joins t c = c.in_err-ne.ensures.joins

pub join_quarters-returns-in_err-ne-clause-copies : goal.join_quarters-returns-in_err-ne-clause-copies
join_quarters-returns-in_err-ne-clause-copies t c = c.in_err-ne.ensures.copies

pub join_quarters-returns-in_err-ne-clause-full : goal.join_quarters-returns-in_err-ne-clause-full
join_quarters-returns-in_err-ne-clause-full t c =
    let k = c.args.pair.above in
    let n = side_at 8 (k - 1) in
    let some = c.requires.least in
    let a = c.args.pair.here in
    let b = c.args.pair.there in
    let pa = c.quarter_parts-a.result in
    let pb = c.quarter_parts-b.result in
    let s0 = c.args.plane.now.store in
    let there = c.args.other.now.store in
    let qa : AreQuarters s0 k a pa = rw c.square.ensures at c.quarter_parts-a.ensures in
    let qb : AreQuarters there k b pb = rw c.square-2.ensures at c.quarter_parts-b.ensures in
    let f = join_grid s0 there k a b in
    let s1 = c.join_squares.new.plane.store in
    let s2 = c.join_squares-2.new.plane.store in
    let g0 = grown_none plane_grid 8 s0 in
    let g1 = c.in_ok-nw.ensures.grows.store in
    λ e. quarter_full s2 k n 0 (join_grid s1 there (k - 1) (slice_index_or pa 1 c.index-a-1.result) (slice_index_or pb 1 c.index-b-1.result)) f some (corner_ne n) (join_ne s0 there k a b pa pb some qa qb s1 g1 c.index-a-1.result c.index-b-1.result) (c.in_err-ne.ensures.full (ap (λ e. Err e) (told _ _ _ c.from_residual-in_err-ne.ensures.1 e)))

pub join_quarters-overflow_sub-sw : goal.join_quarters-overflow_sub-sw
join_quarters-overflow_sub-sw t c = some_above c.args.pair.above c.requires.least

pub join_quarters-join_squares-requires-3 : goal.join_quarters-join_squares-requires-3
join_quarters-join_squares-requires-3 t c =
    let qa : AreQuarters c.args.plane.now.store c.args.pair.above c.args.pair.here c.quarter_parts-a.result = rw c.square.ensures at c.quarter_parts-a.ensures in
    let qb : AreQuarters c.args.other.now.store c.args.pair.above c.args.pair.there c.quarter_parts-b.result = rw c.square-2.ensures at c.quarter_parts-b.ensures in
    (part_falls c.args.pair.above t c.requires.least c.decreases, (level_below c.args.pair.above c.requires.most, ((grown_on c.args.plane.now c.join_squares.new.plane c.join_squares-2.new.plane c.in_ok-nw.ensures.grows c.in_ok-ne.ensures.grows).store.stands (c.args.pair.above - 1) _ (sw_quarter c.args.plane.now.store c.args.pair.above c.args.pair.here c.quarter_parts-a.result qa c.index-a-2.result), (sw_quarter c.args.other.now.store c.args.pair.above c.args.pair.there c.quarter_parts-b.result qb c.index-b-2.result, (c.in_ok-ne.ensures.joins, c.in_ok-ne.ensures.copies)))))

pub join_quarters-returns-in_err-sw-clause-grows : goal.join_quarters-returns-in_err-sw-clause-grows
join_quarters-returns-in_err-sw-clause-grows t c = grown_on c.args.plane.now c.join_squares.new.plane c.join_squares-3.new.plane c.in_ok-nw.ensures.grows (grown_on c.join_squares.new.plane c.join_squares-2.new.plane c.join_squares-3.new.plane c.in_ok-ne.ensures.grows c.in_err-sw.ensures.grows)

pub join_quarters-returns-in_err-sw-clause-joins : goal.join_quarters-returns-in_err-sw-clause-joins
join_quarters-returns-in_err-sw-clause-joins t c = c.in_err-sw.ensures.joins

pub join_quarters-returns-in_err-sw-clause-copies : goal.join_quarters-returns-in_err-sw-clause-copies
join_quarters-returns-in_err-sw-clause-copies t c = c.in_err-sw.ensures.copies

pub join_quarters-returns-in_err-sw-clause-full : goal.join_quarters-returns-in_err-sw-clause-full
join_quarters-returns-in_err-sw-clause-full t c =
    let k = c.args.pair.above in
    let n = side_at 8 (k - 1) in
    let some = c.requires.least in
    let a = c.args.pair.here in
    let b = c.args.pair.there in
    let pa = c.quarter_parts-a.result in
    let pb = c.quarter_parts-b.result in
    let s0 = c.args.plane.now.store in
    let there = c.args.other.now.store in
    let qa : AreQuarters s0 k a pa = rw c.square.ensures at c.quarter_parts-a.ensures in
    let qb : AreQuarters there k b pb = rw c.square-2.ensures at c.quarter_parts-b.ensures in
    let f = join_grid s0 there k a b in
    let s1 = c.join_squares.new.plane.store in
    let s2 = c.join_squares-2.new.plane.store in
    let s3 = c.join_squares-3.new.plane.store in
    let g0 = grown_none plane_grid 8 s0 in
    let g1 = c.in_ok-nw.ensures.grows.store in
    let g2 = grown_more plane_grid 8 s0 s1 s2 g1 c.in_ok-ne.ensures.grows.store in
    λ e. quarter_full s3 k 0 n (join_grid s2 there (k - 1) (slice_index_or pa 2 c.index-a-2.result) (slice_index_or pb 2 c.index-b-2.result)) f some (corner_sw n) (join_sw s0 there k a b pa pb some qa qb s2 g2 c.index-a-2.result c.index-b-2.result) (c.in_err-sw.ensures.full (ap (λ e. Err e) (told _ _ _ c.from_residual-in_err-sw.ensures.1 e)))

pub join_quarters-overflow_sub-se : goal.join_quarters-overflow_sub-se
join_quarters-overflow_sub-se t c = some_above c.args.pair.above c.requires.least

pub join_quarters-join_squares-requires-4 : goal.join_quarters-join_squares-requires-4
join_quarters-join_squares-requires-4 t c =
    let qa : AreQuarters c.args.plane.now.store c.args.pair.above c.args.pair.here c.quarter_parts-a.result = rw c.square.ensures at c.quarter_parts-a.ensures in
    let qb : AreQuarters c.args.other.now.store c.args.pair.above c.args.pair.there c.quarter_parts-b.result = rw c.square-2.ensures at c.quarter_parts-b.ensures in
    (part_falls c.args.pair.above t c.requires.least c.decreases, (level_below c.args.pair.above c.requires.most, ((grown_on c.args.plane.now c.join_squares.new.plane c.join_squares-3.new.plane c.in_ok-nw.ensures.grows (grown_on c.join_squares.new.plane c.join_squares-2.new.plane c.join_squares-3.new.plane c.in_ok-ne.ensures.grows c.in_ok-sw.ensures.grows)).store.stands (c.args.pair.above - 1) _ (se_quarter c.args.plane.now.store c.args.pair.above c.args.pair.here c.quarter_parts-a.result qa c.index-a-3.result), (se_quarter c.args.other.now.store c.args.pair.above c.args.pair.there c.quarter_parts-b.result qb c.index-b-3.result, (c.in_ok-sw.ensures.joins, c.in_ok-sw.ensures.copies)))))

pub join_quarters-returns-in_err-se-clause-grows : goal.join_quarters-returns-in_err-se-clause-grows
join_quarters-returns-in_err-se-clause-grows t c = grown_on c.args.plane.now c.join_squares.new.plane c.join_squares-4.new.plane c.in_ok-nw.ensures.grows (grown_on c.join_squares.new.plane c.join_squares-2.new.plane c.join_squares-4.new.plane c.in_ok-ne.ensures.grows (grown_on c.join_squares-2.new.plane c.join_squares-3.new.plane c.join_squares-4.new.plane c.in_ok-sw.ensures.grows c.in_err-se.ensures.grows))

pub join_quarters-returns-in_err-se-clause-joins : goal.join_quarters-returns-in_err-se-clause-joins
join_quarters-returns-in_err-se-clause-joins t c = c.in_err-se.ensures.joins

pub join_quarters-returns-in_err-se-clause-copies : goal.join_quarters-returns-in_err-se-clause-copies
join_quarters-returns-in_err-se-clause-copies t c = c.in_err-se.ensures.copies

pub join_quarters-returns-in_err-se-clause-full : goal.join_quarters-returns-in_err-se-clause-full
join_quarters-returns-in_err-se-clause-full t c =
    let k = c.args.pair.above in
    let n = side_at 8 (k - 1) in
    let some = c.requires.least in
    let a = c.args.pair.here in
    let b = c.args.pair.there in
    let pa = c.quarter_parts-a.result in
    let pb = c.quarter_parts-b.result in
    let s0 = c.args.plane.now.store in
    let there = c.args.other.now.store in
    let qa : AreQuarters s0 k a pa = rw c.square.ensures at c.quarter_parts-a.ensures in
    let qb : AreQuarters there k b pb = rw c.square-2.ensures at c.quarter_parts-b.ensures in
    let f = join_grid s0 there k a b in
    let s1 = c.join_squares.new.plane.store in
    let s2 = c.join_squares-2.new.plane.store in
    let s3 = c.join_squares-3.new.plane.store in
    let s4 = c.join_squares-4.new.plane.store in
    let g0 = grown_none plane_grid 8 s0 in
    let g1 = c.in_ok-nw.ensures.grows.store in
    let g2 = grown_more plane_grid 8 s0 s1 s2 g1 c.in_ok-ne.ensures.grows.store in
    let g3 = grown_more plane_grid 8 s0 s2 s3 g2 c.in_ok-sw.ensures.grows.store in
    λ e. quarter_full s4 k n n (join_grid s3 there (k - 1) (slice_index_or pa 3 c.index-a-3.result) (slice_index_or pb 3 c.index-b-3.result)) f some (corner_se n) (join_se s0 there k a b pa pb some qa qb s3 g3 c.index-a-3.result c.index-b-3.result) (c.in_err-se.ensures.full (ap (λ e. Err e) (told _ _ _ c.from_residual-in_err-se.ensures.1 e)))

pub join_quarters-returns-in_err-part-clause-full : goal.join_quarters-returns-in_err-part-clause-full
join_quarters-returns-in_err-part-clause-full t c =
    let k = c.args.pair.above in
    let n = side_at 8 (k - 1) in
    let some = c.requires.least in
    let a = c.args.pair.here in
    let b = c.args.pair.there in
    let pa = c.quarter_parts-a.result in
    let pb = c.quarter_parts-b.result in
    let s0 = c.args.plane.now.store in
    let there = c.args.other.now.store in
    let qa : AreQuarters s0 k a pa = rw c.square.ensures at c.quarter_parts-a.ensures in
    let qb : AreQuarters there k b pb = rw c.square-2.ensures at c.quarter_parts-b.ensures in
    let f = join_grid s0 there k a b in
    let s1 = c.join_squares.new.plane.store in
    let s2 = c.join_squares-2.new.plane.store in
    let s3 = c.join_squares-3.new.plane.store in
    let s4 = c.join_squares-4.new.plane.store in
    let g0 = grown_none plane_grid 8 s0 in
    let g1 = c.in_ok-nw.ensures.grows.store in
    let g2 = grown_more plane_grid 8 s0 s1 s2 g1 c.in_ok-ne.ensures.grows.store in
    let g3 = grown_more plane_grid 8 s0 s2 s3 g2 c.in_ok-sw.ensures.grows.store in
    let s5 = c.add_four_over.new.plane.store in
    let whole = four_grid plane_grid 8 s4 (k - 1) (c.in_ok-nw.nw ∷ c.in_ok-ne.ne ∷ c.in_ok-sw.sw ∷ c.in_ok-se.se ∷ []) in
    let g4 = grown_more plane_grid 8 s0 s3 s4 g3 c.in_ok-se.ensures.grows.store in
    let later = four_joined there s0 s1 s2 s3 s4 s5 k a b pa pb _ _ _ _ _ _ _ _ c.in_ok-nw.nw c.in_ok-ne.ne c.in_ok-sw.sw c.in_ok-se.se 0 some c.requires.here qa qb
    g1 c.in_ok-ne.ensures.grows.store c.in_ok-sw.ensures.grows.store c.in_ok-se.ensures.grows.store c.in_err-part.ensures.grows.store
    c.in_ok-nw.ensures.join c.in_ok-ne.ensures.join c.in_ok-sw.ensures.join c.in_ok-se.ensures.join in
    let same : AreSameWithin (side_at 8 k) whole f = λ u v hu hv. later u v hu hv ∙ joins_as_before there k a b s0 s4 g4 c.requires.here u v in
    λ e. same_full s5 k whole f same (c.in_err-part.ensures.full (ap (λ e. Err e) (told _ _ _ c.from_residual-in_err-part.ensures.1 e)))

pub join_quarters-add_four_over-requires-clause-here : goal.join_quarters-add_four_over-requires-clause-here
join_quarters-add_four_over-requires-clause-here t c = (grown_on c.args.plane.now c.join_squares.new.plane c.join_squares-4.new.plane c.in_ok-nw.ensures.grows (grown_on c.join_squares.new.plane c.join_squares-2.new.plane c.join_squares-4.new.plane c.in_ok-ne.ensures.grows (grown_on c.join_squares-2.new.plane c.join_squares-3.new.plane c.join_squares-4.new.plane c.in_ok-sw.ensures.grows c.in_ok-se.ensures.grows))).store.stands c.args.pair.above c.args.pair.here c.requires.here

pub join_quarters-returns-in_err-part-clause-copies : goal.join_quarters-returns-in_err-part-clause-copies
join_quarters-returns-in_err-part-clause-copies t c = copies_later c.join_squares-4.new.plane.store c.add_four_over.new.plane.store c.args.other.now.store c.join_squares-4.new.copies c.in_err-part.ensures.grows.store c.in_ok-se.ensures.copies

pub join_quarters-returns-clause-copies : goal.join_quarters-returns-clause-copies
join_quarters-returns-clause-copies t c = copies_later c.join_squares-4.new.plane.store c.add_four_over.new.plane.store c.args.other.now.store c.join_squares-4.new.copies c.in_ok-part.ensures.grows.store c.in_ok-se.ensures.copies

pub join_quarters-returns-in_err-nw-clause-pieces : goal.join_quarters-returns-in_err-nw-clause-pieces
join_quarters-returns-in_err-nw-clause-pieces t c =
    let k = c.args.pair.above in
    let n = side_at 8 (k - 1) in
    let some = c.requires.least in
    let a = c.args.pair.here in
    let b = c.args.pair.there in
    let pa = c.quarter_parts-a.result in
    let pb = c.quarter_parts-b.result in
    let s0 = c.args.plane.now.store in
    let there = c.args.other.now.store in
    let qa : AreQuarters s0 k a pa = rw c.square.ensures at c.quarter_parts-a.ensures in
    let qb : AreQuarters there k b pb = rw c.square-2.ensures at c.quarter_parts-b.ensures in
    let f = join_grid s0 there k a b in
    let s1 = c.join_squares.new.plane.store in
    let g0 = grown_none plane_grid 8 s0 in
    adds_quarter plane_grid 8 s0 s1 k 0 0 (join_grid s0 there (k - 1) (slice_index_or pa 0 c.index-a-0.result) (slice_index_or pb 0 c.index-b-0.result)) f some (corner_nw n) (join_nw s0 there k a b pa pb some qa qb s0 g0 c.index-a-0.result c.index-b-0.result) c.in_err-nw.ensures.pieces

pub join_quarters-returns-in_err-ne-clause-pieces : goal.join_quarters-returns-in_err-ne-clause-pieces
join_quarters-returns-in_err-ne-clause-pieces t c =
    let k = c.args.pair.above in
    let n = side_at 8 (k - 1) in
    let some = c.requires.least in
    let a = c.args.pair.here in
    let b = c.args.pair.there in
    let pa = c.quarter_parts-a.result in
    let pb = c.quarter_parts-b.result in
    let s0 = c.args.plane.now.store in
    let there = c.args.other.now.store in
    let qa : AreQuarters s0 k a pa = rw c.square.ensures at c.quarter_parts-a.ensures in
    let qb : AreQuarters there k b pb = rw c.square-2.ensures at c.quarter_parts-b.ensures in
    let f = join_grid s0 there k a b in
    let s1 = c.join_squares.new.plane.store in
    let s2 = c.join_squares-2.new.plane.store in
    let g0 = grown_none plane_grid 8 s0 in
    let g1 = c.in_ok-nw.ensures.grows.store in
    adds_more plane_grid 8 s0 s1 s2 k f c.in_err-ne.ensures.grows.store
    (adds_quarter plane_grid 8 s0 s1 k 0 0 (join_grid s0 there (k - 1) (slice_index_or pa 0 c.index-a-0.result) (slice_index_or pb 0 c.index-b-0.result)) f some (corner_nw n) (join_nw s0 there k a b pa pb some qa qb s0 g0 c.index-a-0.result c.index-b-0.result) c.in_ok-nw.ensures.pieces)
    (adds_quarter plane_grid 8 s1 s2 k n 0 (join_grid s1 there (k - 1) (slice_index_or pa 1 c.index-a-1.result) (slice_index_or pb 1 c.index-b-1.result)) f some (corner_ne n) (join_ne s0 there k a b pa pb some qa qb s1 g1 c.index-a-1.result c.index-b-1.result) c.in_err-ne.ensures.pieces)

pub join_quarters-returns-in_err-sw-clause-pieces : goal.join_quarters-returns-in_err-sw-clause-pieces
join_quarters-returns-in_err-sw-clause-pieces t c =
    let k = c.args.pair.above in
    let n = side_at 8 (k - 1) in
    let some = c.requires.least in
    let a = c.args.pair.here in
    let b = c.args.pair.there in
    let pa = c.quarter_parts-a.result in
    let pb = c.quarter_parts-b.result in
    let s0 = c.args.plane.now.store in
    let there = c.args.other.now.store in
    let qa : AreQuarters s0 k a pa = rw c.square.ensures at c.quarter_parts-a.ensures in
    let qb : AreQuarters there k b pb = rw c.square-2.ensures at c.quarter_parts-b.ensures in
    let f = join_grid s0 there k a b in
    let s1 = c.join_squares.new.plane.store in
    let s2 = c.join_squares-2.new.plane.store in
    let s3 = c.join_squares-3.new.plane.store in
    let g0 = grown_none plane_grid 8 s0 in
    let g1 = c.in_ok-nw.ensures.grows.store in
    let g2 = grown_more plane_grid 8 s0 s1 s2 g1 c.in_ok-ne.ensures.grows.store in
    adds_more plane_grid 8 s0 s2 s3 k f c.in_err-sw.ensures.grows.store
    (adds_more plane_grid 8 s0 s1 s2 k f c.in_ok-ne.ensures.grows.store
    (adds_quarter plane_grid 8 s0 s1 k 0 0 (join_grid s0 there (k - 1) (slice_index_or pa 0 c.index-a-0.result) (slice_index_or pb 0 c.index-b-0.result)) f some (corner_nw n) (join_nw s0 there k a b pa pb some qa qb s0 g0 c.index-a-0.result c.index-b-0.result) c.in_ok-nw.ensures.pieces)
    (adds_quarter plane_grid 8 s1 s2 k n 0 (join_grid s1 there (k - 1) (slice_index_or pa 1 c.index-a-1.result) (slice_index_or pb 1 c.index-b-1.result)) f some (corner_ne n) (join_ne s0 there k a b pa pb some qa qb s1 g1 c.index-a-1.result c.index-b-1.result) c.in_ok-ne.ensures.pieces))
    (adds_quarter plane_grid 8 s2 s3 k 0 n (join_grid s2 there (k - 1) (slice_index_or pa 2 c.index-a-2.result) (slice_index_or pb 2 c.index-b-2.result)) f some (corner_sw n) (join_sw s0 there k a b pa pb some qa qb s2 g2 c.index-a-2.result c.index-b-2.result) c.in_err-sw.ensures.pieces)

pub join_quarters-returns-in_err-se-clause-pieces : goal.join_quarters-returns-in_err-se-clause-pieces
join_quarters-returns-in_err-se-clause-pieces t c =
    let k = c.args.pair.above in
    let n = side_at 8 (k - 1) in
    let some = c.requires.least in
    let a = c.args.pair.here in
    let b = c.args.pair.there in
    let pa = c.quarter_parts-a.result in
    let pb = c.quarter_parts-b.result in
    let s0 = c.args.plane.now.store in
    let there = c.args.other.now.store in
    let qa : AreQuarters s0 k a pa = rw c.square.ensures at c.quarter_parts-a.ensures in
    let qb : AreQuarters there k b pb = rw c.square-2.ensures at c.quarter_parts-b.ensures in
    let f = join_grid s0 there k a b in
    let s1 = c.join_squares.new.plane.store in
    let s2 = c.join_squares-2.new.plane.store in
    let s3 = c.join_squares-3.new.plane.store in
    let s4 = c.join_squares-4.new.plane.store in
    let g0 = grown_none plane_grid 8 s0 in
    let g1 = c.in_ok-nw.ensures.grows.store in
    let g2 = grown_more plane_grid 8 s0 s1 s2 g1 c.in_ok-ne.ensures.grows.store in
    let g3 = grown_more plane_grid 8 s0 s2 s3 g2 c.in_ok-sw.ensures.grows.store in
    adds_more plane_grid 8 s0 s3 s4 k f c.in_err-se.ensures.grows.store
    (adds_more plane_grid 8 s0 s2 s3 k f c.in_ok-sw.ensures.grows.store
    (adds_more plane_grid 8 s0 s1 s2 k f c.in_ok-ne.ensures.grows.store
    (adds_quarter plane_grid 8 s0 s1 k 0 0 (join_grid s0 there (k - 1) (slice_index_or pa 0 c.index-a-0.result) (slice_index_or pb 0 c.index-b-0.result)) f some (corner_nw n) (join_nw s0 there k a b pa pb some qa qb s0 g0 c.index-a-0.result c.index-b-0.result) c.in_ok-nw.ensures.pieces)
    (adds_quarter plane_grid 8 s1 s2 k n 0 (join_grid s1 there (k - 1) (slice_index_or pa 1 c.index-a-1.result) (slice_index_or pb 1 c.index-b-1.result)) f some (corner_ne n) (join_ne s0 there k a b pa pb some qa qb s1 g1 c.index-a-1.result c.index-b-1.result) c.in_ok-ne.ensures.pieces))
    (adds_quarter plane_grid 8 s2 s3 k 0 n (join_grid s2 there (k - 1) (slice_index_or pa 2 c.index-a-2.result) (slice_index_or pb 2 c.index-b-2.result)) f some (corner_sw n) (join_sw s0 there k a b pa pb some qa qb s2 g2 c.index-a-2.result c.index-b-2.result) c.in_ok-sw.ensures.pieces))
    (adds_quarter plane_grid 8 s3 s4 k n n (join_grid s3 there (k - 1) (slice_index_or pa 3 c.index-a-3.result) (slice_index_or pb 3 c.index-b-3.result)) f some (corner_se n) (join_se s0 there k a b pa pb some qa qb s3 g3 c.index-a-3.result c.index-b-3.result) c.in_err-se.ensures.pieces)

pub join_quarters-returns-in_err-part-clause-pieces : goal.join_quarters-returns-in_err-part-clause-pieces
join_quarters-returns-in_err-part-clause-pieces t c =
    let k = c.args.pair.above in
    let n = side_at 8 (k - 1) in
    let some = c.requires.least in
    let a = c.args.pair.here in
    let b = c.args.pair.there in
    let pa = c.quarter_parts-a.result in
    let pb = c.quarter_parts-b.result in
    let s0 = c.args.plane.now.store in
    let there = c.args.other.now.store in
    let qa : AreQuarters s0 k a pa = rw c.square.ensures at c.quarter_parts-a.ensures in
    let qb : AreQuarters there k b pb = rw c.square-2.ensures at c.quarter_parts-b.ensures in
    let f = join_grid s0 there k a b in
    let s1 = c.join_squares.new.plane.store in
    let s2 = c.join_squares-2.new.plane.store in
    let s3 = c.join_squares-3.new.plane.store in
    let s4 = c.join_squares-4.new.plane.store in
    let g0 = grown_none plane_grid 8 s0 in
    let g1 = c.in_ok-nw.ensures.grows.store in
    let g2 = grown_more plane_grid 8 s0 s1 s2 g1 c.in_ok-ne.ensures.grows.store in
    let g3 = grown_more plane_grid 8 s0 s2 s3 g2 c.in_ok-sw.ensures.grows.store in
    let s5 = c.add_four_over.new.plane.store in
    let whole = four_grid plane_grid 8 s4 (k - 1) (c.in_ok-nw.nw ∷ c.in_ok-ne.ne ∷ c.in_ok-sw.sw ∷ c.in_ok-se.se ∷ []) in
    let g4 = grown_more plane_grid 8 s0 s3 s4 g3 c.in_ok-se.ensures.grows.store in
    let later = four_joined there s0 s1 s2 s3 s4 s5 k a b pa pb _ _ _ _ _ _ _ _ c.in_ok-nw.nw c.in_ok-ne.ne c.in_ok-sw.sw c.in_ok-se.se 0 some c.requires.here qa qb
    g1 c.in_ok-ne.ensures.grows.store c.in_ok-sw.ensures.grows.store c.in_ok-se.ensures.grows.store c.in_err-part.ensures.grows.store
    c.in_ok-nw.ensures.join c.in_ok-ne.ensures.join c.in_ok-sw.ensures.join c.in_ok-se.ensures.join in
    let same : AreSameWithin (side_at 8 k) whole f = λ u v hu hv. later u v hu hv ∙ joins_as_before there k a b s0 s4 g4 c.requires.here u v in
    adds_more plane_grid 8 s0 s4 s5 k f c.in_err-part.ensures.grows.store
    (adds_more plane_grid 8 s0 s3 s4 k f c.in_ok-se.ensures.grows.store
    (adds_more plane_grid 8 s0 s2 s3 k f c.in_ok-sw.ensures.grows.store
    (adds_more plane_grid 8 s0 s1 s2 k f c.in_ok-ne.ensures.grows.store
    (adds_quarter plane_grid 8 s0 s1 k 0 0 (join_grid s0 there (k - 1) (slice_index_or pa 0 c.index-a-0.result) (slice_index_or pb 0 c.index-b-0.result)) f some (corner_nw n) (join_nw s0 there k a b pa pb some qa qb s0 g0 c.index-a-0.result c.index-b-0.result) c.in_ok-nw.ensures.pieces)
    (adds_quarter plane_grid 8 s1 s2 k n 0 (join_grid s1 there (k - 1) (slice_index_or pa 1 c.index-a-1.result) (slice_index_or pb 1 c.index-b-1.result)) f some (corner_ne n) (join_ne s0 there k a b pa pb some qa qb s1 g1 c.index-a-1.result c.index-b-1.result) c.in_ok-ne.ensures.pieces))
    (adds_quarter plane_grid 8 s2 s3 k 0 n (join_grid s2 there (k - 1) (slice_index_or pa 2 c.index-a-2.result) (slice_index_or pb 2 c.index-b-2.result)) f some (corner_sw n) (join_sw s0 there k a b pa pb some qa qb s2 g2 c.index-a-2.result c.index-b-2.result) c.in_ok-sw.ensures.pieces))
    (adds_quarter plane_grid 8 s3 s4 k n n (join_grid s3 there (k - 1) (slice_index_or pa 3 c.index-a-3.result) (slice_index_or pb 3 c.index-b-3.result)) f some (corner_se n) (join_se s0 there k a b pa pb some qa qb s3 g3 c.index-a-3.result c.index-b-3.result) c.in_ok-se.ensures.pieces))
    (adds_as plane_grid 8 s4 s5 k whole f same c.in_err-part.ensures.pieces)

pub join_quarters-returns-clause-pieces : goal.join_quarters-returns-clause-pieces
join_quarters-returns-clause-pieces t c =
    let k = c.args.pair.above in
    let n = side_at 8 (k - 1) in
    let some = c.requires.least in
    let a = c.args.pair.here in
    let b = c.args.pair.there in
    let pa = c.quarter_parts-a.result in
    let pb = c.quarter_parts-b.result in
    let s0 = c.args.plane.now.store in
    let there = c.args.other.now.store in
    let qa : AreQuarters s0 k a pa = rw c.square.ensures at c.quarter_parts-a.ensures in
    let qb : AreQuarters there k b pb = rw c.square-2.ensures at c.quarter_parts-b.ensures in
    let f = join_grid s0 there k a b in
    let s1 = c.join_squares.new.plane.store in
    let s2 = c.join_squares-2.new.plane.store in
    let s3 = c.join_squares-3.new.plane.store in
    let s4 = c.join_squares-4.new.plane.store in
    let g0 = grown_none plane_grid 8 s0 in
    let g1 = c.in_ok-nw.ensures.grows.store in
    let g2 = grown_more plane_grid 8 s0 s1 s2 g1 c.in_ok-ne.ensures.grows.store in
    let g3 = grown_more plane_grid 8 s0 s2 s3 g2 c.in_ok-sw.ensures.grows.store in
    let s5 = c.add_four_over.new.plane.store in
    let whole = four_grid plane_grid 8 s4 (k - 1) (c.in_ok-nw.nw ∷ c.in_ok-ne.ne ∷ c.in_ok-sw.sw ∷ c.in_ok-se.se ∷ []) in
    let g4 = grown_more plane_grid 8 s0 s3 s4 g3 c.in_ok-se.ensures.grows.store in
    let later = four_joined there s0 s1 s2 s3 s4 s5 k a b pa pb _ _ _ _ _ _ _ _ c.in_ok-nw.nw c.in_ok-ne.ne c.in_ok-sw.sw c.in_ok-se.se 0 some c.requires.here qa qb
    g1 c.in_ok-ne.ensures.grows.store c.in_ok-sw.ensures.grows.store c.in_ok-se.ensures.grows.store c.in_ok-part.ensures.grows.store
    c.in_ok-nw.ensures.join c.in_ok-ne.ensures.join c.in_ok-sw.ensures.join c.in_ok-se.ensures.join in
    let same : AreSameWithin (side_at 8 k) whole f = λ u v hu hv. later u v hu hv ∙ joins_as_before there k a b s0 s4 g4 c.requires.here u v in
    adds_more plane_grid 8 s0 s4 s5 k f c.in_ok-part.ensures.grows.store
    (adds_more plane_grid 8 s0 s3 s4 k f c.in_ok-se.ensures.grows.store
    (adds_more plane_grid 8 s0 s2 s3 k f c.in_ok-sw.ensures.grows.store
    (adds_more plane_grid 8 s0 s1 s2 k f c.in_ok-ne.ensures.grows.store
    (adds_quarter plane_grid 8 s0 s1 k 0 0 (join_grid s0 there (k - 1) (slice_index_or pa 0 c.index-a-0.result) (slice_index_or pb 0 c.index-b-0.result)) f some (corner_nw n) (join_nw s0 there k a b pa pb some qa qb s0 g0 c.index-a-0.result c.index-b-0.result) c.in_ok-nw.ensures.pieces)
    (adds_quarter plane_grid 8 s1 s2 k n 0 (join_grid s1 there (k - 1) (slice_index_or pa 1 c.index-a-1.result) (slice_index_or pb 1 c.index-b-1.result)) f some (corner_ne n) (join_ne s0 there k a b pa pb some qa qb s1 g1 c.index-a-1.result c.index-b-1.result) c.in_ok-ne.ensures.pieces))
    (adds_quarter plane_grid 8 s2 s3 k 0 n (join_grid s2 there (k - 1) (slice_index_or pa 2 c.index-a-2.result) (slice_index_or pb 2 c.index-b-2.result)) f some (corner_sw n) (join_sw s0 there k a b pa pb some qa qb s2 g2 c.index-a-2.result c.index-b-2.result) c.in_ok-sw.ensures.pieces))
    (adds_quarter plane_grid 8 s3 s4 k n n (join_grid s3 there (k - 1) (slice_index_or pa 3 c.index-a-3.result) (slice_index_or pb 3 c.index-b-3.result)) f some (corner_se n) (join_se s0 there k a b pa pb some qa qb s3 g3 c.index-a-3.result c.index-b-3.result) c.in_ok-se.ensures.pieces))
    (adds_as plane_grid 8 s4 s5 k whole f same c.in_ok-part.ensures.pieces)

pub join_squares-returns-then-stays-clause-pieces : goal.join_squares-returns-then-stays-clause-pieces
join_squares-returns-then-stays-clause-pieces t c = adds_none plane_grid 8 c.args.plane.now.store c.args.pair.above (join_grid c.args.plane.now.store c.args.other.now.store c.args.pair.above c.args.pair.here c.args.pair.there)

pub join_squares-returns-in-Some-clause-pieces : goal.join_squares-returns-in-Some-clause-pieces
join_squares-returns-in-Some-clause-pieces t c = adds_none plane_grid 8 c.args.plane.now.store c.args.pair.above (join_grid c.args.plane.now.store c.args.other.now.store c.args.pair.above c.args.pair.here c.args.pair.there)

pub join_squares-returns-in_err-part-clause-pieces : goal.join_squares-returns-in_err-part-clause-pieces
join_squares-returns-in_err-part-clause-pieces t c =
    let there = c.args.other.now.store in
    let s0 = c.args.plane.now.store in
    let f = join_grid s0 there c.args.pair.above c.args.pair.here c.args.pair.there in
    let brought = grid_at plane_grid 8 there c.args.pair.above c.args.pair.there in
    let same : AreSameWithin (side_at 8 c.args.pair.above) brought f = λ u v hu hv. sym (right_wins _ _ (c.if-loses.ensures refl u v hu hv)) in
    adds_as plane_grid 8 s0 c.bring.new.plane.store c.args.pair.above brought f same c.in_err-part.ensures.pieces

pub join_squares-returns-then-loses-clause-pieces : goal.join_squares-returns-then-loses-clause-pieces
join_squares-returns-then-loses-clause-pieces t c =
    let there = c.args.other.now.store in
    let s0 = c.args.plane.now.store in
    let f = join_grid s0 there c.args.pair.above c.args.pair.here c.args.pair.there in
    let brought = grid_at plane_grid 8 there c.args.pair.above c.args.pair.there in
    let same : AreSameWithin (side_at 8 c.args.pair.above) brought f = λ u v hu hv. sym (right_wins _ _ (c.if-loses.ensures refl u v hu hv)) in
    adds_as plane_grid 8 s0 c.bring.new.plane.store c.args.pair.above brought f same c.in_ok-part.ensures.pieces

pub join_squares-returns-in_err-part-clause-full : goal.join_squares-returns-in_err-part-clause-full
join_squares-returns-in_err-part-clause-full t c =
    let there = c.args.other.now.store in
    let s0 = c.args.plane.now.store in
    let f = join_grid s0 there c.args.pair.above c.args.pair.here c.args.pair.there in
    let brought = grid_at plane_grid 8 there c.args.pair.above c.args.pair.there in
    let same : AreSameWithin (side_at 8 c.args.pair.above) brought f = λ u v hu hv. sym (right_wins _ _ (c.if-loses.ensures refl u v hu hv)) in
    λ e. same_full c.bring.new.plane.store c.args.pair.above brought f same (c.in_err-part.ensures.full (ap (λ e. Err e) (told _ _ _ c.from_residual.ensures.1 e)))

pub join_squares-returns-in_err-part-2-clause-pieces : goal.join_squares-returns-in_err-part-2-clause-pieces
join_squares-returns-in_err-part-2-clause-pieces t c = subst (λ k. AddsPiecesOfGrid plane_grid 8 c.args.plane.now.store c.join_leaves.new.plane.store k (join_grid c.args.plane.now.store c.args.other.now.store k c.args.pair.here c.args.pair.there)) (sym c.if-above-eq0.true) c.in_err-part-2.ensures.pieces

pub join_squares-returns-then-above-eq0-clause-pieces : goal.join_squares-returns-then-above-eq0-clause-pieces
join_squares-returns-then-above-eq0-clause-pieces t c = subst (λ k. AddsPiecesOfGrid plane_grid 8 c.args.plane.now.store c.join_leaves.new.plane.store k (join_grid c.args.plane.now.store c.args.other.now.store k c.args.pair.here c.args.pair.there)) (sym c.if-above-eq0.true) c.in_ok-part-2.ensures.pieces

pub join_squares-returns-in_err-part-2-clause-full : goal.join_squares-returns-in_err-part-2-clause-full
join_squares-returns-in_err-part-2-clause-full t c = λ e. subst (λ k. IsFullStoreFor c.join_leaves.new.plane.store k (join_grid c.args.plane.now.store c.args.other.now.store k c.args.pair.here c.args.pair.there)) (sym c.if-above-eq0.true) (c.in_err-part-2.ensures.full (ap (λ e. Err e) (told _ _ _ c.from_residual-in_err-part-2.ensures.1 e)))

pub join_squares-returns-in_err-part-3-clause-pieces : goal.join_squares-returns-in_err-part-3-clause-pieces
join_squares-returns-in_err-part-3-clause-pieces t c = c.in_err-part-3.ensures.pieces

pub join_squares-returns-in_err-keep_join-clause-pieces : goal.join_squares-returns-in_err-keep_join-clause-pieces
join_squares-returns-in_err-keep_join-clause-pieces t c = c.in_ok-part-3.ensures.pieces

pub join_squares-returns-clause-pieces : goal.join_squares-returns-clause-pieces
join_squares-returns-clause-pieces t c = c.in_ok-part-3.ensures.pieces

pub join_squares-returns-in_err-part-3-clause-full : goal.join_squares-returns-in_err-part-3-clause-full
join_squares-returns-in_err-part-3-clause-full t c = λ e. c.in_err-part-3.ensures.full (ap (λ e. Err e) (told _ _ _ c.from_residual-in_err-part-3.ensures.1 e))
