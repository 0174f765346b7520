use Rattle.std.proofs.Common.{rules, ◌≡◌, ℕ, [], ◌∷◌, ◌+◌, ◌-◌, ◌∙◌, length, refl, sym, ap, subst, arith, List, Ok, Err}
use Rattle.square_store.specs.declared.fault.StoreFault.TheVariants.{StoreFull, Memory}
use Rattle.square_store.proofs.Made.{told}
use Rattle.square_store.specs.Grid.{blank_grid}
use Rattle.square_store.specs.Pieces.{AddsPiecesOfGrid}
use Rattle.square_store.specs.Squares.{Draws, IsAt, side_at, four_grid}
use Rattle.stamped_tree.specs.LeafKind.{plane_grid}
use Rattle.stamped_tree.specs.declared.cells.ListedCell.{ListedCell}
use Rattle.stamped_tree.specs.Drawing.{drawn_grid}
use Rattle.stamped_tree.specs.Morton.{IsMortonRun, listed_in}
use Rattle.stamped_tree.specs.Full.{IsFullStoreFor}
use Rattle.stamped_tree.specs.Plane.{HoldPlaneWrites}
use Rattle.stamped_tree.proofs.Held.{holds_added, blank_has, four_has}
use Rattle.square_store.proofs.Drawn.{draws_as, grown_more, four_at}
use Rattle.stamped_tree.proofs.Drawing.{stamped_write}
use Rattle.stamped_tree.proofs.Morton.{none_listed, quarters_listed, quarter_run_below}
use Rattle.stamped_tree.proofs.Overwriting.{stays, blank_over, covered_whole, area_over, no_length, filled_drawn, filled_later, grown_none}
use Rattle.square_store.proofs.PieceLaws.{adds_none, adds_unchanged, adds_itself, four_as}
use Rattle.stamped_tree.proofs.DrawnPieces.{IsPartly, same_full, same_nw, same_ne, same_sw, same_se, at_nw, at_ne, at_sw, at_se, of_quarter, more, made, all_drawn, refused, as_refused}
use Rattle.stamped_tree.proofs.Parts.{nw_later, ne_later, sw_later, se_later, some_level, level_below, anew_falls, quarter_falls}
use Rattle.stamped_tree.proofs.draw.+draw.Goals as goal

other_fault : Memory ≡ StoreFull → ⊥
other_fault z = cc

pub draw-returns-then-is_whole-clause-drawn : goal.draw-returns-then-is_whole-clause-drawn
draw-returns-then-is_whole-clause-drawn t c = record {
  draws = blank_over c.args.store.now c.add_blank.new.self c.args.level c.args.part c.args.edit.stamp c.side_of.result c.in_ok-blank.blank c.args.edit.area (listed_in (side_at 8 c.args.level) c.args.edit.cells.now) c.requires.stamp c.side_of.ensures (none_listed (side_at 8 c.args.level) c.args.edit.cells.now (no_length (length c.args.edit.cells.now) c.if-not-is_empty.ensures)) (c.if-is_whole.ensures.0 refl) (c.in_ok-blank.ensures.draws c.args.level);
  grows = c.in_ok-blank.ensures.grows;
  writes = (let r = c.in_ok-blank in
      λ holds. holds_added c.args.store.now c.add_blank.new.self 0 (blank_grid c.args.edit.stamp) r.blank holds r.ensures.grows (r.ensures.draws 0) (blank_has c.args.edit.stamp (stamped_write c.args.edit.stamp 0 c.requires.stamp) (side_at 8 0)) (r.ensures.added 0));
  pieces = (let a = c.args in
      let w = drawn_grid a.store.now a.level a.part a.edit.stamp a.edit.area (listed_in (side_at 8 a.level) a.edit.cells.now) in
      adds_itself plane_grid 8 a.store.now c.add_blank.new.self a.level (blank_grid a.edit.stamp) w c.in_ok-blank.blank
      (draws_as plane_grid 8 c.add_blank.new.self a.level (blank_grid a.edit.stamp) w c.in_ok-blank.blank (covered_whole a.store.now a.level a.part a.edit.stamp c.side_of.result a.edit.area (listed_in (side_at 8 a.level) a.edit.cells.now) c.requires.stamp c.side_of.ensures (none_listed (side_at 8 a.level) a.edit.cells.now (no_length (length a.edit.cells.now) c.if-not-is_empty.ensures)) (c.if-is_whole.ensures.0 refl)) (c.in_ok-blank.ensures.draws a.level)) (c.in_ok-blank.ensures.added a.level));
  full = search rules;
}

pub draw-returns-then-is_whole-clause-kept : goal.draw-returns-then-is_whole-clause-kept
draw-returns-then-is_whole-clause-kept t c = filled_later c.args.store.now c.add_blank.new.self c.args.edit.stamp c.args.kept.now c.in_ok-blank.ensures.grows c.requires.kept

pub draw_anew-returns-in_err-drawn-clause-kept : goal.draw_anew-returns-in_err-drawn-clause-kept
draw_anew-returns-in_err-drawn-clause-kept t c = filled_later c.args.store.now c.draw_leaf.new.store c.args.edit.stamp c.args.kept.now c.in_err-drawn.ensures.grows c.requires.kept

pub draw_anew-returns-then-level-eq0-clause-kept : goal.draw_anew-returns-then-level-eq0-clause-kept
draw_anew-returns-then-level-eq0-clause-kept t c = filled_later c.args.store.now c.draw_leaf.new.store c.args.edit.stamp c.args.kept.now c.in_ok-drawn.ensures.grows c.requires.kept

pub draw_anew-returns-in_err-sw-clause-drawn : goal.draw_anew-returns-in_err-sw-clause-drawn
draw_anew-returns-in_err-sw-clause-drawn t c =
    let a = c.args in
    let n = c.side_of-half.result in
    let is = c.side_of-half.ensures in
    let parts = c.quarters-parts.result in
    let cut = c.quarters-parts.ensures in
    let its = c.quartered-quarters.result in
    let of = c.quartered-quarters.ensures in
    let some = some_level a.level c.if-level-eq0.false in
    let cells = quarters_listed a.level n a.edit.cells.now its.nw.now its.ne.now its.sw.now its.se.now some is of.nw of.ne of.sw of.se in
    let below = λ (cells : List ListedCell). listed_in (side_at 8 (a.level - 1)) cells in
    let on = listed_in (side_at 8 a.level) a.edit.cells.now in
    let w = drawn_grid a.store.now a.level a.part a.edit.stamp a.edit.area on in
    let s0 = a.store.now in
    let s1 = c.draw.new.store in
    let same1 = same_nw s0 a.level a.part parts some cut n is s0 (grown_none plane_grid 8 s0) a.edit.stamp a.edit.area c.of_part.result on (below its.nw.now) c.index-parts-0.result cells.nw c.of_part.ensures.part in
    let q1 = of_quarter s0 s1 a.level 0 0 _ w _ some (at_nw a.level n is) same1 c.in_ok-nw.ensures.drawn in
    let p1 = q1 in
    let s2 = c.draw-2.new.store in
    let same2 = same_ne s0 a.level a.part parts some cut n is s1 p1.grows a.edit.stamp a.edit.area c.of_part-2.result on (below its.ne.now) c.index-parts-1.result cells.ne c.of_part-2.ensures.part in
    let q2 = of_quarter s1 s2 a.level n 0 _ w _ some (at_ne a.level n is) same2 c.in_ok-ne.ensures.drawn in
    let p2 = more s0 s1 s2 a.level w _ _ p1 q2 in
    let s3 = c.draw-3.new.store in
    let same3 = same_sw s0 a.level a.part parts some cut n is s2 p2.grows a.edit.stamp a.edit.area c.of_part-3.result on (below its.sw.now) c.index-parts-2.result cells.sw c.of_part-3.ensures.part in
    let q3 = of_quarter s2 s3 a.level 0 n _ w _ some (at_sw a.level n is) same3 c.in_err-sw.ensures.drawn in
    let p3 = more s0 s2 s3 a.level w _ _ p2 q3 in
    refused s0 s3 a.level w _ _ c.from_residual-in_err-sw.ensures.1 p3

pub draw_anew-returns-in_err-se-clause-drawn : goal.draw_anew-returns-in_err-se-clause-drawn
draw_anew-returns-in_err-se-clause-drawn t c =
    let a = c.args in
    let n = c.side_of-half.result in
    let is = c.side_of-half.ensures in
    let parts = c.quarters-parts.result in
    let cut = c.quarters-parts.ensures in
    let its = c.quartered-quarters.result in
    let of = c.quartered-quarters.ensures in
    let some = some_level a.level c.if-level-eq0.false in
    let cells = quarters_listed a.level n a.edit.cells.now its.nw.now its.ne.now its.sw.now its.se.now some is of.nw of.ne of.sw of.se in
    let below = λ (cells : List ListedCell). listed_in (side_at 8 (a.level - 1)) cells in
    let on = listed_in (side_at 8 a.level) a.edit.cells.now in
    let w = drawn_grid a.store.now a.level a.part a.edit.stamp a.edit.area on in
    let s0 = a.store.now in
    let s1 = c.draw.new.store in
    let same1 = same_nw s0 a.level a.part parts some cut n is s0 (grown_none plane_grid 8 s0) a.edit.stamp a.edit.area c.of_part.result on (below its.nw.now) c.index-parts-0.result cells.nw c.of_part.ensures.part in
    let q1 = of_quarter s0 s1 a.level 0 0 _ w _ some (at_nw a.level n is) same1 c.in_ok-nw.ensures.drawn in
    let p1 = q1 in
    let s2 = c.draw-2.new.store in
    let same2 = same_ne s0 a.level a.part parts some cut n is s1 p1.grows a.edit.stamp a.edit.area c.of_part-2.result on (below its.ne.now) c.index-parts-1.result cells.ne c.of_part-2.ensures.part in
    let q2 = of_quarter s1 s2 a.level n 0 _ w _ some (at_ne a.level n is) same2 c.in_ok-ne.ensures.drawn in
    let p2 = more s0 s1 s2 a.level w _ _ p1 q2 in
    let s3 = c.draw-3.new.store in
    let same3 = same_sw s0 a.level a.part parts some cut n is s2 p2.grows a.edit.stamp a.edit.area c.of_part-3.result on (below its.sw.now) c.index-parts-2.result cells.sw c.of_part-3.ensures.part in
    let q3 = of_quarter s2 s3 a.level 0 n _ w _ some (at_sw a.level n is) same3 c.in_ok-sw.ensures.drawn in
    let p3 = more s0 s2 s3 a.level w _ _ p2 q3 in
    let s4 = c.draw-4.new.store in
    let same4 = same_se s0 a.level a.part parts some cut n is s3 p3.grows a.edit.stamp a.edit.area c.of_part-4.result on (below its.se.now) c.index-parts-3.result cells.se c.of_part-4.ensures.part in
    let q4 = of_quarter s3 s4 a.level n n _ w _ some (at_se a.level n is) same4 c.in_err-se.ensures.drawn in
    let p4 = more s0 s3 s4 a.level w _ _ p3 q4 in
    refused s0 s4 a.level w _ _ c.from_residual-in_err-se.ensures.1 p4

pub draw_anew-returns-in_err-drawn-2-clause-drawn : goal.draw_anew-returns-in_err-drawn-2-clause-drawn
draw_anew-returns-in_err-drawn-2-clause-drawn t c =
    let a = c.args in
    let n = c.side_of-half.result in
    let is = c.side_of-half.ensures in
    let parts = c.quarters-parts.result in
    let cut = c.quarters-parts.ensures in
    let its = c.quartered-quarters.result in
    let of = c.quartered-quarters.ensures in
    let some = some_level a.level c.if-level-eq0.false in
    let cells = quarters_listed a.level n a.edit.cells.now its.nw.now its.ne.now its.sw.now its.se.now some is of.nw of.ne of.sw of.se in
    let below = λ (cells : List ListedCell). listed_in (side_at 8 (a.level - 1)) cells in
    let on = listed_in (side_at 8 a.level) a.edit.cells.now in
    let w = drawn_grid a.store.now a.level a.part a.edit.stamp a.edit.area on in
    let s0 = a.store.now in
    let s1 = c.draw.new.store in
    let same1 = same_nw s0 a.level a.part parts some cut n is s0 (grown_none plane_grid 8 s0) a.edit.stamp a.edit.area c.of_part.result on (below its.nw.now) c.index-parts-0.result cells.nw c.of_part.ensures.part in
    let q1 = of_quarter s0 s1 a.level 0 0 _ w _ some (at_nw a.level n is) same1 c.in_ok-nw.ensures.drawn in
    let p1 = q1 in
    let s2 = c.draw-2.new.store in
    let same2 = same_ne s0 a.level a.part parts some cut n is s1 p1.grows a.edit.stamp a.edit.area c.of_part-2.result on (below its.ne.now) c.index-parts-1.result cells.ne c.of_part-2.ensures.part in
    let q2 = of_quarter s1 s2 a.level n 0 _ w _ some (at_ne a.level n is) same2 c.in_ok-ne.ensures.drawn in
    let p2 = more s0 s1 s2 a.level w _ _ p1 q2 in
    let s3 = c.draw-3.new.store in
    let same3 = same_sw s0 a.level a.part parts some cut n is s2 p2.grows a.edit.stamp a.edit.area c.of_part-3.result on (below its.sw.now) c.index-parts-2.result cells.sw c.of_part-3.ensures.part in
    let q3 = of_quarter s2 s3 a.level 0 n _ w _ some (at_sw a.level n is) same3 c.in_ok-sw.ensures.drawn in
    let p3 = more s0 s2 s3 a.level w _ _ p2 q3 in
    let s4 = c.draw-4.new.store in
    let same4 = same_se s0 a.level a.part parts some cut n is s3 p3.grows a.edit.stamp a.edit.area c.of_part-4.result on (below its.se.now) c.index-parts-3.result cells.se c.of_part-4.ensures.part in
    let q4 = of_quarter s3 s4 a.level n n _ w _ some (at_se a.level n is) same4 c.in_ok-se.ensures.drawn in
    let p4 = more s0 s3 s4 a.level w _ _ p3 q4 in
    let s5 = c.add_four.new.self in
    let four = four_grid plane_grid 8 s4 (a.level - 1) (c.in_ok-nw.nw ∷ c.in_ok-ne.ne ∷ c.in_ok-sw.sw ∷ c.in_ok-se.se ∷ []) in
    let h2 = grown_more plane_grid 8 s2 s3 s4 q3.grows q4.grows in
    let h1 = grown_more plane_grid 8 s1 s2 s4 q2.grows h2 in
    let same = four_as plane_grid 8 s4 a.level c.in_ok-nw.nw c.in_ok-ne.ne c.in_ok-sw.sw c.in_ok-se.se w some n is
    (made s1 s4 a.level 0 0 _ w c.in_ok-nw.nw same1 h1 c.in_ok-nw.ensures.drawn.draws)
    (made s2 s4 a.level n 0 _ w c.in_ok-ne.ne same2 h2 c.in_ok-ne.ensures.drawn.draws)
    (made s3 s4 a.level 0 n _ w c.in_ok-sw.sw same3 q4.grows c.in_ok-sw.ensures.drawn.draws)
    (made s4 s4 a.level n n _ w c.in_ok-se.se same4 (grown_none plane_grid 8 s4) c.in_ok-se.ensures.drawn.draws) in
    let last : IsPartly s4 s5 a.level w (Err _) = record {
      grows = c.in_err-drawn-2.ensures.grows;
      writes = subst HoldPlaneWrites (sym c.in_err-drawn-2.ensures.err);
      pieces = adds_unchanged plane_grid 8 s4 s5 c.in_err-drawn-2.ensures.err a.level w;
      full = λ e. subst (λ s. IsFullStoreFor s a.level w) (sym c.in_err-drawn-2.ensures.err) (same_full s4 a.level four w same (record { full = c.in_err-drawn-2.ensures.full e; store = c.store_laws.ensures.store }));
    } in
    refused s0 s5 a.level w _ _ c.from_residual-in_err-drawn-2.ensures.1 (more s0 s4 s5 a.level w _ _ p4 last)

pub draw_anew-returns-clause-kept : goal.draw_anew-returns-clause-kept
draw_anew-returns-clause-kept t c = filled_later c.draw-4.new.store c.add_four.new.self c.args.edit.stamp c.draw-4.new.kept c.in_ok-drawn-2.ensures.grows c.in_ok-se.ensures.kept

pub draw_anew-returns-clause-drawn : goal.draw_anew-returns-clause-drawn
draw_anew-returns-clause-drawn t c =
    let a = c.args in
    let n = c.side_of-half.result in
    let is = c.side_of-half.ensures in
    let parts = c.quarters-parts.result in
    let cut = c.quarters-parts.ensures in
    let its = c.quartered-quarters.result in
    let of = c.quartered-quarters.ensures in
    let some = some_level a.level c.if-level-eq0.false in
    let cells = quarters_listed a.level n a.edit.cells.now its.nw.now its.ne.now its.sw.now its.se.now some is of.nw of.ne of.sw of.se in
    let below = λ (cells : List ListedCell). listed_in (side_at 8 (a.level - 1)) cells in
    let on = listed_in (side_at 8 a.level) a.edit.cells.now in
    let w = drawn_grid a.store.now a.level a.part a.edit.stamp a.edit.area on in
    let s0 = a.store.now in
    let s1 = c.draw.new.store in
    let same1 = same_nw s0 a.level a.part parts some cut n is s0 (grown_none plane_grid 8 s0) a.edit.stamp a.edit.area c.of_part.result on (below its.nw.now) c.index-parts-0.result cells.nw c.of_part.ensures.part in
    let q1 = of_quarter s0 s1 a.level 0 0 _ w _ some (at_nw a.level n is) same1 c.in_ok-nw.ensures.drawn in
    let p1 = q1 in
    let s2 = c.draw-2.new.store in
    let same2 = same_ne s0 a.level a.part parts some cut n is s1 p1.grows a.edit.stamp a.edit.area c.of_part-2.result on (below its.ne.now) c.index-parts-1.result cells.ne c.of_part-2.ensures.part in
    let q2 = of_quarter s1 s2 a.level n 0 _ w _ some (at_ne a.level n is) same2 c.in_ok-ne.ensures.drawn in
    let p2 = more s0 s1 s2 a.level w _ _ p1 q2 in
    let s3 = c.draw-3.new.store in
    let same3 = same_sw s0 a.level a.part parts some cut n is s2 p2.grows a.edit.stamp a.edit.area c.of_part-3.result on (below its.sw.now) c.index-parts-2.result cells.sw c.of_part-3.ensures.part in
    let q3 = of_quarter s2 s3 a.level 0 n _ w _ some (at_sw a.level n is) same3 c.in_ok-sw.ensures.drawn in
    let p3 = more s0 s2 s3 a.level w _ _ p2 q3 in
    let s4 = c.draw-4.new.store in
    let same4 = same_se s0 a.level a.part parts some cut n is s3 p3.grows a.edit.stamp a.edit.area c.of_part-4.result on (below its.se.now) c.index-parts-3.result cells.se c.of_part-4.ensures.part in
    let q4 = of_quarter s3 s4 a.level n n _ w _ some (at_se a.level n is) same4 c.in_ok-se.ensures.drawn in
    let p4 = more s0 s3 s4 a.level w _ _ p3 q4 in
    let s5 = c.add_four.new.self in
    let four = four_grid plane_grid 8 s4 (a.level - 1) (c.in_ok-nw.nw ∷ c.in_ok-ne.ne ∷ c.in_ok-sw.sw ∷ c.in_ok-se.se ∷ []) in
    let h2 = grown_more plane_grid 8 s2 s3 s4 q3.grows q4.grows in
    let h1 = grown_more plane_grid 8 s1 s2 s4 q2.grows h2 in
    let same = four_as plane_grid 8 s4 a.level c.in_ok-nw.nw c.in_ok-ne.ne c.in_ok-sw.sw c.in_ok-se.se w some n is
    (made s1 s4 a.level 0 0 _ w c.in_ok-nw.nw same1 h1 c.in_ok-nw.ensures.drawn.draws)
    (made s2 s4 a.level n 0 _ w c.in_ok-ne.ne same2 h2 c.in_ok-ne.ensures.drawn.draws)
    (made s3 s4 a.level 0 n _ w c.in_ok-sw.sw same3 q4.grows c.in_ok-sw.ensures.drawn.draws)
    (made s4 s4 a.level n n _ w c.in_ok-se.se same4 (grown_none plane_grid 8 s4) c.in_ok-se.ensures.drawn.draws) in
    let r = c.in_ok-drawn-2 in
    let d = r.drawn in
    let drawn = draws_as plane_grid 8 s5 a.level four w d same r.ensures.draws in
    let stand = four_at s4 (a.level - 1) c.in_ok-nw.nw c.in_ok-ne.ne c.in_ok-sw.sw c.in_ok-se.se (h1.stands (a.level - 1) c.in_ok-nw.nw c.in_ok-nw.ensures.drawn.draws.stands) (h2.stands (a.level - 1) c.in_ok-ne.ne c.in_ok-ne.ensures.drawn.draws.stands) (q4.grows.stands (a.level - 1) c.in_ok-sw.sw c.in_ok-sw.ensures.drawn.draws.stands) c.in_ok-se.ensures.drawn.draws.stands in
    let last : IsPartly s4 s5 a.level w (Ok d) = record {
      grows = r.ensures.grows;
      writes = λ holds. holds_added s4 s5 a.level four d holds r.ensures.grows r.ensures.draws (four_has s4 holds a.level some (c.in_ok-nw.nw ∷ c.in_ok-ne.ne ∷ c.in_ok-sw.sw ∷ c.in_ok-se.se ∷ []) stand) r.ensures.added;
      pieces = adds_itself plane_grid 8 s4 s5 a.level four w d drawn r.ensures.added;
      full = λ e. absurd (cc);
    } in
    all_drawn s0 s5 a.level d w drawn (more s0 s4 s5 a.level w _ _ p4 last)

pub draw-draw_anew-requires : goal.draw-draw_anew-requires
draw-draw_anew-requires t c = (anew_falls c.args.level t c.decreases, (c.requires.level, (c.requires.part, (c.requires.stamp, (c.requires.cells, c.requires.kept)))))

pub draw-draw_anew-requires-2 : goal.draw-draw_anew-requires-2
draw-draw_anew-requires-2 t c = (anew_falls c.args.level t c.decreases, (c.requires.level, (c.requires.part, (c.requires.stamp, (c.requires.cells, c.requires.kept)))))

pub draw-returns-then-is_empty-clause-drawn : goal.draw-returns-then-is_empty-clause-drawn
draw-returns-then-is_empty-clause-drawn t c = record {
  draws = stays c.args.store.now c.args.level c.args.part c.args.edit.stamp c.args.edit.area (listed_in (side_at 8 c.args.level) c.args.edit.cells.now) c.requires.part (none_listed (side_at 8 c.args.level) c.args.edit.cells.now (no_length (length c.args.edit.cells.now) c.if-not-is_empty.ensures)) (c.if-is_empty.ensures.0 refl);
  grows = search rules;
  writes = search rules;
  pieces = adds_none plane_grid 8 c.args.store.now c.args.level (drawn_grid c.args.store.now c.args.level c.args.part c.args.edit.stamp c.args.edit.area (listed_in (side_at 8 c.args.level) c.args.edit.cells.now));
  full = search rules;
}

pub draw-returns-in-Some-clause-drawn : goal.draw-returns-in-Some-clause-drawn
draw-returns-in-Some-clause-drawn t c = record {
  draws = area_over c.args.store.now c.args.level c.args.part c.args.edit.stamp c.in-Some.drawn c.args.edit.area (listed_in (side_at 8 c.args.level) c.args.edit.cells.now) (none_listed (side_at 8 c.args.level) c.args.edit.cells.now (no_length (length c.args.edit.cells.now) c.if-not-is_empty.ensures)) c.in-Some.ensures.draws;
  grows = search rules;
  writes = search rules;
  pieces = adds_none plane_grid 8 c.args.store.now c.args.level (drawn_grid c.args.store.now c.args.level c.args.part c.args.edit.stamp c.args.edit.area (listed_in (side_at 8 c.args.level) c.args.edit.cells.now));
  full = search rules;
}

pub draw-keep-requires-clause-filled : goal.draw-keep-requires-clause-filled
draw-keep-requires-clause-filled t c = filled_drawn c.args.store.now c.draw_anew-2.new.store c.args.level c.args.part c.args.edit.stamp c.in_ok-drawn-2.drawn c.args.edit.area (listed_in (side_at 8 c.args.level) c.args.edit.cells.now) c.in_ok-drawn-2.ensures.drawn.grows c.requires.part (none_listed (side_at 8 c.args.level) c.args.edit.cells.now (no_length (length c.args.edit.cells.now) c.if-not-is_empty.ensures)) c.in_ok-drawn-2.ensures.drawn.draws

pub draw-keep-requires-clause-kept : goal.draw-keep-requires-clause-kept
draw-keep-requires-clause-kept t c = c.in_ok-drawn-2.ensures.kept

pub draw-returns-in_err-keep-clause-drawn : goal.draw-returns-in_err-keep-clause-drawn
draw-returns-in_err-keep-clause-drawn t c = record {
  draws = search rules;
  grows = c.in_ok-drawn-2.ensures.drawn.grows;
  writes = c.in_ok-drawn-2.ensures.drawn.writes;
  pieces = c.in_ok-drawn-2.ensures.drawn.pieces;
  full = (λ e. absurd (other_fault (sym c.in_err-keep.ensures.err ∙ told _ _ _ c.from_residual-in_err-keep.ensures.1 e)));
}

pub draw-returns-in_err-drawn-clause-drawn : goal.draw-returns-in_err-drawn-clause-drawn
draw-returns-in_err-drawn-clause-drawn t c = as_refused _ _ _ _ _ _ c.from_residual.ensures.1 c.in_err-drawn.ensures.drawn

pub draw-returns-in_err-drawn-2-clause-drawn : goal.draw-returns-in_err-drawn-2-clause-drawn
draw-returns-in_err-drawn-2-clause-drawn t c = as_refused _ _ _ _ _ _ c.from_residual-in_err-drawn-2.ensures.1 c.in_err-drawn-2.ensures.drawn

pub draw-returns-in_err-drawn-clause-kept : goal.draw-returns-in_err-drawn-clause-kept
draw-returns-in_err-drawn-clause-kept t c = c.in_err-drawn.ensures.kept

pub draw-returns-in_err-drawn-2-clause-kept : goal.draw-returns-in_err-drawn-2-clause-kept
draw-returns-in_err-drawn-2-clause-kept t c = c.in_err-drawn-2.ensures.kept

pub draw-returns-then-not-is_empty-clause-drawn : goal.draw-returns-then-not-is_empty-clause-drawn
draw-returns-then-not-is_empty-clause-drawn t c = c.in_ok-drawn.ensures.drawn

pub draw-returns-then-not-is_empty-clause-kept : goal.draw-returns-then-not-is_empty-clause-kept
draw-returns-then-not-is_empty-clause-kept t c = c.in_ok-drawn.ensures.kept

pub draw-returns-clause-drawn : goal.draw-returns-clause-drawn
draw-returns-clause-drawn t c = c.in_ok-drawn-2.ensures.drawn

pub draw-returns-in_err-blank-clause-drawn : goal.draw-returns-in_err-blank-clause-drawn
draw-returns-in_err-blank-clause-drawn t c = record {
  draws = search rules;
  grows = c.in_err-blank.ensures.grows;
  writes = search rules;
  pieces = (let a = c.args in
      let w = drawn_grid a.store.now a.level a.part a.edit.stamp a.edit.area (listed_in (side_at 8 a.level) a.edit.cells.now) in
      adds_unchanged plane_grid 8 a.store.now c.add_blank.new.self c.in_err-blank.ensures.err a.level w);
  full = (let a = c.args in
      let w = drawn_grid a.store.now a.level a.part a.edit.stamp a.edit.area (listed_in (side_at 8 a.level) a.edit.cells.now) in
      let same = covered_whole a.store.now a.level a.part a.edit.stamp c.side_of.result a.edit.area (listed_in (side_at 8 a.level) a.edit.cells.now) c.requires.stamp c.side_of.ensures (none_listed (side_at 8 a.level) a.edit.cells.now (no_length (length a.edit.cells.now) c.if-not-is_empty.ensures)) (c.if-is_whole.ensures.0 refl) in
      λ e. subst (λ s. IsFullStoreFor s a.level w) (sym c.in_err-blank.ensures.err) (same_full a.store.now a.level (blank_grid a.edit.stamp) w same (record {
        full = c.in_err-blank.ensures.full (ap (λ e. Err e) (told _ _ _ c.from_residual-in_err-blank.ensures.1 e)) a.level;
        store = c.store_laws.ensures.store;
      })));
}

pub draw_anew-draw_leaf-requires-clause-part : goal.draw_anew-draw_leaf-requires-clause-part
draw_anew-draw_leaf-requires-clause-part t c = subst (λ k. IsAt c.args.store.now k c.args.part) c.if-level-eq0.true c.requires.part

pub draw_anew-returns-in_err-drawn-clause-drawn : goal.draw_anew-returns-in_err-drawn-clause-drawn
draw_anew-returns-in_err-drawn-clause-drawn t c = record {
  draws = search rules;
  grows = c.in_err-drawn.ensures.grows;
  writes = c.in_err-drawn.ensures.writes;
  pieces = subst (λ k. AddsPiecesOfGrid plane_grid 8 c.args.store.now c.draw_leaf.new.store k (drawn_grid c.args.store.now k c.args.part c.args.edit.stamp c.args.edit.area (listed_in (side_at 8 k) c.args.edit.cells.now))) (sym c.if-level-eq0.true) c.in_err-drawn.ensures.pieces;
  full = (λ e. subst (λ k. IsFullStoreFor c.draw_leaf.new.store k (drawn_grid c.args.store.now k c.args.part c.args.edit.stamp c.args.edit.area (listed_in (side_at 8 k) c.args.edit.cells.now))) (sym c.if-level-eq0.true) (c.in_err-drawn.ensures.full (ap (λ e. Err e) (told _ _ _ c.from_residual.ensures.1 e))));
}

pub draw_anew-returns-then-level-eq0-clause-drawn : goal.draw_anew-returns-then-level-eq0-clause-drawn
draw_anew-returns-then-level-eq0-clause-drawn t c = record {
  draws = subst (λ k. Draws plane_grid 8 c.draw_leaf.new.store k (drawn_grid c.args.store.now k c.args.part c.args.edit.stamp c.args.edit.area (listed_in (side_at 8 k) c.args.edit.cells.now)) c.in_ok-drawn.drawn) (sym c.if-level-eq0.true) c.in_ok-drawn.ensures.draws;
  grows = c.in_ok-drawn.ensures.grows;
  writes = c.in_ok-drawn.ensures.writes;
  pieces = subst (λ k. AddsPiecesOfGrid plane_grid 8 c.args.store.now c.draw_leaf.new.store k (drawn_grid c.args.store.now k c.args.part c.args.edit.stamp c.args.edit.area (listed_in (side_at 8 k) c.args.edit.cells.now))) (sym c.if-level-eq0.true) c.in_ok-drawn.ensures.pieces;
  full = search rules;
}

pub draw_anew-draw-requires : goal.draw_anew-draw-requires
draw_anew-draw-requires t c =
    (quarter_falls c.args.level t (some_level c.args.level c.if-level-eq0.false) c.decreases, (level_below c.args.level c.requires.level, (nw_later c.args.store.now c.args.store.now c.args.level c.args.part c.quarters-parts.result c.quarters-parts.ensures (grown_none plane_grid 8 c.args.store.now) c.index-parts-0.result, (c.requires.stamp, (quarter_run_below c.args.level 0 c.args.edit.cells.now c.quartered-quarters.result.nw.now (some_level c.args.level c.if-level-eq0.false) c.requires.level c.requires.cells c.quartered-quarters.ensures.nw, c.requires.kept)))))

pub draw_anew-returns-in_err-nw-clause-drawn : goal.draw_anew-returns-in_err-nw-clause-drawn
draw_anew-returns-in_err-nw-clause-drawn t c =
    let a = c.args in
    let n = c.side_of-half.result in
    let is = c.side_of-half.ensures in
    let parts = c.quarters-parts.result in
    let cut = c.quarters-parts.ensures in
    let its = c.quartered-quarters.result in
    let of = c.quartered-quarters.ensures in
    let some = some_level a.level c.if-level-eq0.false in
    let cells = quarters_listed a.level n a.edit.cells.now its.nw.now its.ne.now its.sw.now its.se.now some is of.nw of.ne of.sw of.se in
    let below = λ (cells : List ListedCell). listed_in (side_at 8 (a.level - 1)) cells in
    let on = listed_in (side_at 8 a.level) a.edit.cells.now in
    let w = drawn_grid a.store.now a.level a.part a.edit.stamp a.edit.area on in
    let s0 = a.store.now in
    let s1 = c.draw.new.store in
    let same1 = same_nw s0 a.level a.part parts some cut n is s0 (grown_none plane_grid 8 s0) a.edit.stamp a.edit.area c.of_part.result on (below its.nw.now) c.index-parts-0.result cells.nw c.of_part.ensures.part in
    let q1 = of_quarter s0 s1 a.level 0 0 _ w _ some (at_nw a.level n is) same1 c.in_err-nw.ensures.drawn in
    let p1 = q1 in
    refused s0 s1 a.level w _ _ c.from_residual-in_err-nw.ensures.1 p1

pub draw_anew-returns-in_err-nw-clause-kept : goal.draw_anew-returns-in_err-nw-clause-kept
draw_anew-returns-in_err-nw-clause-kept t c = c.in_err-nw.ensures.kept

pub draw_anew-draw-requires-2 : goal.draw_anew-draw-requires-2
draw_anew-draw-requires-2 t c =
    (quarter_falls c.args.level t (some_level c.args.level c.if-level-eq0.false) c.decreases, (level_below c.args.level c.requires.level, (ne_later c.args.store.now c.draw.new.store c.args.level c.args.part c.quarters-parts.result c.quarters-parts.ensures c.in_ok-nw.ensures.drawn.grows c.index-parts-1.result, (c.requires.stamp, (quarter_run_below c.args.level 1 c.args.edit.cells.now c.quartered-quarters.result.ne.now (some_level c.args.level c.if-level-eq0.false) c.requires.level c.requires.cells c.quartered-quarters.ensures.ne, c.in_ok-nw.ensures.kept)))))

pub draw_anew-returns-in_err-ne-clause-drawn : goal.draw_anew-returns-in_err-ne-clause-drawn
draw_anew-returns-in_err-ne-clause-drawn t c =
    let a = c.args in
    let n = c.side_of-half.result in
    let is = c.side_of-half.ensures in
    let parts = c.quarters-parts.result in
    let cut = c.quarters-parts.ensures in
    let its = c.quartered-quarters.result in
    let of = c.quartered-quarters.ensures in
    let some = some_level a.level c.if-level-eq0.false in
    let cells = quarters_listed a.level n a.edit.cells.now its.nw.now its.ne.now its.sw.now its.se.now some is of.nw of.ne of.sw of.se in
    let below = λ (cells : List ListedCell). listed_in (side_at 8 (a.level - 1)) cells in
    let on = listed_in (side_at 8 a.level) a.edit.cells.now in
    let w = drawn_grid a.store.now a.level a.part a.edit.stamp a.edit.area on in
    let s0 = a.store.now in
    let s1 = c.draw.new.store in
    let same1 = same_nw s0 a.level a.part parts some cut n is s0 (grown_none plane_grid 8 s0) a.edit.stamp a.edit.area c.of_part.result on (below its.nw.now) c.index-parts-0.result cells.nw c.of_part.ensures.part in
    let q1 = of_quarter s0 s1 a.level 0 0 _ w _ some (at_nw a.level n is) same1 c.in_ok-nw.ensures.drawn in
    let p1 = q1 in
    let s2 = c.draw-2.new.store in
    let same2 = same_ne s0 a.level a.part parts some cut n is s1 p1.grows a.edit.stamp a.edit.area c.of_part-2.result on (below its.ne.now) c.index-parts-1.result cells.ne c.of_part-2.ensures.part in
    let q2 = of_quarter s1 s2 a.level n 0 _ w _ some (at_ne a.level n is) same2 c.in_err-ne.ensures.drawn in
    let p2 = more s0 s1 s2 a.level w _ _ p1 q2 in
    refused s0 s2 a.level w _ _ c.from_residual-in_err-ne.ensures.1 p2

pub draw_anew-returns-in_err-ne-clause-kept : goal.draw_anew-returns-in_err-ne-clause-kept
draw_anew-returns-in_err-ne-clause-kept t c = c.in_err-ne.ensures.kept

pub draw_anew-draw-requires-3 : goal.draw_anew-draw-requires-3
draw_anew-draw-requires-3 t c =
    (quarter_falls c.args.level t (some_level c.args.level c.if-level-eq0.false) c.decreases, (level_below c.args.level c.requires.level, (sw_later c.args.store.now c.draw-2.new.store c.args.level c.args.part c.quarters-parts.result c.quarters-parts.ensures (grown_more plane_grid 8 c.args.store.now c.draw.new.store c.draw-2.new.store c.in_ok-nw.ensures.drawn.grows c.in_ok-ne.ensures.drawn.grows) c.index-parts-2.result, (c.requires.stamp, (quarter_run_below c.args.level 2 c.args.edit.cells.now c.quartered-quarters.result.sw.now (some_level c.args.level c.if-level-eq0.false) c.requires.level c.requires.cells c.quartered-quarters.ensures.sw, c.in_ok-ne.ensures.kept)))))

pub draw_anew-returns-in_err-sw-clause-kept : goal.draw_anew-returns-in_err-sw-clause-kept
draw_anew-returns-in_err-sw-clause-kept t c = c.in_err-sw.ensures.kept

pub draw_anew-draw-requires-4 : goal.draw_anew-draw-requires-4
draw_anew-draw-requires-4 t c =
    (quarter_falls c.args.level t (some_level c.args.level c.if-level-eq0.false) c.decreases, (level_below c.args.level c.requires.level, (se_later c.args.store.now c.draw-3.new.store c.args.level c.args.part c.quarters-parts.result c.quarters-parts.ensures (grown_more plane_grid 8 c.args.store.now c.draw.new.store c.draw-3.new.store c.in_ok-nw.ensures.drawn.grows (grown_more plane_grid 8 c.draw.new.store c.draw-2.new.store c.draw-3.new.store c.in_ok-ne.ensures.drawn.grows c.in_ok-sw.ensures.drawn.grows)) c.index-parts-3.result, (c.requires.stamp, (quarter_run_below c.args.level 3 c.args.edit.cells.now c.quartered-quarters.result.se.now (some_level c.args.level c.if-level-eq0.false) c.requires.level c.requires.cells c.quartered-quarters.ensures.se, c.in_ok-sw.ensures.kept)))))

pub draw_anew-returns-in_err-se-clause-kept : goal.draw_anew-returns-in_err-se-clause-kept
draw_anew-returns-in_err-se-clause-kept t c = c.in_err-se.ensures.kept

pub draw_anew-returns-in_err-drawn-2-clause-kept : goal.draw_anew-returns-in_err-drawn-2-clause-kept
draw_anew-returns-in_err-drawn-2-clause-kept t c = filled_later c.draw-4.new.store c.add_four.new.self c.args.edit.stamp c.draw-4.new.kept c.in_err-drawn-2.ensures.grows c.in_ok-se.ensures.kept

pub draw_anew-add_four-requires-clause-parts : goal.draw_anew-add_four-requires-clause-parts
draw_anew-add_four-requires-clause-parts t c =
    let s1 = c.draw.new.store in
    let s2 = c.draw-2.new.store in
    let s3 = c.draw-3.new.store in
    let s4 = c.draw-4.new.store in
    let k = c.args.level - 1 in
    let nw = c.in_ok-nw in
    let ne = c.in_ok-ne in
    let sw = c.in_ok-sw in
    let se = c.in_ok-se in
    let later = grown_more plane_grid 8 s2 s3 s4 sw.ensures.drawn.grows se.ensures.drawn.grows in
    four_at s4 k nw.nw ne.ne sw.sw se.se ((grown_more plane_grid 8 s1 s2 s4 ne.ensures.drawn.grows later).stands k nw.nw nw.ensures.drawn.draws.stands) (later.stands k ne.ne ne.ensures.drawn.draws.stands) (se.ensures.drawn.grows.stands k sw.sw sw.ensures.drawn.draws.stands) se.ensures.drawn.draws.stands

pub draw_anew-quartered-quarters-requires-clause-cells : goal.draw_anew-quartered-quarters-requires-clause-cells
draw_anew-quartered-quarters-requires-clause-cells t c = subst (λ bit. IsMortonRun bit c.args.edit.cells.now) (three c.args.level) c.requires.cells
  where
    three : (k : ℕ) → k + 3 ≡ k + 2 + 1
    three k = omega arith
