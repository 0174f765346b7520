use Rattle.std.proofs.Common.{ap, Err, ℕ, ◌+◌, ◌-◌, ◌<◌, arith, refl, subst}
use Rattle.std.specs.Prelude.{slice_index_or}
use Rattle.square_store.specs.Pieces.{AddsPiecesOfGrid}
use Rattle.square_store.specs.Squares.{grid_at, side_at}
use Rattle.square_store.specs.Store.{IsStore}
use Rattle.square_store.proofs.Made.{told}
use Rattle.stamped_tree.proofs.Parts.{same_default}
use Rattle.square_store.proofs.Drawn.{grown_more}
use Rattle.generation_engine.specs.EngineLeaf.{IsEngineLeaf, leaf_grid}
use Rattle.generation_engine.specs.Loading.{centred}
use Rattle.square_store.proofs.Counting.{absent_as, adds_more, adds_one}
use Rattle.generation_engine.proofs.Pieces.{absent_kept, adds_still, dead_added, grown_itself, ne_added, no_dead, no_ne, no_nw, no_se, no_sw, nw_added, se_added, sw_added}
use Rattle.generation_engine.proofs.Squares.{full_kept, padded_drawn, padded_parts, padded_same}
use Rattle.generation_engine.proofs.quarters.padded.Goals as goal

pub returns-in_err-dead-clause-full : goal.returns-in_err-dead-clause-full
returns-in_err-dead-clause-full c = λ h. full_kept _ _ c.in_err-dead.ensures.err (c.in_err-dead.ensures.full (ap (λ e. Err e) (told _ _ _ c.from_residual.ensures.1 h)) 0).full

pub returns-in_err-ne-clause-grows : goal.returns-in_err-ne-clause-grows
returns-in_err-ne-clause-grows c = grown_more leaf_grid 8 _ _ _ c.in_ok-dead.ensures.grows (grown_more leaf_grid 8 _ _ _ c.in_ok-nw.ensures.grows c.in_err-ne.ensures.grows)

pub returns-in_err-sw-clause-grows : goal.returns-in_err-sw-clause-grows
returns-in_err-sw-clause-grows c = grown_more leaf_grid 8 _ _ _ c.in_ok-dead.ensures.grows (grown_more leaf_grid 8 _ _ _ c.in_ok-nw.ensures.grows (grown_more leaf_grid 8 _ _ _ c.in_ok-ne.ensures.grows c.in_err-sw.ensures.grows))

pub returns-in_err-se-clause-grows : goal.returns-in_err-se-clause-grows
returns-in_err-se-clause-grows c = grown_more leaf_grid 8 _ _ _ c.in_ok-dead.ensures.grows (grown_more leaf_grid 8 _ _ _ c.in_ok-nw.ensures.grows (grown_more leaf_grid 8 _ _ _ c.in_ok-ne.ensures.grows (grown_more leaf_grid 8 _ _ _ c.in_ok-sw.ensures.grows c.in_err-se.ensures.grows)))

pub returns-in_err-whole-clause-grows : goal.returns-in_err-whole-clause-grows
returns-in_err-whole-clause-grows c =
    grown_more leaf_grid 8 _ _ _ c.in_ok-dead.ensures.grows (grown_more leaf_grid 8 _ _ _ c.in_ok-nw.ensures.grows (grown_more leaf_grid 8 _ _ _ c.in_ok-ne.ensures.grows (grown_more leaf_grid 8 _ _ _ c.in_ok-sw.ensures.grows (grown_more leaf_grid 8 _ _ _ c.in_ok-se.ensures.grows c.in_err-whole.ensures.grows))))

pub returns-clause-grows : goal.returns-clause-grows
returns-clause-grows c =
    grown_more leaf_grid 8 _ _ _ c.in_ok-dead.ensures.grows (grown_more leaf_grid 8 _ _ _ c.in_ok-nw.ensures.grows (grown_more leaf_grid 8 _ _ _ c.in_ok-ne.ensures.grows (grown_more leaf_grid 8 _ _ _ c.in_ok-sw.ensures.grows (grown_more leaf_grid 8 _ _ _ c.in_ok-se.ensures.grows c.in_ok-whole.ensures.grows))))

pub add_four-requires-5-clause-parts : goal.add_four-requires-5-clause-parts
add_four-requires-5-clause-parts c = padded_parts _ _ _ _ c.args.level _ _ _ _ c.in_ok-ne.ensures.grows c.in_ok-sw.ensures.grows c.in_ok-se.ensures.grows
    c.in_ok-nw.ensures.draws.stands c.in_ok-ne.ensures.draws.stands c.in_ok-sw.ensures.draws.stands c.in_ok-se.ensures.draws.stands

pub returns-clause-draws : goal.returns-clause-draws
returns-clause-draws c =
    let part = λ (i d : ℕ) (h : i < 4). same_default c.quarters-quarters.result i d 0 (let l = c.quarters-quarters.ensures.four in omega (arith, h, l)) in
    padded_drawn _ _ _ _ _ _ _ c.args.level c.args.part c.quarters-quarters.result _ _ _ _ _ _ _ _ _ _ c.requires.above c.requires.stands
    c.in_ok-dead.ensures.grows c.in_ok-nw.ensures.grows c.in_ok-ne.ensures.grows c.in_ok-sw.ensures.grows c.in_ok-se.ensures.grows
    c.in_ok-dead.ensures.draws c.quarters-quarters.ensures (part 0 _ (omega arith)) (part 1 _ (omega arith)) (part 2 _ (omega arith)) (part 3 _ (omega arith))
    c.in_ok-nw.ensures.draws c.in_ok-ne.ensures.draws c.in_ok-sw.ensures.draws c.in_ok-se.ensures.draws c.in_ok-whole.ensures.draws

-- ---- what is added, and what a full store lacks

pub returns-in_err-dead-clause-absent : goal.returns-in_err-dead-clause-absent
returns-in_err-dead-clause-absent c =
    λ h is. absent_kept c.args.store.now c.add_blank.new.self (c.args.level + 1) (centred (side_at 8 (c.args.level - 1)) (grid_at leaf_grid 8 c.args.store.now c.args.level c.args.part)) c.in_err-dead.ensures.err
    (no_dead c.args.store.now c.args.level (grid_at leaf_grid 8 c.args.store.now c.args.level c.args.part) c.requires.above (subst (λ s. IsStore leaf_grid 8 IsEngineLeaf s) c.in_err-dead.ensures.err is) (c.in_err-dead.ensures.full (ap (λ e. Err e) (told _ _ _ c.from_residual.ensures.1 h)) (c.args.level - 1)).absent)

pub returns-in_err-nw-clause-pieces : goal.returns-in_err-nw-clause-pieces
returns-in_err-nw-clause-pieces c =
    let part = λ (i d : ℕ) (h : i < 4). same_default c.quarters-quarters.result i d 0 (let l = c.quarters-quarters.ensures.four in omega (arith, h, l)) in
    let one : AddsPiecesOfGrid leaf_grid 8 c.args.store.now c.add_blank.new.self (c.args.level + 1) (centred (side_at 8 (c.args.level - 1)) (grid_at leaf_grid 8 c.args.store.now c.args.level c.args.part)) = dead_added c.args.store.now c.add_blank.new.self c.args.level _ (grid_at leaf_grid 8 c.args.store.now c.args.level c.args.part) c.requires.above c.in_ok-dead.ensures.added c.in_ok-dead.ensures.draws in
    adds_still c.args.store.now c.add_blank.new.self c.add_four.new.self (c.args.level + 1) (centred (side_at 8 (c.args.level - 1)) (grid_at leaf_grid 8 c.args.store.now c.args.level c.args.part)) c.in_err-nw.ensures.err one

pub returns-in_err-nw-clause-absent : goal.returns-in_err-nw-clause-absent
returns-in_err-nw-clause-absent c =
    let part = λ (i d : ℕ) (h : i < 4). same_default c.quarters-quarters.result i d 0 (let l = c.quarters-quarters.ensures.four in omega (arith, h, l)) in
    λ h is. no_nw c.args.store.now c.add_blank.new.self c.args.level c.args.part c.quarters-quarters.result _ (slice_index_or c.quarters-quarters.result 1 0) (slice_index_or c.quarters-quarters.result 2 0) (slice_index_or c.quarters-quarters.result 3 0) _ c.requires.above c.requires.stands c.in_ok-dead.ensures.grows c.in_ok-dead.ensures.draws c.quarters-quarters.ensures (part 0 _ (omega arith)) refl refl refl c.add_blank.new.self (grown_itself c.add_blank.new.self) c.add_four.new.self c.in_err-nw.ensures.err is (c.in_err-nw.ensures.full (ap (λ e. Err e) (told _ _ _ c.from_residual-in_err-nw.ensures.1 h))).absent

pub returns-in_err-ne-clause-pieces : goal.returns-in_err-ne-clause-pieces
returns-in_err-ne-clause-pieces c =
    let part = λ (i d : ℕ) (h : i < 4). same_default c.quarters-quarters.result i d 0 (let l = c.quarters-quarters.ensures.four in omega (arith, h, l)) in
    let one : AddsPiecesOfGrid leaf_grid 8 c.args.store.now c.add_blank.new.self (c.args.level + 1) (centred (side_at 8 (c.args.level - 1)) (grid_at leaf_grid 8 c.args.store.now c.args.level c.args.part)) = dead_added c.args.store.now c.add_blank.new.self c.args.level _ (grid_at leaf_grid 8 c.args.store.now c.args.level c.args.part) c.requires.above c.in_ok-dead.ensures.added c.in_ok-dead.ensures.draws in
    let two : AddsPiecesOfGrid leaf_grid 8 c.args.store.now c.add_four.new.self (c.args.level + 1) (centred (side_at 8 (c.args.level - 1)) (grid_at leaf_grid 8 c.args.store.now c.args.level c.args.part)) = adds_more leaf_grid 8 c.args.store.now c.add_blank.new.self c.add_four.new.self (c.args.level + 1) (centred (side_at 8 (c.args.level - 1)) (grid_at leaf_grid 8 c.args.store.now c.args.level c.args.part)) c.in_ok-nw.ensures.grows one (nw_added c.args.store.now c.add_blank.new.self c.args.level c.args.part c.quarters-quarters.result _ (slice_index_or c.quarters-quarters.result 1 0) (slice_index_or c.quarters-quarters.result 2 0) (slice_index_or c.quarters-quarters.result 3 0) _ c.requires.above c.requires.stands c.in_ok-dead.ensures.grows c.in_ok-dead.ensures.draws c.quarters-quarters.ensures (part 0 _ (omega arith)) refl refl refl c.add_blank.new.self (grown_itself c.add_blank.new.self) c.add_four.new.self _ c.in_ok-nw.ensures.added c.in_ok-nw.ensures.draws) in
    adds_still c.args.store.now c.add_four.new.self c.add_four-2.new.self (c.args.level + 1) (centred (side_at 8 (c.args.level - 1)) (grid_at leaf_grid 8 c.args.store.now c.args.level c.args.part)) c.in_err-ne.ensures.err two

pub returns-in_err-ne-clause-absent : goal.returns-in_err-ne-clause-absent
returns-in_err-ne-clause-absent c =
    let part = λ (i d : ℕ) (h : i < 4). same_default c.quarters-quarters.result i d 0 (let l = c.quarters-quarters.ensures.four in omega (arith, h, l)) in
    λ h is. no_ne c.args.store.now c.add_blank.new.self c.args.level c.args.part c.quarters-quarters.result (slice_index_or c.quarters-quarters.result 0 0) _ (slice_index_or c.quarters-quarters.result 2 0) (slice_index_or c.quarters-quarters.result 3 0) _ c.requires.above c.requires.stands c.in_ok-dead.ensures.grows c.in_ok-dead.ensures.draws c.quarters-quarters.ensures refl (part 1 _ (omega arith)) refl refl c.add_four.new.self c.in_ok-nw.ensures.grows c.add_four-2.new.self c.in_err-ne.ensures.err is (c.in_err-ne.ensures.full (ap (λ e. Err e) (told _ _ _ c.from_residual-in_err-ne.ensures.1 h))).absent

pub returns-in_err-sw-clause-pieces : goal.returns-in_err-sw-clause-pieces
returns-in_err-sw-clause-pieces c =
    let part = λ (i d : ℕ) (h : i < 4). same_default c.quarters-quarters.result i d 0 (let l = c.quarters-quarters.ensures.four in omega (arith, h, l)) in
    let one : AddsPiecesOfGrid leaf_grid 8 c.args.store.now c.add_blank.new.self (c.args.level + 1) (centred (side_at 8 (c.args.level - 1)) (grid_at leaf_grid 8 c.args.store.now c.args.level c.args.part)) = dead_added c.args.store.now c.add_blank.new.self c.args.level _ (grid_at leaf_grid 8 c.args.store.now c.args.level c.args.part) c.requires.above c.in_ok-dead.ensures.added c.in_ok-dead.ensures.draws in
    let two : AddsPiecesOfGrid leaf_grid 8 c.args.store.now c.add_four.new.self (c.args.level + 1) (centred (side_at 8 (c.args.level - 1)) (grid_at leaf_grid 8 c.args.store.now c.args.level c.args.part)) = adds_more leaf_grid 8 c.args.store.now c.add_blank.new.self c.add_four.new.self (c.args.level + 1) (centred (side_at 8 (c.args.level - 1)) (grid_at leaf_grid 8 c.args.store.now c.args.level c.args.part)) c.in_ok-nw.ensures.grows one (nw_added c.args.store.now c.add_blank.new.self c.args.level c.args.part c.quarters-quarters.result _ (slice_index_or c.quarters-quarters.result 1 0) (slice_index_or c.quarters-quarters.result 2 0) (slice_index_or c.quarters-quarters.result 3 0) _ c.requires.above c.requires.stands c.in_ok-dead.ensures.grows c.in_ok-dead.ensures.draws c.quarters-quarters.ensures (part 0 _ (omega arith)) refl refl refl c.add_blank.new.self (grown_itself c.add_blank.new.self) c.add_four.new.self _ c.in_ok-nw.ensures.added c.in_ok-nw.ensures.draws) in
    let three : AddsPiecesOfGrid leaf_grid 8 c.args.store.now c.add_four-2.new.self (c.args.level + 1) (centred (side_at 8 (c.args.level - 1)) (grid_at leaf_grid 8 c.args.store.now c.args.level c.args.part)) = adds_more leaf_grid 8 c.args.store.now c.add_four.new.self c.add_four-2.new.self (c.args.level + 1) (centred (side_at 8 (c.args.level - 1)) (grid_at leaf_grid 8 c.args.store.now c.args.level c.args.part)) c.in_ok-ne.ensures.grows two (ne_added c.args.store.now c.add_blank.new.self c.args.level c.args.part c.quarters-quarters.result (slice_index_or c.quarters-quarters.result 0 0) _ (slice_index_or c.quarters-quarters.result 2 0) (slice_index_or c.quarters-quarters.result 3 0) _ c.requires.above c.requires.stands c.in_ok-dead.ensures.grows c.in_ok-dead.ensures.draws c.quarters-quarters.ensures refl (part 1 _ (omega arith)) refl refl c.add_four.new.self c.in_ok-nw.ensures.grows c.add_four-2.new.self _ c.in_ok-ne.ensures.added c.in_ok-ne.ensures.draws) in
    adds_still c.args.store.now c.add_four-2.new.self c.add_four-3.new.self (c.args.level + 1) (centred (side_at 8 (c.args.level - 1)) (grid_at leaf_grid 8 c.args.store.now c.args.level c.args.part)) c.in_err-sw.ensures.err three

pub returns-in_err-sw-clause-absent : goal.returns-in_err-sw-clause-absent
returns-in_err-sw-clause-absent c =
    let part = λ (i d : ℕ) (h : i < 4). same_default c.quarters-quarters.result i d 0 (let l = c.quarters-quarters.ensures.four in omega (arith, h, l)) in
    λ h is. no_sw c.args.store.now c.add_blank.new.self c.args.level c.args.part c.quarters-quarters.result (slice_index_or c.quarters-quarters.result 0 0) (slice_index_or c.quarters-quarters.result 1 0) _ (slice_index_or c.quarters-quarters.result 3 0) _ c.requires.above c.requires.stands c.in_ok-dead.ensures.grows c.in_ok-dead.ensures.draws c.quarters-quarters.ensures refl refl (part 2 _ (omega arith)) refl c.add_four-2.new.self (grown_more leaf_grid 8 c.add_blank.new.self c.add_four.new.self c.add_four-2.new.self c.in_ok-nw.ensures.grows c.in_ok-ne.ensures.grows) c.add_four-3.new.self c.in_err-sw.ensures.err is (c.in_err-sw.ensures.full (ap (λ e. Err e) (told _ _ _ c.from_residual-in_err-sw.ensures.1 h))).absent

pub returns-in_err-se-clause-pieces : goal.returns-in_err-se-clause-pieces
returns-in_err-se-clause-pieces c =
    let part = λ (i d : ℕ) (h : i < 4). same_default c.quarters-quarters.result i d 0 (let l = c.quarters-quarters.ensures.four in omega (arith, h, l)) in
    let one : AddsPiecesOfGrid leaf_grid 8 c.args.store.now c.add_blank.new.self (c.args.level + 1) (centred (side_at 8 (c.args.level - 1)) (grid_at leaf_grid 8 c.args.store.now c.args.level c.args.part)) = dead_added c.args.store.now c.add_blank.new.self c.args.level _ (grid_at leaf_grid 8 c.args.store.now c.args.level c.args.part) c.requires.above c.in_ok-dead.ensures.added c.in_ok-dead.ensures.draws in
    let two : AddsPiecesOfGrid leaf_grid 8 c.args.store.now c.add_four.new.self (c.args.level + 1) (centred (side_at 8 (c.args.level - 1)) (grid_at leaf_grid 8 c.args.store.now c.args.level c.args.part)) = adds_more leaf_grid 8 c.args.store.now c.add_blank.new.self c.add_four.new.self (c.args.level + 1) (centred (side_at 8 (c.args.level - 1)) (grid_at leaf_grid 8 c.args.store.now c.args.level c.args.part)) c.in_ok-nw.ensures.grows one (nw_added c.args.store.now c.add_blank.new.self c.args.level c.args.part c.quarters-quarters.result _ (slice_index_or c.quarters-quarters.result 1 0) (slice_index_or c.quarters-quarters.result 2 0) (slice_index_or c.quarters-quarters.result 3 0) _ c.requires.above c.requires.stands c.in_ok-dead.ensures.grows c.in_ok-dead.ensures.draws c.quarters-quarters.ensures (part 0 _ (omega arith)) refl refl refl c.add_blank.new.self (grown_itself c.add_blank.new.self) c.add_four.new.self _ c.in_ok-nw.ensures.added c.in_ok-nw.ensures.draws) in
    let three : AddsPiecesOfGrid leaf_grid 8 c.args.store.now c.add_four-2.new.self (c.args.level + 1) (centred (side_at 8 (c.args.level - 1)) (grid_at leaf_grid 8 c.args.store.now c.args.level c.args.part)) = adds_more leaf_grid 8 c.args.store.now c.add_four.new.self c.add_four-2.new.self (c.args.level + 1) (centred (side_at 8 (c.args.level - 1)) (grid_at leaf_grid 8 c.args.store.now c.args.level c.args.part)) c.in_ok-ne.ensures.grows two (ne_added c.args.store.now c.add_blank.new.self c.args.level c.args.part c.quarters-quarters.result (slice_index_or c.quarters-quarters.result 0 0) _ (slice_index_or c.quarters-quarters.result 2 0) (slice_index_or c.quarters-quarters.result 3 0) _ c.requires.above c.requires.stands c.in_ok-dead.ensures.grows c.in_ok-dead.ensures.draws c.quarters-quarters.ensures refl (part 1 _ (omega arith)) refl refl c.add_four.new.self c.in_ok-nw.ensures.grows c.add_four-2.new.self _ c.in_ok-ne.ensures.added c.in_ok-ne.ensures.draws) in
    let four : AddsPiecesOfGrid leaf_grid 8 c.args.store.now c.add_four-3.new.self (c.args.level + 1) (centred (side_at 8 (c.args.level - 1)) (grid_at leaf_grid 8 c.args.store.now c.args.level c.args.part)) = adds_more leaf_grid 8 c.args.store.now c.add_four-2.new.self c.add_four-3.new.self (c.args.level + 1) (centred (side_at 8 (c.args.level - 1)) (grid_at leaf_grid 8 c.args.store.now c.args.level c.args.part)) c.in_ok-sw.ensures.grows three (sw_added c.args.store.now c.add_blank.new.self c.args.level c.args.part c.quarters-quarters.result (slice_index_or c.quarters-quarters.result 0 0) (slice_index_or c.quarters-quarters.result 1 0) _ (slice_index_or c.quarters-quarters.result 3 0) _ c.requires.above c.requires.stands c.in_ok-dead.ensures.grows c.in_ok-dead.ensures.draws c.quarters-quarters.ensures refl refl (part 2 _ (omega arith)) refl c.add_four-2.new.self (grown_more leaf_grid 8 c.add_blank.new.self c.add_four.new.self c.add_four-2.new.self c.in_ok-nw.ensures.grows c.in_ok-ne.ensures.grows) c.add_four-3.new.self _ c.in_ok-sw.ensures.added c.in_ok-sw.ensures.draws) in
    adds_still c.args.store.now c.add_four-3.new.self c.add_four-4.new.self (c.args.level + 1) (centred (side_at 8 (c.args.level - 1)) (grid_at leaf_grid 8 c.args.store.now c.args.level c.args.part)) c.in_err-se.ensures.err four

pub returns-in_err-se-clause-absent : goal.returns-in_err-se-clause-absent
returns-in_err-se-clause-absent c =
    let part = λ (i d : ℕ) (h : i < 4). same_default c.quarters-quarters.result i d 0 (let l = c.quarters-quarters.ensures.four in omega (arith, h, l)) in
    λ h is. no_se c.args.store.now c.add_blank.new.self c.args.level c.args.part c.quarters-quarters.result (slice_index_or c.quarters-quarters.result 0 0) (slice_index_or c.quarters-quarters.result 1 0) (slice_index_or c.quarters-quarters.result 2 0) _ _ c.requires.above c.requires.stands c.in_ok-dead.ensures.grows c.in_ok-dead.ensures.draws c.quarters-quarters.ensures refl refl refl (part 3 _ (omega arith)) c.add_four-3.new.self (grown_more leaf_grid 8 c.add_blank.new.self c.add_four-2.new.self c.add_four-3.new.self (grown_more leaf_grid 8 c.add_blank.new.self c.add_four.new.self c.add_four-2.new.self c.in_ok-nw.ensures.grows c.in_ok-ne.ensures.grows) c.in_ok-sw.ensures.grows) c.add_four-4.new.self c.in_err-se.ensures.err is (c.in_err-se.ensures.full (ap (λ e. Err e) (told _ _ _ c.from_residual-in_err-se.ensures.1 h))).absent

pub returns-in_err-whole-clause-pieces : goal.returns-in_err-whole-clause-pieces
returns-in_err-whole-clause-pieces c =
    let part = λ (i d : ℕ) (h : i < 4). same_default c.quarters-quarters.result i d 0 (let l = c.quarters-quarters.ensures.four in omega (arith, h, l)) in
    let one : AddsPiecesOfGrid leaf_grid 8 c.args.store.now c.add_blank.new.self (c.args.level + 1) (centred (side_at 8 (c.args.level - 1)) (grid_at leaf_grid 8 c.args.store.now c.args.level c.args.part)) = dead_added c.args.store.now c.add_blank.new.self c.args.level _ (grid_at leaf_grid 8 c.args.store.now c.args.level c.args.part) c.requires.above c.in_ok-dead.ensures.added c.in_ok-dead.ensures.draws in
    let two : AddsPiecesOfGrid leaf_grid 8 c.args.store.now c.add_four.new.self (c.args.level + 1) (centred (side_at 8 (c.args.level - 1)) (grid_at leaf_grid 8 c.args.store.now c.args.level c.args.part)) = adds_more leaf_grid 8 c.args.store.now c.add_blank.new.self c.add_four.new.self (c.args.level + 1) (centred (side_at 8 (c.args.level - 1)) (grid_at leaf_grid 8 c.args.store.now c.args.level c.args.part)) c.in_ok-nw.ensures.grows one (nw_added c.args.store.now c.add_blank.new.self c.args.level c.args.part c.quarters-quarters.result _ (slice_index_or c.quarters-quarters.result 1 0) (slice_index_or c.quarters-quarters.result 2 0) (slice_index_or c.quarters-quarters.result 3 0) _ c.requires.above c.requires.stands c.in_ok-dead.ensures.grows c.in_ok-dead.ensures.draws c.quarters-quarters.ensures (part 0 _ (omega arith)) refl refl refl c.add_blank.new.self (grown_itself c.add_blank.new.self) c.add_four.new.self _ c.in_ok-nw.ensures.added c.in_ok-nw.ensures.draws) in
    let three : AddsPiecesOfGrid leaf_grid 8 c.args.store.now c.add_four-2.new.self (c.args.level + 1) (centred (side_at 8 (c.args.level - 1)) (grid_at leaf_grid 8 c.args.store.now c.args.level c.args.part)) = adds_more leaf_grid 8 c.args.store.now c.add_four.new.self c.add_four-2.new.self (c.args.level + 1) (centred (side_at 8 (c.args.level - 1)) (grid_at leaf_grid 8 c.args.store.now c.args.level c.args.part)) c.in_ok-ne.ensures.grows two (ne_added c.args.store.now c.add_blank.new.self c.args.level c.args.part c.quarters-quarters.result (slice_index_or c.quarters-quarters.result 0 0) _ (slice_index_or c.quarters-quarters.result 2 0) (slice_index_or c.quarters-quarters.result 3 0) _ c.requires.above c.requires.stands c.in_ok-dead.ensures.grows c.in_ok-dead.ensures.draws c.quarters-quarters.ensures refl (part 1 _ (omega arith)) refl refl c.add_four.new.self c.in_ok-nw.ensures.grows c.add_four-2.new.self _ c.in_ok-ne.ensures.added c.in_ok-ne.ensures.draws) in
    let four : AddsPiecesOfGrid leaf_grid 8 c.args.store.now c.add_four-3.new.self (c.args.level + 1) (centred (side_at 8 (c.args.level - 1)) (grid_at leaf_grid 8 c.args.store.now c.args.level c.args.part)) = adds_more leaf_grid 8 c.args.store.now c.add_four-2.new.self c.add_four-3.new.self (c.args.level + 1) (centred (side_at 8 (c.args.level - 1)) (grid_at leaf_grid 8 c.args.store.now c.args.level c.args.part)) c.in_ok-sw.ensures.grows three (sw_added c.args.store.now c.add_blank.new.self c.args.level c.args.part c.quarters-quarters.result (slice_index_or c.quarters-quarters.result 0 0) (slice_index_or c.quarters-quarters.result 1 0) _ (slice_index_or c.quarters-quarters.result 3 0) _ c.requires.above c.requires.stands c.in_ok-dead.ensures.grows c.in_ok-dead.ensures.draws c.quarters-quarters.ensures refl refl (part 2 _ (omega arith)) refl c.add_four-2.new.self (grown_more leaf_grid 8 c.add_blank.new.self c.add_four.new.self c.add_four-2.new.self c.in_ok-nw.ensures.grows c.in_ok-ne.ensures.grows) c.add_four-3.new.self _ c.in_ok-sw.ensures.added c.in_ok-sw.ensures.draws) in
    let five : AddsPiecesOfGrid leaf_grid 8 c.args.store.now c.add_four-4.new.self (c.args.level + 1) (centred (side_at 8 (c.args.level - 1)) (grid_at leaf_grid 8 c.args.store.now c.args.level c.args.part)) = adds_more leaf_grid 8 c.args.store.now c.add_four-3.new.self c.add_four-4.new.self (c.args.level + 1) (centred (side_at 8 (c.args.level - 1)) (grid_at leaf_grid 8 c.args.store.now c.args.level c.args.part)) c.in_ok-se.ensures.grows four (se_added c.args.store.now c.add_blank.new.self c.args.level c.args.part c.quarters-quarters.result (slice_index_or c.quarters-quarters.result 0 0) (slice_index_or c.quarters-quarters.result 1 0) (slice_index_or c.quarters-quarters.result 2 0) _ _ c.requires.above c.requires.stands c.in_ok-dead.ensures.grows c.in_ok-dead.ensures.draws c.quarters-quarters.ensures refl refl refl (part 3 _ (omega arith)) c.add_four-3.new.self (grown_more leaf_grid 8 c.add_blank.new.self c.add_four-2.new.self c.add_four-3.new.self (grown_more leaf_grid 8 c.add_blank.new.self c.add_four.new.self c.add_four-2.new.self c.in_ok-nw.ensures.grows c.in_ok-ne.ensures.grows) c.in_ok-sw.ensures.grows) c.add_four-4.new.self _ c.in_ok-se.ensures.added c.in_ok-se.ensures.draws) in
    adds_still c.args.store.now c.add_four-4.new.self c.add_four-5.new.self (c.args.level + 1) (centred (side_at 8 (c.args.level - 1)) (grid_at leaf_grid 8 c.args.store.now c.args.level c.args.part)) c.in_err-whole.ensures.err five

pub returns-in_err-whole-clause-absent : goal.returns-in_err-whole-clause-absent
returns-in_err-whole-clause-absent c =
    let part = λ (i d : ℕ) (h : i < 4). same_default c.quarters-quarters.result i d 0 (let l = c.quarters-quarters.ensures.four in omega (arith, h, l)) in
    λ h is. absent_kept c.add_four-4.new.self c.add_four-5.new.self (c.args.level + 1) (centred (side_at 8 (c.args.level - 1)) (grid_at leaf_grid 8 c.args.store.now c.args.level c.args.part)) c.in_err-whole.ensures.err (absent_as leaf_grid 8 c.add_four-4.new.self (c.args.level + 1) _ (centred (side_at 8 (c.args.level - 1)) (grid_at leaf_grid 8 c.args.store.now c.args.level c.args.part))
    (padded_same c.args.store.now c.add_blank.new.self c.add_four.new.self c.add_four-2.new.self c.add_four-3.new.self c.add_four-4.new.self c.add_four-4.new.self c.args.level c.args.part c.quarters-quarters.result _ _ _ _ _ _ _ _ _ 0 c.requires.above c.requires.stands c.in_ok-dead.ensures.grows c.in_ok-nw.ensures.grows c.in_ok-ne.ensures.grows c.in_ok-sw.ensures.grows c.in_ok-se.ensures.grows
    c.in_ok-dead.ensures.draws c.quarters-quarters.ensures (part 0 _ (omega arith)) (part 1 _ (omega arith)) (part 2 _ (omega arith)) (part 3 _ (omega arith))
    c.in_ok-nw.ensures.draws c.in_ok-ne.ensures.draws c.in_ok-sw.ensures.draws c.in_ok-se.ensures.draws)
    (c.in_err-whole.ensures.full (ap (λ e. Err e) (told _ _ _ c.from_residual-in_err-whole.ensures.1 h))).absent)

pub returns-clause-pieces : goal.returns-clause-pieces
returns-clause-pieces c =
    let part = λ (i d : ℕ) (h : i < 4). same_default c.quarters-quarters.result i d 0 (let l = c.quarters-quarters.ensures.four in omega (arith, h, l)) in
    let one : AddsPiecesOfGrid leaf_grid 8 c.args.store.now c.add_blank.new.self (c.args.level + 1) (centred (side_at 8 (c.args.level - 1)) (grid_at leaf_grid 8 c.args.store.now c.args.level c.args.part)) = dead_added c.args.store.now c.add_blank.new.self c.args.level _ (grid_at leaf_grid 8 c.args.store.now c.args.level c.args.part) c.requires.above c.in_ok-dead.ensures.added c.in_ok-dead.ensures.draws in
    let two : AddsPiecesOfGrid leaf_grid 8 c.args.store.now c.add_four.new.self (c.args.level + 1) (centred (side_at 8 (c.args.level - 1)) (grid_at leaf_grid 8 c.args.store.now c.args.level c.args.part)) = adds_more leaf_grid 8 c.args.store.now c.add_blank.new.self c.add_four.new.self (c.args.level + 1) (centred (side_at 8 (c.args.level - 1)) (grid_at leaf_grid 8 c.args.store.now c.args.level c.args.part)) c.in_ok-nw.ensures.grows one (nw_added c.args.store.now c.add_blank.new.self c.args.level c.args.part c.quarters-quarters.result _ (slice_index_or c.quarters-quarters.result 1 0) (slice_index_or c.quarters-quarters.result 2 0) (slice_index_or c.quarters-quarters.result 3 0) _ c.requires.above c.requires.stands c.in_ok-dead.ensures.grows c.in_ok-dead.ensures.draws c.quarters-quarters.ensures (part 0 _ (omega arith)) refl refl refl c.add_blank.new.self (grown_itself c.add_blank.new.self) c.add_four.new.self _ c.in_ok-nw.ensures.added c.in_ok-nw.ensures.draws) in
    let three : AddsPiecesOfGrid leaf_grid 8 c.args.store.now c.add_four-2.new.self (c.args.level + 1) (centred (side_at 8 (c.args.level - 1)) (grid_at leaf_grid 8 c.args.store.now c.args.level c.args.part)) = adds_more leaf_grid 8 c.args.store.now c.add_four.new.self c.add_four-2.new.self (c.args.level + 1) (centred (side_at 8 (c.args.level - 1)) (grid_at leaf_grid 8 c.args.store.now c.args.level c.args.part)) c.in_ok-ne.ensures.grows two (ne_added c.args.store.now c.add_blank.new.self c.args.level c.args.part c.quarters-quarters.result (slice_index_or c.quarters-quarters.result 0 0) _ (slice_index_or c.quarters-quarters.result 2 0) (slice_index_or c.quarters-quarters.result 3 0) _ c.requires.above c.requires.stands c.in_ok-dead.ensures.grows c.in_ok-dead.ensures.draws c.quarters-quarters.ensures refl (part 1 _ (omega arith)) refl refl c.add_four.new.self c.in_ok-nw.ensures.grows c.add_four-2.new.self _ c.in_ok-ne.ensures.added c.in_ok-ne.ensures.draws) in
    let four : AddsPiecesOfGrid leaf_grid 8 c.args.store.now c.add_four-3.new.self (c.args.level + 1) (centred (side_at 8 (c.args.level - 1)) (grid_at leaf_grid 8 c.args.store.now c.args.level c.args.part)) = adds_more leaf_grid 8 c.args.store.now c.add_four-2.new.self c.add_four-3.new.self (c.args.level + 1) (centred (side_at 8 (c.args.level - 1)) (grid_at leaf_grid 8 c.args.store.now c.args.level c.args.part)) c.in_ok-sw.ensures.grows three (sw_added c.args.store.now c.add_blank.new.self c.args.level c.args.part c.quarters-quarters.result (slice_index_or c.quarters-quarters.result 0 0) (slice_index_or c.quarters-quarters.result 1 0) _ (slice_index_or c.quarters-quarters.result 3 0) _ c.requires.above c.requires.stands c.in_ok-dead.ensures.grows c.in_ok-dead.ensures.draws c.quarters-quarters.ensures refl refl (part 2 _ (omega arith)) refl c.add_four-2.new.self (grown_more leaf_grid 8 c.add_blank.new.self c.add_four.new.self c.add_four-2.new.self c.in_ok-nw.ensures.grows c.in_ok-ne.ensures.grows) c.add_four-3.new.self _ c.in_ok-sw.ensures.added c.in_ok-sw.ensures.draws) in
    let five : AddsPiecesOfGrid leaf_grid 8 c.args.store.now c.add_four-4.new.self (c.args.level + 1) (centred (side_at 8 (c.args.level - 1)) (grid_at leaf_grid 8 c.args.store.now c.args.level c.args.part)) = adds_more leaf_grid 8 c.args.store.now c.add_four-3.new.self c.add_four-4.new.self (c.args.level + 1) (centred (side_at 8 (c.args.level - 1)) (grid_at leaf_grid 8 c.args.store.now c.args.level c.args.part)) c.in_ok-se.ensures.grows four (se_added c.args.store.now c.add_blank.new.self c.args.level c.args.part c.quarters-quarters.result (slice_index_or c.quarters-quarters.result 0 0) (slice_index_or c.quarters-quarters.result 1 0) (slice_index_or c.quarters-quarters.result 2 0) _ _ c.requires.above c.requires.stands c.in_ok-dead.ensures.grows c.in_ok-dead.ensures.draws c.quarters-quarters.ensures refl refl refl (part 3 _ (omega arith)) c.add_four-3.new.self (grown_more leaf_grid 8 c.add_blank.new.self c.add_four-2.new.self c.add_four-3.new.self (grown_more leaf_grid 8 c.add_blank.new.self c.add_four.new.self c.add_four-2.new.self c.in_ok-nw.ensures.grows c.in_ok-ne.ensures.grows) c.in_ok-sw.ensures.grows) c.add_four-4.new.self _ c.in_ok-se.ensures.added c.in_ok-se.ensures.draws) in
    adds_more leaf_grid 8 c.args.store.now c.add_four-4.new.self c.add_four-5.new.self (c.args.level + 1) (centred (side_at 8 (c.args.level - 1)) (grid_at leaf_grid 8 c.args.store.now c.args.level c.args.part)) c.in_ok-whole.ensures.grows five (adds_one leaf_grid 8 c.add_four-4.new.self c.add_four-5.new.self (c.args.level + 1) (c.args.level + 1) _ (centred (side_at 8 (c.args.level - 1)) (grid_at leaf_grid 8 c.args.store.now c.args.level c.args.part)) _ c.in_ok-whole.ensures.added (returns-clause-draws c))

-- ---- no result is new

pub returns-in_err-ne-clause-firsts : goal.returns-in_err-ne-clause-firsts
returns-in_err-ne-clause-firsts c = λ p x e. c.in_ok-dead.ensures.firsts p x (c.in_ok-nw.ensures.firsts p x (c.in_err-ne.ensures.firsts p x e))

pub returns-in_err-sw-clause-firsts : goal.returns-in_err-sw-clause-firsts
returns-in_err-sw-clause-firsts c = λ p x e. c.in_ok-dead.ensures.firsts p x (c.in_ok-nw.ensures.firsts p x (c.in_ok-ne.ensures.firsts p x (c.in_err-sw.ensures.firsts p x e)))

pub returns-in_err-se-clause-firsts : goal.returns-in_err-se-clause-firsts
returns-in_err-se-clause-firsts c = λ p x e. c.in_ok-dead.ensures.firsts p x (c.in_ok-nw.ensures.firsts p x (c.in_ok-ne.ensures.firsts p x (c.in_ok-sw.ensures.firsts p x (c.in_err-se.ensures.firsts p x e))))

pub returns-in_err-whole-clause-firsts : goal.returns-in_err-whole-clause-firsts
returns-in_err-whole-clause-firsts c = λ p x e. c.in_ok-dead.ensures.firsts p x (c.in_ok-nw.ensures.firsts p x (c.in_ok-ne.ensures.firsts p x (c.in_ok-sw.ensures.firsts p x (c.in_ok-se.ensures.firsts p x (c.in_err-whole.ensures.firsts p x e)))))

pub returns-clause-firsts : goal.returns-clause-firsts
returns-clause-firsts c = λ p x e. c.in_ok-dead.ensures.firsts p x (c.in_ok-nw.ensures.firsts p x (c.in_ok-ne.ensures.firsts p x (c.in_ok-sw.ensures.firsts p x (c.in_ok-se.ensures.firsts p x (c.in_ok-whole.ensures.firsts p x e)))))

pub returns-in_err-nw-clause-firsts : goal.returns-in_err-nw-clause-firsts
returns-in_err-nw-clause-firsts c = λ p x e. c.in_ok-dead.ensures.firsts p x (c.in_err-nw.ensures.firsts p x e)
