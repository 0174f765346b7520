use Rattle.std.proofs.Common.{ap, Err, sym, ◌∙◌, ◌-◌}
use Rattle.square_store.proofs.Made.{told}
use Rattle.generation_engine.proofs.Bringing.{all_later, all_noted, blank_brought, leaf_brought, four_stand, four_same, four_brought, all_moved, moved_source, states_listed, some_above, above_leaves, nw_seen, ne_seen, sw_seen, se_seen, bring_falls}
use Rattle.square_store.proofs.Drawn.{grown_more, none_more}
use Rattle.generation_engine.specs.EngineLeaf.{leaf_grid, IsEngineLeaf}
use Rattle.generation_engine.proofs.Squares.{full_kept}
use Rattle.square_store.proofs.Counting.{absent_as, adds_all, adds_more, adds_nothing, adds_nw, adds_one, adds_three, adds_two, lacks_ne, lacks_nw, lacks_se, lacks_sw}
use Rattle.generation_engine.specs.Loading.{states_of_square}
use Rattle.generation_engine.proofs.Pieces.{absent_kept, blank_absent, leaf_absent, quarters_seen}
use Rattle.generation_engine.proofs.load.+bring.Goals as goal

pub returns-in-Some-clause-part : goal.returns-in-Some-clause-part
returns-in-Some-clause-part t c = rw (← c.part-part.ensures) (c.requires.brought.each c.part-part.result c.in-Some.there.now (sym c.in-Some.ensures.value))

pub returns-in_err-dead-in-Blank-clause-full : goal.returns-in_err-dead-in-Blank-clause-full
returns-in_err-dead-in-Blank-clause-full t c = λ h. full_kept _ _ c.in_err-dead-in-Blank.ensures.err (c.in_err-dead-in-Blank.ensures.full (ap (λ e. Err e) (told _ _ _ c.from_residual.ensures.1 h)) 0).full

pub returns-in_ok-dead-in-Blank-clause-brought : goal.returns-in_ok-dead-in-Blank-clause-brought
returns-in_ok-dead-in-Blank-clause-brought t c = all_later _ _ _ _ c.in_ok-dead-in-Blank.ensures.grows c.requires.brought

pub returns-in_ok-dead-in-Blank-clause-part : goal.returns-in_ok-dead-in-Blank-clause-part
returns-in_ok-dead-in-Blank-clause-part t c = blank_brought _ _ c.in-Blank.field-0 _ _ c.in-Blank.ensures c.in_ok-dead-in-Blank.ensures.draws

pub returns-in_ok-note-in-Leaf-clause-brought : goal.returns-in_ok-note-in-Leaf-clause-brought
returns-in_ok-note-in-Leaf-clause-brought t c =
    let brought = leaf_brought c.args.square.now.store c.add_leaf.new.self _ c.states_of_leaf.result c.args.square.now.part c.in_ok-there-in-Leaf.there
    (states_listed c.in-Leaf.leaf.now _ c.in-Leaf.ensures.0 c.states_of_leaf.ensures) c.in-Leaf.ensures.1 c.in_ok-there-in-Leaf.ensures.draws in
    all_noted _ _ _ _ _ _ (all_later _ _ _ _ c.in_ok-there-in-Leaf.ensures.grows c.requires.brought) brought (rw c.part-part.ensures at c.in_ok-note-in-Leaf.ensures)

pub add_four-requires-clause-parts : goal.add_four-requires-clause-parts
add_four-requires-clause-parts t c =
    let seen = c.in-Four.ensures in
    four_stand c.args.square.now c.in-Four.nw c.in-Four.ne c.in-Four.sw c.in-Four.se c.bring.new.target c.bring-in-Four.new.target c.bring-in-Four-2.new.target c.bring-in-Four-3.new.target c.args.target.now c.args.level _ _ _ _ 0 seen c.requires.square
    c.in_ok-ne-in-Four.ensures.grows c.in_ok-sw-in-Four.ensures.grows c.in_ok-se-in-Four.ensures.grows
    (moved_source _ _ _ _ _ seen.nw_store c.in_ok-nw-in-Four.ensures.part) (moved_source _ _ _ _ _ seen.ne_store c.in_ok-ne-in-Four.ensures.part)
    (moved_source _ _ _ _ _ seen.sw_store c.in_ok-sw-in-Four.ensures.part) (moved_source _ _ _ _ _ seen.se_store c.in_ok-se-in-Four.ensures.part)

pub returns-in_err-there-in-Four-clause-grows : goal.returns-in_err-there-in-Four-clause-grows
returns-in_err-there-in-Four-clause-grows t c =
    grown_more leaf_grid 8 _ _ _ c.in_ok-nw-in-Four.ensures.grows (grown_more leaf_grid 8 _ _ _ c.in_ok-ne-in-Four.ensures.grows (grown_more leaf_grid 8 _ _ _ c.in_ok-sw-in-Four.ensures.grows (grown_more leaf_grid 8 _ _ _ c.in_ok-se-in-Four.ensures.grows c.in_err-there-in-Four.ensures.grows)))

pub returns-in_ok-note-in-Four-clause-part : goal.returns-in_ok-note-in-Four-clause-part
returns-in_ok-note-in-Four-clause-part t c =
    let seen = c.in-Four.ensures in
    four_brought c.args.square.now c.in-Four.nw c.in-Four.ne c.in-Four.sw c.in-Four.se c.bring.new.target c.bring-in-Four.new.target c.bring-in-Four-2.new.target c.bring-in-Four-3.new.target c.add_four.new.self c.args.level _ _ _ _ _ seen c.requires.square
    c.in_ok-ne-in-Four.ensures.grows c.in_ok-sw-in-Four.ensures.grows c.in_ok-se-in-Four.ensures.grows
    (moved_source _ _ _ _ _ seen.nw_store c.in_ok-nw-in-Four.ensures.part) (moved_source _ _ _ _ _ seen.ne_store c.in_ok-ne-in-Four.ensures.part)
    (moved_source _ _ _ _ _ seen.sw_store c.in_ok-sw-in-Four.ensures.part) (moved_source _ _ _ _ _ seen.se_store c.in_ok-se-in-Four.ensures.part)
    c.in_ok-there-in-Four.ensures.draws

pub returns-in_ok-note-in-Four-clause-brought : goal.returns-in_ok-note-in-Four-clause-brought
returns-in_ok-note-in-Four-clause-brought t c =
    let seen = c.in-Four.ensures in
    let now = all_moved _ _ _ _ seen.se_store c.in_ok-se-in-Four.ensures.brought in
    all_noted _ _ _ _ _ _ (all_later _ _ _ _ c.in_ok-there-in-Four.ensures.grows now) (returns-in_ok-note-in-Four-clause-part t c) (rw c.part-part.ensures at c.in_ok-note-in-Four.ensures)

pub overflow_sub-level : goal.overflow_sub-level
overflow_sub-level t c = above_leaves c.args.square.now c.in-Four.nw c.in-Four.ne c.in-Four.sw c.in-Four.se c.args.level c.in-Four.ensures c.requires.square

pub bring-requires : goal.bring-requires
bring-requires t c =
    (bring_falls c.args.level t (above_leaves c.args.square.now c.in-Four.nw c.in-Four.ne c.in-Four.sw c.in-Four.se c.args.level c.in-Four.ensures c.requires.square) c.decreases, (nw_seen c.args.square.now c.in-Four.nw c.in-Four.ne c.in-Four.sw c.in-Four.se c.args.level c.in-Four.ensures c.requires.square, all_moved _ _ _ _ (sym c.in-Four.ensures.nw_store) c.requires.brought))

pub returns-in_err-nw-in-Four-clause-grows : goal.returns-in_err-nw-in-Four-clause-grows
returns-in_err-nw-in-Four-clause-grows t c = c.in_err-nw-in-Four.ensures.grows

pub returns-in_err-nw-in-Four-clause-full : goal.returns-in_err-nw-in-Four-clause-full
returns-in_err-nw-in-Four-clause-full t c = λ e. c.in_err-nw-in-Four.ensures.full (ap (λ e. Err e) (told _ _ _ c.from_residual-in_err-nw-in-Four.ensures.1 e))

pub overflow_sub-level-in-Four : goal.overflow_sub-level-in-Four
overflow_sub-level-in-Four t c = above_leaves c.args.square.now c.in-Four.nw c.in-Four.ne c.in-Four.sw c.in-Four.se c.args.level c.in-Four.ensures c.requires.square

pub bring-requires-in-Four : goal.bring-requires-in-Four
bring-requires-in-Four t c =
    (bring_falls c.args.level t (above_leaves c.args.square.now c.in-Four.nw c.in-Four.ne c.in-Four.sw c.in-Four.se c.args.level c.in-Four.ensures c.requires.square) c.decreases, (ne_seen c.args.square.now c.in-Four.nw c.in-Four.ne c.in-Four.sw c.in-Four.se c.args.level c.in-Four.ensures c.requires.square, all_moved _ _ _ _ (c.in-Four.ensures.nw_store ∙ sym c.in-Four.ensures.ne_store) c.in_ok-nw-in-Four.ensures.brought))

pub returns-in_err-ne-in-Four-clause-grows : goal.returns-in_err-ne-in-Four-clause-grows
returns-in_err-ne-in-Four-clause-grows t c = grown_more leaf_grid 8 c.args.target.now c.bring.new.target c.bring-in-Four.new.target c.in_ok-nw-in-Four.ensures.grows c.in_err-ne-in-Four.ensures.grows

pub returns-in_err-ne-in-Four-clause-full : goal.returns-in_err-ne-in-Four-clause-full
returns-in_err-ne-in-Four-clause-full t c = λ e. c.in_err-ne-in-Four.ensures.full (ap (λ e. Err e) (told _ _ _ c.from_residual-in_err-ne-in-Four.ensures.1 e))

pub overflow_sub-level-in-Four-2 : goal.overflow_sub-level-in-Four-2
overflow_sub-level-in-Four-2 t c = above_leaves c.args.square.now c.in-Four.nw c.in-Four.ne c.in-Four.sw c.in-Four.se c.args.level c.in-Four.ensures c.requires.square

pub bring-requires-in-Four-2 : goal.bring-requires-in-Four-2
bring-requires-in-Four-2 t c =
    (bring_falls c.args.level t (above_leaves c.args.square.now c.in-Four.nw c.in-Four.ne c.in-Four.sw c.in-Four.se c.args.level c.in-Four.ensures c.requires.square) c.decreases, (sw_seen c.args.square.now c.in-Four.nw c.in-Four.ne c.in-Four.sw c.in-Four.se c.args.level c.in-Four.ensures c.requires.square, all_moved _ _ _ _ (c.in-Four.ensures.ne_store ∙ sym c.in-Four.ensures.sw_store) c.in_ok-ne-in-Four.ensures.brought))

pub returns-in_err-sw-in-Four-clause-grows : goal.returns-in_err-sw-in-Four-clause-grows
returns-in_err-sw-in-Four-clause-grows t c = grown_more leaf_grid 8 c.args.target.now c.bring.new.target c.bring-in-Four-2.new.target c.in_ok-nw-in-Four.ensures.grows (grown_more leaf_grid 8 c.bring.new.target c.bring-in-Four.new.target c.bring-in-Four-2.new.target c.in_ok-ne-in-Four.ensures.grows c.in_err-sw-in-Four.ensures.grows)

pub returns-in_err-sw-in-Four-clause-full : goal.returns-in_err-sw-in-Four-clause-full
returns-in_err-sw-in-Four-clause-full t c = λ e. c.in_err-sw-in-Four.ensures.full (ap (λ e. Err e) (told _ _ _ c.from_residual-in_err-sw-in-Four.ensures.1 e))

pub overflow_sub-level-in-Four-3 : goal.overflow_sub-level-in-Four-3
overflow_sub-level-in-Four-3 t c = above_leaves c.args.square.now c.in-Four.nw c.in-Four.ne c.in-Four.sw c.in-Four.se c.args.level c.in-Four.ensures c.requires.square

pub bring-requires-in-Four-3 : goal.bring-requires-in-Four-3
bring-requires-in-Four-3 t c =
    (bring_falls c.args.level t (above_leaves c.args.square.now c.in-Four.nw c.in-Four.ne c.in-Four.sw c.in-Four.se c.args.level c.in-Four.ensures c.requires.square) c.decreases, (se_seen c.args.square.now c.in-Four.nw c.in-Four.ne c.in-Four.sw c.in-Four.se c.args.level c.in-Four.ensures c.requires.square, all_moved _ _ _ _ (c.in-Four.ensures.sw_store ∙ sym c.in-Four.ensures.se_store) c.in_ok-sw-in-Four.ensures.brought))

pub returns-in_err-se-in-Four-clause-grows : goal.returns-in_err-se-in-Four-clause-grows
returns-in_err-se-in-Four-clause-grows t c = grown_more leaf_grid 8 c.args.target.now c.bring.new.target c.bring-in-Four-3.new.target c.in_ok-nw-in-Four.ensures.grows (grown_more leaf_grid 8 c.bring.new.target c.bring-in-Four.new.target c.bring-in-Four-3.new.target c.in_ok-ne-in-Four.ensures.grows (grown_more leaf_grid 8 c.bring-in-Four.new.target c.bring-in-Four-2.new.target c.bring-in-Four-3.new.target c.in_ok-sw-in-Four.ensures.grows c.in_err-se-in-Four.ensures.grows))

pub returns-in_err-se-in-Four-clause-full : goal.returns-in_err-se-in-Four-clause-full
returns-in_err-se-in-Four-clause-full t c = λ e. c.in_err-se-in-Four.ensures.full (ap (λ e. Err e) (told _ _ _ c.from_residual-in_err-se-in-Four.ensures.1 e))

pub add_four-requires-clause-level : goal.add_four-requires-clause-level
add_four-requires-clause-level t c = some_above c.args.square.now c.in-Four.nw c.in-Four.ne c.in-Four.sw c.in-Four.se c.args.level c.in-Four.ensures c.requires.square

pub returns-in_ok-note-in-Four-clause-grows : goal.returns-in_ok-note-in-Four-clause-grows
returns-in_ok-note-in-Four-clause-grows t c = grown_more leaf_grid 8 c.args.target.now c.bring.new.target c.add_four.new.self c.in_ok-nw-in-Four.ensures.grows (grown_more leaf_grid 8 c.bring.new.target c.bring-in-Four.new.target c.add_four.new.self c.in_ok-ne-in-Four.ensures.grows (grown_more leaf_grid 8 c.bring-in-Four.new.target c.bring-in-Four-2.new.target c.add_four.new.self c.in_ok-sw-in-Four.ensures.grows (grown_more leaf_grid 8 c.bring-in-Four-2.new.target c.bring-in-Four-3.new.target c.add_four.new.self c.in_ok-se-in-Four.ensures.grows c.in_ok-there-in-Four.ensures.grows)))

pub returns-in_err-note-in-Four-clause-grows : goal.returns-in_err-note-in-Four-clause-grows
returns-in_err-note-in-Four-clause-grows t c = grown_more leaf_grid 8 c.args.target.now c.bring.new.target c.add_four.new.self c.in_ok-nw-in-Four.ensures.grows (grown_more leaf_grid 8 c.bring.new.target c.bring-in-Four.new.target c.add_four.new.self c.in_ok-ne-in-Four.ensures.grows (grown_more leaf_grid 8 c.bring-in-Four.new.target c.bring-in-Four-2.new.target c.add_four.new.self c.in_ok-sw-in-Four.ensures.grows (grown_more leaf_grid 8 c.bring-in-Four-2.new.target c.bring-in-Four-3.new.target c.add_four.new.self c.in_ok-se-in-Four.ensures.grows c.in_ok-there-in-Four.ensures.grows)))

pub returns-in_err-there-in-Four-clause-full : goal.returns-in_err-there-in-Four-clause-full
returns-in_err-there-in-Four-clause-full t c = λ h. full_kept _ _ c.in_err-there-in-Four.ensures.err (c.in_err-there-in-Four.ensures.full (ap (λ e. Err e) (told _ _ _ c.from_residual-in_err-there-in-Four.ensures.1 h))).full

pub returns-in_err-there-in-Leaf-clause-full : goal.returns-in_err-there-in-Leaf-clause-full
returns-in_err-there-in-Leaf-clause-full t c = λ h. full_kept _ _ c.in_err-there-in-Leaf.ensures.err (c.in_err-there-in-Leaf.ensures.full (ap (λ e. Err e) (told _ _ _ c.from_residual-in_err-there-in-Leaf.ensures.1 h))).full

pub returns-in_err-there-in-Leaf-clause-grows : goal.returns-in_err-there-in-Leaf-clause-grows
returns-in_err-there-in-Leaf-clause-grows t c = c.in_err-there-in-Leaf.ensures.grows

pub returns-in_err-note-in-Leaf-clause-grows : goal.returns-in_err-note-in-Leaf-clause-grows
returns-in_err-note-in-Leaf-clause-grows t c = c.in_ok-there-in-Leaf.ensures.grows

pub returns-in_ok-note-in-Leaf-clause-grows : goal.returns-in_ok-note-in-Leaf-clause-grows
returns-in_ok-note-in-Leaf-clause-grows t c = c.in_ok-there-in-Leaf.ensures.grows

pub returns-in_ok-note-in-Leaf-clause-part : goal.returns-in_ok-note-in-Leaf-clause-part
returns-in_ok-note-in-Leaf-clause-part t c =
    leaf_brought c.args.square.now.store c.add_leaf.new.self _ c.states_of_leaf.result c.args.square.now.part c.in_ok-there-in-Leaf.there
    (states_listed c.in-Leaf.leaf.now _ c.in-Leaf.ensures.0 c.states_of_leaf.ensures) c.in-Leaf.ensures.1 c.in_ok-there-in-Leaf.ensures.draws

pub returns-in_err-dead-in-Blank-clause-grows : goal.returns-in_err-dead-in-Blank-clause-grows
returns-in_err-dead-in-Blank-clause-grows t c = c.in_err-dead-in-Blank.ensures.grows

pub returns-in_ok-dead-in-Blank-clause-grows : goal.returns-in_ok-dead-in-Blank-clause-grows
returns-in_ok-dead-in-Blank-clause-grows t c = c.in_ok-dead-in-Blank.ensures.grows

-- ---- what is added, and what a full store lacks

pub returns-in_err-dead-in-Blank-clause-absent : goal.returns-in_err-dead-in-Blank-clause-absent
returns-in_err-dead-in-Blank-clause-absent t c = λ h is. absent_kept _ _ _ _ c.in_err-dead-in-Blank.ensures.err (blank_absent c.args.square.now.store c.args.target.now c.in-Blank.field-0 c.args.square.now.part c.args.level c.in-Blank.ensures (c.in_err-dead-in-Blank.ensures.full (ap (λ e. Err e) (told _ _ _ c.from_residual.ensures.1 h)) c.args.level).absent)

pub returns-in_err-there-in-Leaf-clause-absent : goal.returns-in_err-there-in-Leaf-clause-absent
returns-in_err-there-in-Leaf-clause-absent t c = λ h is. absent_kept _ _ _ _ c.in_err-there-in-Leaf.ensures.err (leaf_absent c.args.square.now.store c.args.target.now _ c.states_of_leaf.result c.args.square.now.part c.args.level (states_listed c.in-Leaf.leaf.now _ c.in-Leaf.ensures.0 c.states_of_leaf.ensures) c.in-Leaf.ensures.1 c.requires.square (c.in_err-there-in-Leaf.ensures.full (ap (λ e. Err e) (told _ _ _ c.from_residual-in_err-there-in-Leaf.ensures.1 h))).absent)

pub returns-in_err-note-in-Leaf-clause-pieces : goal.returns-in_err-note-in-Leaf-clause-pieces
returns-in_err-note-in-Leaf-clause-pieces t c =
    adds_one leaf_grid 8 c.args.target.now c.add_leaf.new.self 0 c.args.level _ (states_of_square c.args.square.now.store c.args.level c.args.square.now.part) _ c.in_ok-there-in-Leaf.ensures.added
    ((leaf_brought c.args.square.now.store c.add_leaf.new.self _ c.states_of_leaf.result c.args.square.now.part c.in_ok-there-in-Leaf.there (states_listed c.in-Leaf.leaf.now _ c.in-Leaf.ensures.0 c.states_of_leaf.ensures) c.in-Leaf.ensures.1 c.in_ok-there-in-Leaf.ensures.draws).draws c.args.level c.requires.square)

pub returns-in_ok-note-in-Leaf-clause-pieces : goal.returns-in_ok-note-in-Leaf-clause-pieces
returns-in_ok-note-in-Leaf-clause-pieces t c =
    adds_one leaf_grid 8 c.args.target.now c.add_leaf.new.self 0 c.args.level _ (states_of_square c.args.square.now.store c.args.level c.args.square.now.part) _ c.in_ok-there-in-Leaf.ensures.added
    ((leaf_brought c.args.square.now.store c.add_leaf.new.self _ c.states_of_leaf.result c.args.square.now.part c.in_ok-there-in-Leaf.there (states_listed c.in-Leaf.leaf.now _ c.in-Leaf.ensures.0 c.states_of_leaf.ensures) c.in-Leaf.ensures.1 c.in_ok-there-in-Leaf.ensures.draws).draws c.args.level c.requires.square)

pub returns-in_ok-dead-in-Blank-clause-pieces : goal.returns-in_ok-dead-in-Blank-clause-pieces
returns-in_ok-dead-in-Blank-clause-pieces t c =
    adds_one leaf_grid 8 c.args.target.now c.add_blank.new.self c.args.level c.args.level _ (states_of_square c.args.square.now.store c.args.level c.args.square.now.part) _ (c.in_ok-dead-in-Blank.ensures.added c.args.level)
    ((blank_brought c.args.square.now.store c.add_blank.new.self c.in-Blank.field-0 c.args.square.now.part _ c.in-Blank.ensures c.in_ok-dead-in-Blank.ensures.draws).draws c.args.level c.requires.square)

pub returns-in_err-nw-in-Four-clause-pieces : goal.returns-in_err-nw-in-Four-clause-pieces
returns-in_err-nw-in-Four-clause-pieces t c = adds_nw leaf_grid 8 c.args.level (states_of_square c.args.square.now.store c.args.level c.args.square.now.part) (states_of_square c.in-Four.nw.store (c.args.level - 1) c.in-Four.nw.part) (states_of_square c.in-Four.ne.store (c.args.level - 1) c.in-Four.ne.part) (states_of_square c.in-Four.sw.store (c.args.level - 1) c.in-Four.sw.part) (states_of_square c.in-Four.se.store (c.args.level - 1) c.in-Four.se.part) (some_above c.args.square.now c.in-Four.nw c.in-Four.ne c.in-Four.sw c.in-Four.se c.args.level c.in-Four.ensures c.requires.square) (quarters_seen c.args.square.now c.in-Four.nw c.in-Four.ne c.in-Four.sw c.in-Four.se c.args.level c.in-Four.ensures c.requires.square) c.args.target.now c.bring.new.target c.in_err-nw-in-Four.ensures.pieces

pub returns-in_err-ne-in-Four-clause-pieces : goal.returns-in_err-ne-in-Four-clause-pieces
returns-in_err-ne-in-Four-clause-pieces t c = adds_two leaf_grid 8 c.args.level (states_of_square c.args.square.now.store c.args.level c.args.square.now.part) (states_of_square c.in-Four.nw.store (c.args.level - 1) c.in-Four.nw.part) (states_of_square c.in-Four.ne.store (c.args.level - 1) c.in-Four.ne.part) (states_of_square c.in-Four.sw.store (c.args.level - 1) c.in-Four.sw.part) (states_of_square c.in-Four.se.store (c.args.level - 1) c.in-Four.se.part) (some_above c.args.square.now c.in-Four.nw c.in-Four.ne c.in-Four.sw c.in-Four.se c.args.level c.in-Four.ensures c.requires.square) (quarters_seen c.args.square.now c.in-Four.nw c.in-Four.ne c.in-Four.sw c.in-Four.se c.args.level c.in-Four.ensures c.requires.square) c.args.target.now c.bring.new.target c.bring-in-Four.new.target c.in_err-ne-in-Four.ensures.grows c.in_ok-nw-in-Four.ensures.pieces c.in_err-ne-in-Four.ensures.pieces

pub returns-in_err-sw-in-Four-clause-pieces : goal.returns-in_err-sw-in-Four-clause-pieces
returns-in_err-sw-in-Four-clause-pieces t c = adds_three leaf_grid 8 c.args.level (states_of_square c.args.square.now.store c.args.level c.args.square.now.part) (states_of_square c.in-Four.nw.store (c.args.level - 1) c.in-Four.nw.part) (states_of_square c.in-Four.ne.store (c.args.level - 1) c.in-Four.ne.part) (states_of_square c.in-Four.sw.store (c.args.level - 1) c.in-Four.sw.part) (states_of_square c.in-Four.se.store (c.args.level - 1) c.in-Four.se.part) (some_above c.args.square.now c.in-Four.nw c.in-Four.ne c.in-Four.sw c.in-Four.se c.args.level c.in-Four.ensures c.requires.square) (quarters_seen c.args.square.now c.in-Four.nw c.in-Four.ne c.in-Four.sw c.in-Four.se c.args.level c.in-Four.ensures c.requires.square) c.args.target.now c.bring.new.target c.bring-in-Four.new.target c.bring-in-Four-2.new.target c.in_ok-ne-in-Four.ensures.grows c.in_err-sw-in-Four.ensures.grows c.in_ok-nw-in-Four.ensures.pieces c.in_ok-ne-in-Four.ensures.pieces c.in_err-sw-in-Four.ensures.pieces

pub returns-in_err-se-in-Four-clause-pieces : goal.returns-in_err-se-in-Four-clause-pieces
returns-in_err-se-in-Four-clause-pieces t c = adds_all leaf_grid 8 c.args.level (states_of_square c.args.square.now.store c.args.level c.args.square.now.part) (states_of_square c.in-Four.nw.store (c.args.level - 1) c.in-Four.nw.part) (states_of_square c.in-Four.ne.store (c.args.level - 1) c.in-Four.ne.part) (states_of_square c.in-Four.sw.store (c.args.level - 1) c.in-Four.sw.part) (states_of_square c.in-Four.se.store (c.args.level - 1) c.in-Four.se.part) (some_above c.args.square.now c.in-Four.nw c.in-Four.ne c.in-Four.sw c.in-Four.se c.args.level c.in-Four.ensures c.requires.square) (quarters_seen c.args.square.now c.in-Four.nw c.in-Four.ne c.in-Four.sw c.in-Four.se c.args.level c.in-Four.ensures c.requires.square) c.args.target.now c.bring.new.target c.bring-in-Four.new.target c.bring-in-Four-2.new.target c.bring-in-Four-3.new.target c.in_ok-ne-in-Four.ensures.grows c.in_ok-sw-in-Four.ensures.grows c.in_err-se-in-Four.ensures.grows c.in_ok-nw-in-Four.ensures.pieces c.in_ok-ne-in-Four.ensures.pieces c.in_ok-sw-in-Four.ensures.pieces c.in_err-se-in-Four.ensures.pieces

pub returns-in_err-nw-in-Four-clause-absent : goal.returns-in_err-nw-in-Four-clause-absent
returns-in_err-nw-in-Four-clause-absent t c = λ h is. lacks_nw leaf_grid 8 c.args.level (states_of_square c.args.square.now.store c.args.level c.args.square.now.part) (states_of_square c.in-Four.nw.store (c.args.level - 1) c.in-Four.nw.part) (states_of_square c.in-Four.ne.store (c.args.level - 1) c.in-Four.ne.part) (states_of_square c.in-Four.sw.store (c.args.level - 1) c.in-Four.sw.part) (states_of_square c.in-Four.se.store (c.args.level - 1) c.in-Four.se.part) (some_above c.args.square.now c.in-Four.nw c.in-Four.ne c.in-Four.sw c.in-Four.se c.args.level c.in-Four.ensures c.requires.square) (quarters_seen c.args.square.now c.in-Four.nw c.in-Four.ne c.in-Four.sw c.in-Four.se c.args.level c.in-Four.ensures c.requires.square) IsEngineLeaf c.bring.new.target is.canonical (c.in_err-nw-in-Four.ensures.absent (ap (λ e. Err e) (told _ _ _ c.from_residual-in_err-nw-in-Four.ensures.1 h)) is)

pub returns-in_err-ne-in-Four-clause-absent : goal.returns-in_err-ne-in-Four-clause-absent
returns-in_err-ne-in-Four-clause-absent t c = λ h is. lacks_ne leaf_grid 8 c.args.level (states_of_square c.args.square.now.store c.args.level c.args.square.now.part) (states_of_square c.in-Four.nw.store (c.args.level - 1) c.in-Four.nw.part) (states_of_square c.in-Four.ne.store (c.args.level - 1) c.in-Four.ne.part) (states_of_square c.in-Four.sw.store (c.args.level - 1) c.in-Four.sw.part) (states_of_square c.in-Four.se.store (c.args.level - 1) c.in-Four.se.part) (some_above c.args.square.now c.in-Four.nw c.in-Four.ne c.in-Four.sw c.in-Four.se c.args.level c.in-Four.ensures c.requires.square) (quarters_seen c.args.square.now c.in-Four.nw c.in-Four.ne c.in-Four.sw c.in-Four.se c.args.level c.in-Four.ensures c.requires.square) IsEngineLeaf c.bring-in-Four.new.target is.canonical (c.in_err-ne-in-Four.ensures.absent (ap (λ e. Err e) (told _ _ _ c.from_residual-in_err-ne-in-Four.ensures.1 h)) is)

pub returns-in_err-sw-in-Four-clause-absent : goal.returns-in_err-sw-in-Four-clause-absent
returns-in_err-sw-in-Four-clause-absent t c = λ h is. lacks_sw leaf_grid 8 c.args.level (states_of_square c.args.square.now.store c.args.level c.args.square.now.part) (states_of_square c.in-Four.nw.store (c.args.level - 1) c.in-Four.nw.part) (states_of_square c.in-Four.ne.store (c.args.level - 1) c.in-Four.ne.part) (states_of_square c.in-Four.sw.store (c.args.level - 1) c.in-Four.sw.part) (states_of_square c.in-Four.se.store (c.args.level - 1) c.in-Four.se.part) (some_above c.args.square.now c.in-Four.nw c.in-Four.ne c.in-Four.sw c.in-Four.se c.args.level c.in-Four.ensures c.requires.square) (quarters_seen c.args.square.now c.in-Four.nw c.in-Four.ne c.in-Four.sw c.in-Four.se c.args.level c.in-Four.ensures c.requires.square) IsEngineLeaf c.bring-in-Four-2.new.target is.canonical (c.in_err-sw-in-Four.ensures.absent (ap (λ e. Err e) (told _ _ _ c.from_residual-in_err-sw-in-Four.ensures.1 h)) is)

pub returns-in_err-se-in-Four-clause-absent : goal.returns-in_err-se-in-Four-clause-absent
returns-in_err-se-in-Four-clause-absent t c = λ h is. lacks_se leaf_grid 8 c.args.level (states_of_square c.args.square.now.store c.args.level c.args.square.now.part) (states_of_square c.in-Four.nw.store (c.args.level - 1) c.in-Four.nw.part) (states_of_square c.in-Four.ne.store (c.args.level - 1) c.in-Four.ne.part) (states_of_square c.in-Four.sw.store (c.args.level - 1) c.in-Four.sw.part) (states_of_square c.in-Four.se.store (c.args.level - 1) c.in-Four.se.part) (some_above c.args.square.now c.in-Four.nw c.in-Four.ne c.in-Four.sw c.in-Four.se c.args.level c.in-Four.ensures c.requires.square) (quarters_seen c.args.square.now c.in-Four.nw c.in-Four.ne c.in-Four.sw c.in-Four.se c.args.level c.in-Four.ensures c.requires.square) IsEngineLeaf c.bring-in-Four-3.new.target is.canonical (c.in_err-se-in-Four.ensures.absent (ap (λ e. Err e) (told _ _ _ c.from_residual-in_err-se-in-Four.ensures.1 h)) is)

pub returns-in_err-there-in-Four-clause-pieces : goal.returns-in_err-there-in-Four-clause-pieces
returns-in_err-there-in-Four-clause-pieces t c =
    adds_more leaf_grid 8 c.args.target.now c.bring-in-Four-3.new.target c.add_four.new.self c.args.level (states_of_square c.args.square.now.store c.args.level c.args.square.now.part) c.in_err-there-in-Four.ensures.grows
    (adds_all leaf_grid 8 c.args.level (states_of_square c.args.square.now.store c.args.level c.args.square.now.part) (states_of_square c.in-Four.nw.store (c.args.level - 1) c.in-Four.nw.part) (states_of_square c.in-Four.ne.store (c.args.level - 1) c.in-Four.ne.part) (states_of_square c.in-Four.sw.store (c.args.level - 1) c.in-Four.sw.part) (states_of_square c.in-Four.se.store (c.args.level - 1) c.in-Four.se.part) (some_above c.args.square.now c.in-Four.nw c.in-Four.ne c.in-Four.sw c.in-Four.se c.args.level c.in-Four.ensures c.requires.square) (quarters_seen c.args.square.now c.in-Four.nw c.in-Four.ne c.in-Four.sw c.in-Four.se c.args.level c.in-Four.ensures c.requires.square) c.args.target.now c.bring.new.target c.bring-in-Four.new.target c.bring-in-Four-2.new.target c.bring-in-Four-3.new.target c.in_ok-ne-in-Four.ensures.grows c.in_ok-sw-in-Four.ensures.grows c.in_ok-se-in-Four.ensures.grows c.in_ok-nw-in-Four.ensures.pieces c.in_ok-ne-in-Four.ensures.pieces c.in_ok-sw-in-Four.ensures.pieces c.in_ok-se-in-Four.ensures.pieces)
    (adds_nothing leaf_grid 8 c.bring-in-Four-3.new.target c.add_four.new.self c.args.level (states_of_square c.args.square.now.store c.args.level c.args.square.now.part) c.in_err-there-in-Four.ensures.err)

pub returns-in_err-there-in-Four-clause-absent : goal.returns-in_err-there-in-Four-clause-absent
returns-in_err-there-in-Four-clause-absent t c = λ h is. absent_kept _ _ _ _ c.in_err-there-in-Four.ensures.err (absent_as leaf_grid 8 c.bring-in-Four-3.new.target c.args.level _ (states_of_square c.args.square.now.store c.args.level c.args.square.now.part)
    (four_same c.args.square.now c.in-Four.nw c.in-Four.ne c.in-Four.sw c.in-Four.se c.bring.new.target c.bring-in-Four.new.target c.bring-in-Four-2.new.target c.bring-in-Four-3.new.target c.args.target.now c.args.level _ _ _ _ 0 c.in-Four.ensures c.requires.square
    c.in_ok-ne-in-Four.ensures.grows c.in_ok-sw-in-Four.ensures.grows c.in_ok-se-in-Four.ensures.grows
    (moved_source _ _ _ _ _ c.in-Four.ensures.nw_store c.in_ok-nw-in-Four.ensures.part) (moved_source _ _ _ _ _ c.in-Four.ensures.ne_store c.in_ok-ne-in-Four.ensures.part)
    (moved_source _ _ _ _ _ c.in-Four.ensures.sw_store c.in_ok-sw-in-Four.ensures.part) (moved_source _ _ _ _ _ c.in-Four.ensures.se_store c.in_ok-se-in-Four.ensures.part))
    (c.in_err-there-in-Four.ensures.full (ap (λ e. Err e) (told _ _ _ c.from_residual-in_err-there-in-Four.ensures.1 h))).absent)

pub returns-in_err-note-in-Four-clause-pieces : goal.returns-in_err-note-in-Four-clause-pieces
returns-in_err-note-in-Four-clause-pieces t c =
    adds_more leaf_grid 8 c.args.target.now c.bring-in-Four-3.new.target c.add_four.new.self c.args.level (states_of_square c.args.square.now.store c.args.level c.args.square.now.part) c.in_ok-there-in-Four.ensures.grows
    (adds_all leaf_grid 8 c.args.level (states_of_square c.args.square.now.store c.args.level c.args.square.now.part) (states_of_square c.in-Four.nw.store (c.args.level - 1) c.in-Four.nw.part) (states_of_square c.in-Four.ne.store (c.args.level - 1) c.in-Four.ne.part) (states_of_square c.in-Four.sw.store (c.args.level - 1) c.in-Four.sw.part) (states_of_square c.in-Four.se.store (c.args.level - 1) c.in-Four.se.part) (some_above c.args.square.now c.in-Four.nw c.in-Four.ne c.in-Four.sw c.in-Four.se c.args.level c.in-Four.ensures c.requires.square) (quarters_seen c.args.square.now c.in-Four.nw c.in-Four.ne c.in-Four.sw c.in-Four.se c.args.level c.in-Four.ensures c.requires.square) c.args.target.now c.bring.new.target c.bring-in-Four.new.target c.bring-in-Four-2.new.target c.bring-in-Four-3.new.target c.in_ok-ne-in-Four.ensures.grows c.in_ok-sw-in-Four.ensures.grows c.in_ok-se-in-Four.ensures.grows c.in_ok-nw-in-Four.ensures.pieces c.in_ok-ne-in-Four.ensures.pieces c.in_ok-sw-in-Four.ensures.pieces c.in_ok-se-in-Four.ensures.pieces)
    (adds_one leaf_grid 8 c.bring-in-Four-3.new.target c.add_four.new.self c.args.level c.args.level _ (states_of_square c.args.square.now.store c.args.level c.args.square.now.part) _ c.in_ok-there-in-Four.ensures.added
    ((four_brought c.args.square.now c.in-Four.nw c.in-Four.ne c.in-Four.sw c.in-Four.se c.bring.new.target c.bring-in-Four.new.target c.bring-in-Four-2.new.target c.bring-in-Four-3.new.target c.add_four.new.self c.args.level _ _ _ _ _ c.in-Four.ensures c.requires.square
    c.in_ok-ne-in-Four.ensures.grows c.in_ok-sw-in-Four.ensures.grows c.in_ok-se-in-Four.ensures.grows
    (moved_source _ _ _ _ _ c.in-Four.ensures.nw_store c.in_ok-nw-in-Four.ensures.part) (moved_source _ _ _ _ _ c.in-Four.ensures.ne_store c.in_ok-ne-in-Four.ensures.part)
    (moved_source _ _ _ _ _ c.in-Four.ensures.sw_store c.in_ok-sw-in-Four.ensures.part) (moved_source _ _ _ _ _ c.in-Four.ensures.se_store c.in_ok-se-in-Four.ensures.part)
    c.in_ok-there-in-Four.ensures.draws).draws c.args.level c.requires.square))

pub returns-in_ok-note-in-Four-clause-pieces : goal.returns-in_ok-note-in-Four-clause-pieces
returns-in_ok-note-in-Four-clause-pieces t c =
    adds_more leaf_grid 8 c.args.target.now c.bring-in-Four-3.new.target c.add_four.new.self c.args.level (states_of_square c.args.square.now.store c.args.level c.args.square.now.part) c.in_ok-there-in-Four.ensures.grows
    (adds_all leaf_grid 8 c.args.level (states_of_square c.args.square.now.store c.args.level c.args.square.now.part) (states_of_square c.in-Four.nw.store (c.args.level - 1) c.in-Four.nw.part) (states_of_square c.in-Four.ne.store (c.args.level - 1) c.in-Four.ne.part) (states_of_square c.in-Four.sw.store (c.args.level - 1) c.in-Four.sw.part) (states_of_square c.in-Four.se.store (c.args.level - 1) c.in-Four.se.part) (some_above c.args.square.now c.in-Four.nw c.in-Four.ne c.in-Four.sw c.in-Four.se c.args.level c.in-Four.ensures c.requires.square) (quarters_seen c.args.square.now c.in-Four.nw c.in-Four.ne c.in-Four.sw c.in-Four.se c.args.level c.in-Four.ensures c.requires.square) c.args.target.now c.bring.new.target c.bring-in-Four.new.target c.bring-in-Four-2.new.target c.bring-in-Four-3.new.target c.in_ok-ne-in-Four.ensures.grows c.in_ok-sw-in-Four.ensures.grows c.in_ok-se-in-Four.ensures.grows c.in_ok-nw-in-Four.ensures.pieces c.in_ok-ne-in-Four.ensures.pieces c.in_ok-sw-in-Four.ensures.pieces c.in_ok-se-in-Four.ensures.pieces)
    (adds_one leaf_grid 8 c.bring-in-Four-3.new.target c.add_four.new.self c.args.level c.args.level _ (states_of_square c.args.square.now.store c.args.level c.args.square.now.part) _ c.in_ok-there-in-Four.ensures.added
    ((four_brought c.args.square.now c.in-Four.nw c.in-Four.ne c.in-Four.sw c.in-Four.se c.bring.new.target c.bring-in-Four.new.target c.bring-in-Four-2.new.target c.bring-in-Four-3.new.target c.add_four.new.self c.args.level _ _ _ _ _ c.in-Four.ensures c.requires.square
    c.in_ok-ne-in-Four.ensures.grows c.in_ok-sw-in-Four.ensures.grows c.in_ok-se-in-Four.ensures.grows
    (moved_source _ _ _ _ _ c.in-Four.ensures.nw_store c.in_ok-nw-in-Four.ensures.part) (moved_source _ _ _ _ _ c.in-Four.ensures.ne_store c.in_ok-ne-in-Four.ensures.part)
    (moved_source _ _ _ _ _ c.in-Four.ensures.sw_store c.in_ok-sw-in-Four.ensures.part) (moved_source _ _ _ _ _ c.in-Four.ensures.se_store c.in_ok-se-in-Four.ensures.part)
    c.in_ok-there-in-Four.ensures.draws).draws c.args.level c.requires.square))

-- ---- no result is new

pub returns-in_err-there-in-Four-clause-firsts : goal.returns-in_err-there-in-Four-clause-firsts
returns-in_err-there-in-Four-clause-firsts t c = λ p x e. c.in_ok-nw-in-Four.ensures.firsts p x (c.in_ok-ne-in-Four.ensures.firsts p x (c.in_ok-sw-in-Four.ensures.firsts p x (c.in_ok-se-in-Four.ensures.firsts p x (c.in_err-there-in-Four.ensures.firsts p x e))))

pub returns-in_err-nw-in-Four-clause-firsts : goal.returns-in_err-nw-in-Four-clause-firsts
returns-in_err-nw-in-Four-clause-firsts t c = c.in_err-nw-in-Four.ensures.firsts

pub returns-in_err-ne-in-Four-clause-firsts : goal.returns-in_err-ne-in-Four-clause-firsts
returns-in_err-ne-in-Four-clause-firsts t c = none_more c.args.target.now c.bring.new.target c.bring-in-Four.new.target c.in_ok-nw-in-Four.ensures.firsts c.in_err-ne-in-Four.ensures.firsts

pub returns-in_err-sw-in-Four-clause-firsts : goal.returns-in_err-sw-in-Four-clause-firsts
returns-in_err-sw-in-Four-clause-firsts t c = none_more c.args.target.now c.bring.new.target c.bring-in-Four-2.new.target c.in_ok-nw-in-Four.ensures.firsts (none_more c.bring.new.target c.bring-in-Four.new.target c.bring-in-Four-2.new.target c.in_ok-ne-in-Four.ensures.firsts c.in_err-sw-in-Four.ensures.firsts)

pub returns-in_err-se-in-Four-clause-firsts : goal.returns-in_err-se-in-Four-clause-firsts
returns-in_err-se-in-Four-clause-firsts t c = none_more c.args.target.now c.bring.new.target c.bring-in-Four-3.new.target c.in_ok-nw-in-Four.ensures.firsts (none_more c.bring.new.target c.bring-in-Four.new.target c.bring-in-Four-3.new.target c.in_ok-ne-in-Four.ensures.firsts (none_more c.bring-in-Four.new.target c.bring-in-Four-2.new.target c.bring-in-Four-3.new.target c.in_ok-sw-in-Four.ensures.firsts c.in_err-se-in-Four.ensures.firsts))

pub returns-in_ok-note-in-Four-clause-firsts : goal.returns-in_ok-note-in-Four-clause-firsts
returns-in_ok-note-in-Four-clause-firsts t c = none_more c.args.target.now c.bring.new.target c.add_four.new.self c.in_ok-nw-in-Four.ensures.firsts (none_more c.bring.new.target c.bring-in-Four.new.target c.add_four.new.self c.in_ok-ne-in-Four.ensures.firsts (none_more c.bring-in-Four.new.target c.bring-in-Four-2.new.target c.add_four.new.self c.in_ok-sw-in-Four.ensures.firsts (none_more c.bring-in-Four-2.new.target c.bring-in-Four-3.new.target c.add_four.new.self c.in_ok-se-in-Four.ensures.firsts c.in_ok-there-in-Four.ensures.firsts)))

pub returns-in_err-note-in-Four-clause-firsts : goal.returns-in_err-note-in-Four-clause-firsts
returns-in_err-note-in-Four-clause-firsts t c = none_more c.args.target.now c.bring.new.target c.add_four.new.self c.in_ok-nw-in-Four.ensures.firsts (none_more c.bring.new.target c.bring-in-Four.new.target c.add_four.new.self c.in_ok-ne-in-Four.ensures.firsts (none_more c.bring-in-Four.new.target c.bring-in-Four-2.new.target c.add_four.new.self c.in_ok-sw-in-Four.ensures.firsts (none_more c.bring-in-Four-2.new.target c.bring-in-Four-3.new.target c.add_four.new.self c.in_ok-se-in-Four.ensures.firsts c.in_ok-there-in-Four.ensures.firsts)))

pub returns-in_err-there-in-Leaf-clause-firsts : goal.returns-in_err-there-in-Leaf-clause-firsts
returns-in_err-there-in-Leaf-clause-firsts t c = c.in_err-there-in-Leaf.ensures.firsts

pub returns-in_err-note-in-Leaf-clause-firsts : goal.returns-in_err-note-in-Leaf-clause-firsts
returns-in_err-note-in-Leaf-clause-firsts t c = c.in_ok-there-in-Leaf.ensures.firsts

pub returns-in_ok-note-in-Leaf-clause-firsts : goal.returns-in_ok-note-in-Leaf-clause-firsts
returns-in_ok-note-in-Leaf-clause-firsts t c = c.in_ok-there-in-Leaf.ensures.firsts

pub returns-in_err-dead-in-Blank-clause-firsts : goal.returns-in_err-dead-in-Blank-clause-firsts
returns-in_err-dead-in-Blank-clause-firsts t c = c.in_err-dead-in-Blank.ensures.firsts

pub returns-in_ok-dead-in-Blank-clause-firsts : goal.returns-in_ok-dead-in-Blank-clause-firsts
returns-in_ok-dead-in-Blank-clause-firsts t c = c.in_ok-dead-in-Blank.ensures.firsts
