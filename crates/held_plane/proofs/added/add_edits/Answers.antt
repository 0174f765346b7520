use Rattle.std.proofs.Common.{◌+◌, ap, arith, refl, Err}
use Rattle.edit_stamps.specs.Edit.{writes_of}
use Rattle.stamped_writes.specs.Write.{joined}
use Rattle.square_store.proofs.Made.{told}
use Rattle.stamped_tree.specs.Plane.{map_of, rooted}
use Rattle.held_plane.specs.Wanted.{IsJoinedSoFar}
use Rattle.held_plane.proofs.JoiningLaws.{grows_anyway, grows_on, joined_none, joined_next, joined_all}
use Rattle.held_plane.proofs.WantedLaws.{some_none, some_one, some_more}
use Rattle.held_plane.proofs.added.add_edits.Goals as goal

pub loop-edit-init : goal.loop-edit-init
loop-edit-init c =
    let old = map_of (rooted c.args.plane.now c.args.root) in
    (c.requires, grows_anyway c.args.plane.now, joined_none old c.args.edits.now, some_none (IsJoinedSoFar old c.args.edits.now) c.args.plane.now)

pub add_edit-requires : goal.add_edit-requires
add_edit-requires c = c.loop-edit.invariant.0

pub returns-in_err-part-clause-grows : goal.returns-in_err-part-clause-grows
returns-in_err-part-clause-grows c = grows_on c.args.plane.now c.loop-edit.plane c.add_edit.new.plane c.loop-edit.invariant.1 c.add_edit.ensures.grows

pub returns-in_err-part-clause-pieces : goal.returns-in_err-part-clause-pieces
returns-in_err-part-clause-pieces c =
    let before = c.args.plane.now in
    let now = c.loop-edit.plane in
    let new = c.add_edit.new.plane in
    let old = map_of (rooted before c.args.root) in
    let i = c.loop-edit.edit-index in
    let e = c.edit-item.result in
    let m = joined (map_of (rooted now c.loop-edit.part)) (writes_of e) in
    let so_far : IsJoinedSoFar old c.args.edits.now m = (i + 1, (omega arith, joined_next old (map_of (rooted now c.loop-edit.part)) m c.args.edits.now i e c.loop-edit-test.true c.edit-item.is c.loop-edit.invariant.2 (λ at. refl))) in
    let IsOne = IsJoinedSoFar old c.args.edits.now in
    some_more IsOne before now new c.add_edit.ensures.grows.store c.loop-edit.invariant.3 (some_one IsOne now new m so_far c.add_edit.ensures.pieces)

pub returns-in_err-part-clause-full : goal.returns-in_err-part-clause-full
returns-in_err-part-clause-full c =
    let before = c.args.plane.now in
    let now = c.loop-edit.plane in
    let new = c.add_edit.new.plane in
    let old = map_of (rooted before c.args.root) in
    let i = c.loop-edit.edit-index in
    let e = c.edit-item.result in
    let m = joined (map_of (rooted now c.loop-edit.part)) (writes_of e) in
    let so_far : IsJoinedSoFar old c.args.edits.now m = (i + 1, (omega arith, joined_next old (map_of (rooted now c.loop-edit.part)) m c.args.edits.now i e c.loop-edit-test.true c.edit-item.is c.loop-edit.invariant.2 (λ at. refl))) in
    λ e. (m, (so_far, c.in_err-part.ensures.full (ap (λ e. Err e) (told _ _ _ c.from_residual.ensures.1 e))))

pub loop-edit-preserved : goal.loop-edit-preserved
loop-edit-preserved c =
    let before = c.args.plane.now in
    let now = c.loop-edit.plane in
    let new = c.add_edit.new.plane in
    let old = map_of (rooted before c.args.root) in
    let i = c.loop-edit.edit-index in
    let e = c.edit-item.result in
    let m = joined (map_of (rooted now c.loop-edit.part)) (writes_of e) in
    let so_far : IsJoinedSoFar old c.args.edits.now m = (i + 1, (omega arith, joined_next old (map_of (rooted now c.loop-edit.part)) m c.args.edits.now i e c.loop-edit-test.true c.edit-item.is c.loop-edit.invariant.2 (λ at. refl))) in
    let IsOne = IsJoinedSoFar old c.args.edits.now in (
      c.in_ok-part.ensures.part,
      grows_on before now new c.loop-edit.invariant.1 c.add_edit.ensures.grows,
      joined_next old (map_of (rooted now c.loop-edit.part)) (map_of (rooted new c.in_ok-part.part)) c.args.edits.now i e c.loop-edit-test.true c.edit-item.is c.loop-edit.invariant.2 c.in_ok-part.ensures.joins,
      some_more IsOne before now new c.add_edit.ensures.grows.store c.loop-edit.invariant.3 (some_one IsOne now new m so_far c.add_edit.ensures.pieces),
    )

pub returns-clause-part : goal.returns-clause-part
returns-clause-part c = c.loop-edit.invariant.0

pub returns-clause-joins : goal.returns-clause-joins
returns-clause-joins c = joined_all (map_of (rooted c.args.plane.now c.args.root)) (map_of (rooted c.loop-edit.plane c.loop-edit.part)) c.args.edits.now c.loop-edit.edit-index (omega arith) c.loop-edit.invariant.2

pub returns-clause-grows : goal.returns-clause-grows
returns-clause-grows c = c.loop-edit.invariant.1

pub returns-clause-pieces : goal.returns-clause-pieces
returns-clause-pieces c = c.loop-edit.invariant.3
