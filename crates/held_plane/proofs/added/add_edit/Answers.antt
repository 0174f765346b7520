use Rattle.std.proofs.Common.{◌∙◌, ap, inl, subst, arith}
use Rattle.edit_stamps.specs.Edit.{writes_of}
use Rattle.stamped_writes.specs.Write.{AreSame, greater, joined}
use Rattle.stamped_tree.specs.Overwriting.{overwritten}
use Rattle.std.proofs.lemmas.Result.{IfOk-weaker}
use Rattle.square_store.proofs.Places.{at_within}
use Rattle.stamped_tree.specs.Plane.{map_of, rooted}
use Rattle.stamped_tree.specs.PlaneSquare.{PlaneSquare}
use Rattle.stamped_tree.specs.View.{AreBoundsOf}
use Rattle.stamped_tree.proofs.Maps.{greatest_read}
use Rattle.stamped_tree.proofs.Overwriting.{over_is_joined}
use Rattle.held_plane.proofs.WantedLaws.{adds_same_map, full_same_map}
use Rattle.held_plane.proofs.added.add_edit.Goals as goal

pub square-requires : goal.square-requires
square-requires c = at_within c.args.plane.now.store 28 c.args.root c.requires

pub returns-then-bounds-number-clause-joins : goal.returns-then-bounds-number-clause-joins
returns-then-bounds-number-clause-joins c = IfOk-weaker c.add_overwritten.result _ _ (λ part written at.
    let before = rooted c.args.plane.now c.args.root in
    let bounds = greatest_read before c.bounds.result (subst (λ (square : PlaneSquare). AreBoundsOf square c.bounds.result) c.square.ensures c.bounds.ensures 28 c.requires) in
    written at ∙ over_is_joined (map_of before) c.args.edit.now c.listed_cells-cells.ensures.edit
    (λ place. omega (arith, bounds.above place, c.if-bounds-number.true, c.number.ensures.value, c.stamp.ensures)) at) c.add_overwritten.ensures.overwrites

pub returns-then-bounds-number-clause-pieces : goal.returns-then-bounds-number-clause-pieces
returns-then-bounds-number-clause-pieces c =
    let before = rooted c.args.plane.now c.args.root in
    let writes = writes_of c.args.edit.now in
    let bounds = greatest_read before c.bounds.result (subst (λ (square : PlaneSquare). AreBoundsOf square c.bounds.result) c.square.ensures c.bounds.ensures 28 c.requires) in
    let same = over_is_joined (map_of before) c.args.edit.now c.listed_cells-cells.ensures.edit (λ place. omega (arith, bounds.above place, c.if-bounds-number.true, c.number.ensures.value, c.stamp.ensures)) in
    adds_same_map c.args.plane.now c.add_overwritten.new.self (overwritten (map_of before) writes) (joined (map_of before) writes) same c.add_overwritten.ensures.pieces

pub returns-then-bounds-number-clause-full : goal.returns-then-bounds-number-clause-full
returns-then-bounds-number-clause-full c =
    let before = rooted c.args.plane.now c.args.root in
    let writes = writes_of c.args.edit.now in
    let bounds = greatest_read before c.bounds.result (subst (λ (square : PlaneSquare). AreBoundsOf square c.bounds.result) c.square.ensures c.bounds.ensures 28 c.requires) in
    let same = over_is_joined (map_of before) c.args.edit.now c.listed_cells-cells.ensures.edit (λ place. omega (arith, bounds.above place, c.if-bounds-number.true, c.number.ensures.value, c.stamp.ensures)) in
    λ e. full_same_map c.add_overwritten.new.self (overwritten (map_of before) writes) (joined (map_of before) writes) same (c.add_overwritten.ensures.full e)

pub returns-in_err-drawn-clause-pieces : goal.returns-in_err-drawn-clause-pieces
returns-in_err-drawn-clause-pieces c = λ q held. inl held

pub returns-clause-pieces : goal.returns-clause-pieces
returns-clause-pieces c =
    let before = rooted c.args.plane.now c.args.root in
    let writes = writes_of c.args.edit.now in
    let drawn = map_of c.in_ok-drawn.drawn in
    let same : AreSame (joined (map_of before) drawn) (joined (map_of before) writes) = λ at. ap (greater (map_of before at)) (c.in_ok-drawn.ensures.map at) in
    adds_same_map c.args.plane.now c.add_joined.new.plane (joined (map_of before) drawn) (joined (map_of before) writes) same c.add_joined.ensures.pieces

pub returns-clause-full : goal.returns-clause-full
returns-clause-full c =
    let before = rooted c.args.plane.now c.args.root in
    let writes = writes_of c.args.edit.now in
    let drawn = map_of c.in_ok-drawn.drawn in
    let same : AreSame (joined (map_of before) drawn) (joined (map_of before) writes) = λ at. ap (greater (map_of before at)) (c.in_ok-drawn.ensures.map at) in
    λ e. full_same_map c.add_joined.new.plane (joined (map_of before) drawn) (joined (map_of before) writes) same (c.add_joined.ensures.full e)

pub returns-clause-joins : goal.returns-clause-joins
returns-clause-joins c =
    let before = rooted c.args.plane.now c.args.root in
    let writes = writes_of c.args.edit.now in
    let drawn = map_of c.in_ok-drawn.drawn in
    let same : AreSame (joined (map_of before) drawn) (joined (map_of before) writes) = λ at. ap (greater (map_of before at)) (c.in_ok-drawn.ensures.map at) in
    IfOk-weaker c.add_joined.result _ _ (λ part is at. is at ∙ same at) c.add_joined.ensures.joins
