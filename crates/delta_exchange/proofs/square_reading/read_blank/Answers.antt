use Rattle.std.proofs.Common.{◌≡◌, true, Ok, Err, Some, length, ap, sym, subst, ◌∙◌, arith, rules}
use Rattle.std.proofs.lemmas.Result.{err_from_is_err_and}
use Rattle.edit_stamps.specs.PlaneMap.{is_plane_write}
use Rattle.leaf_merge_lanes.specs.Leaf.{write_of}
use Rattle.square_store.specs.Grid.{Grid, blank_grid}
use Rattle.stamped_tree.specs.Plane.{StampedPlane}
use Rattle.delta_exchange.specs.declared.square_reading.ReadSquare.{ReadSquare}
use Rattle.delta_exchange.specs.Room.{IsReadInto, tree_grid}
use Rattle.delta_exchange.proofs.RoomSteps.{added_into, blank_read, blank_tree, full_store, refused_into}
use Rattle.delta_exchange.proofs.FewSquares.{few_added, few_refused, stamp_takes}
use Rattle.delta_exchange.proofs.square_reading.read_blank.Goals as goal

pub returns-in_err-part-clause-room : goal.returns-in_err-part-clause-room
returns-in_err-part-clause-room c = λ read is.
    let plane : is_plane_write (write_of c.in_ok-stamp.stamp 0) ≡ true = search rules in
    let told = ap (tree_grid c.args.above) (blank_read c.args.text.now c.read_u64.new.self c.in_ok-stamp.stamp read c.in_ok-stamp.ensures.exact plane is) ∙ blank_tree c.args.above c.in_ok-stamp.stamp in
    let p = err_from_is_err_and c.from_residual-in_err-part.result c.from_residual-in_err-part.ensures.1 in
    subst (λ (f : Grid). IsReadInto c.from_residual-in_err-part.result c.args.plane.now.store c.add_blank.new.self.store c.args.above f) (sym told)
    (refused_into c.from_residual-in_err-part.result p.0 c.args.plane.now.store c.add_blank.new.self.store c.args.above (blank_grid c.in_ok-stamp.stamp) p.1 (ap (λ (plane : StampedPlane). plane.store) c.in_err-part.ensures.err)
    (λ full. c.in_err-part.ensures.full (ap (λ e. Err e) (full_store c.in_err-part.field-0.0 (sym p.2 ∙ full))) c.args.above))

pub returns-clause-room : goal.returns-clause-room
returns-clause-room c = λ read is.
    let plane : is_plane_write (write_of c.in_ok-stamp.stamp 0) ≡ true = search rules in
    let told = ap (tree_grid c.args.above) (blank_read c.args.text.now c.read_u64.new.self c.in_ok-stamp.stamp read c.in_ok-stamp.ensures.exact plane is) ∙ blank_tree c.args.above c.in_ok-stamp.stamp in
    let q : ReadSquare = record { part = c.in_ok-part.part; blank = Some c.in_ok-stamp.stamp } in
    subst (λ (f : Grid). IsReadInto (Ok q) c.args.plane.now.store c.add_blank.new.self.store c.args.above f) (sym told)
    (added_into c.args.plane.now.store c.add_blank.new.self.store q c.args.above c.args.above (blank_grid c.in_ok-stamp.stamp) (blank_grid c.in_ok-stamp.stamp)
    c.in_ok-part.ensures.grows.store (c.in_ok-part.ensures.added c.args.above) (c.in_ok-part.ensures.draws c.args.above))

pub returns-in_err-part-clause-few : goal.returns-in_err-part-clause-few
returns-in_err-part-clause-few c =
    let p = err_from_is_err_and c.from_residual-in_err-part.result c.from_residual-in_err-part.ensures.1 in
    few_refused c.from_residual-in_err-part.result p.0 c.args.plane.now.store c.add_blank.new.self.store (length c.args.text.now) (length c.read_u64.new.self) p.1
    (λ full. let held = c.in_err-part.ensures.full (ap (λ e. Err e) (full_store c.in_err-part.field-0.0 (sym p.2 ∙ full))) c.args.above in omega (arith, held.full))

pub returns-clause-few : goal.returns-clause-few
returns-clause-few c =
    let q : ReadSquare = record { part = c.in_ok-part.part; blank = Some c.in_ok-stamp.stamp } in
    few_added q c.args.plane.now.store c.add_blank.new.self.store c.args.above (blank_grid c.in_ok-stamp.stamp) c.in_ok-part.part (length c.args.text.now) (length c.read_u64.new.self)
    (c.in_ok-part.ensures.added c.args.above) (omega (arith, stamp_takes c.in_ok-stamp.stamp c.args.text.now c.read_u64.new.self c.in_ok-stamp.ensures.exact))
