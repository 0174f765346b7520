use Rattle.std.proofs.Common.{refl}
use Rattle.square_store.specs.Grid.{blank_grid}
use Rattle.stamped_tree.proofs.Held.{holds_added, holds_nothing, blank_has}
use Rattle.stamped_tree.proofs.Overwriting.{nothing_read}
use Rattle.stamped_tree.proofs.plane.Plane.of_edit_with_key.Goals as goal

pub invariant_of-result : goal.invariant_of-result
invariant_of-result c = record {
  root = c.in-Ok-draw_edit.ensures.draws.stands;
  writes = c.in-Ok-draw_edit.ensures.writes (holds_added _ _ 0 (blank_grid 0) _ (rw c.new-store.ensures (holds_nothing 4294967295)) c.in-Ok.ensures.grows (c.in-Ok.ensures.draws 0) (blank_has 0 refl 8) (c.in-Ok.ensures.added 0));
}

pub returns-clause-map : goal.returns-clause-map
returns-clause-map c = nothing_read c.add_blank.new.self c.draw_edit.new.store c.in-Ok.unwritten c.in-Ok-draw_edit.root c.args.edit.now c.in-Ok-draw_edit.ensures.edit (c.in-Ok.ensures.draws 28) c.in-Ok-draw_edit.ensures.draws
