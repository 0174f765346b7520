use Rattle.std.proofs.Common.{ap, Err, ◌-◌}
use Rattle.square_store.specs.Squares.{four_grid}
use Rattle.stamped_tree.specs.LeafKind.{plane_grid}
use Rattle.stamped_tree.proofs.Copying.{never_full, copies_noted, four_same, four_copied}
use Rattle.stamped_tree.proofs.Cutting.{one_more_at_most}
use Rattle.stamped_tree.proofs.copy.copy_four.Goals as goal

pub unreachable-requires : goal.unreachable-requires
unreachable-requires c = never_full _ _ _ c.store_laws.ensures.store c.requires.copies c.args.level c.args.part (four_grid plane_grid 8 c.args.target.now (c.args.level - 1) c.args.copied) c.requires.part.draws.stands
    (four_same _ _ _ _ _ _ c.requires.part c.requires.copied) (c.in-Err-StoreFull.ensures.full (ap (λ e. Err e) c.in-Err-StoreFull.field-0-is))

pub returns-in_ok-note-in-Ok-clause-copies : goal.returns-in_ok-note-in-Ok-clause-copies
returns-in_ok-note-in-Ok-clause-copies c = copies_noted _ _ _ c.store_laws.ensures.store c.requires.copies c.args.level c.args.part (four_grid plane_grid 8 c.args.target.now (c.args.level - 1) c.args.copied) c.requires.part.draws.stands
    (four_same _ _ _ _ _ _ c.requires.part c.requires.copied) _ _ _ c.in-Ok.ensures.grows (four_copied _ _ _ _ _ _ c.requires.part c.requires.copied _ _ c.in-Ok.ensures.draws) c.in_ok-note-in-Ok.ensures c.in-Ok.ensures.added

pub returns-in_ok-note-in-Ok-clause-copy : goal.returns-in_ok-note-in-Ok-clause-copy
returns-in_ok-note-in-Ok-clause-copy c = four_copied _ _ _ _ _ _ c.requires.part c.requires.copied _ _ c.in-Ok.ensures.draws

pub returns-in_ok-note-in-Ok-clause-added : goal.returns-in_ok-note-in-Ok-clause-added
returns-in_ok-note-in-Ok-clause-added c = one_more_at_most c.args.target.now _ c.args.level _ (four_grid plane_grid 8 c.args.target.now (c.args.level - 1) c.args.copied) c.in-Ok.ensures.added
