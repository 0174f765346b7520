use Rattle.std.proofs.Common.{ap, sym, Err}
use Rattle.square_store.specs.Grid.{blank_grid}
use Rattle.stamped_tree.proofs.Copying.{never_full, copies_noted, blank_copied}
use Rattle.stamped_tree.proofs.Cutting.{one_more_at_most}
use Rattle.stamped_tree.proofs.copy.copy_blank.Goals as goal

pub unreachable-requires : goal.unreachable-requires
unreachable-requires c = never_full _ _ _ c.store_laws.ensures.store c.requires.copies 0 c.args.part (blank_grid c.args.stamp) (c.requires.part 0).stands (λ u v hu hv. sym ((c.requires.part 0).same u v hu hv))
    (c.in-Err-StoreFull.ensures.full (ap (λ e. Err e) c.in-Err-StoreFull.field-0-is) 0)

pub returns-in_ok-note-in-Ok-clause-copies : goal.returns-in_ok-note-in-Ok-clause-copies
returns-in_ok-note-in-Ok-clause-copies c = copies_noted _ _ _ c.store_laws.ensures.store c.requires.copies 0 c.args.part (blank_grid c.args.stamp) (c.requires.part 0).stands (λ u v hu hv. sym ((c.requires.part 0).same u v hu hv))
    _ _ _ c.in-Ok.ensures.grows (blank_copied _ _ c.args.stamp c.args.part _ c.requires.part c.in-Ok.ensures.draws) c.in_ok-note-in-Ok.ensures (c.in-Ok.ensures.added 0)

pub returns-in_ok-note-in-Ok-clause-copy : goal.returns-in_ok-note-in-Ok-clause-copy
returns-in_ok-note-in-Ok-clause-copy c = blank_copied _ _ c.args.stamp c.args.part _ c.requires.part c.in-Ok.ensures.draws

pub returns-in_ok-note-in-Ok-clause-added : goal.returns-in_ok-note-in-Ok-clause-added
returns-in_ok-note-in-Ok-clause-added c = one_more_at_most c.args.target.now _ 0 _ (blank_grid c.args.stamp) (c.in-Ok.ensures.added 0)
