use Rattle.std.proofs.Common.{ap, Err}
use Rattle.square_store.specs.Grid.{blank_grid}
use Rattle.square_store.proofs.Made.{told}
use Rattle.stamped_tree.proofs.Held.{holds_added, blank_has}
use Rattle.stamped_tree.proofs.plane.Plane.add_blank.Goals as goal

pub returns-in_err-part-clause-full : goal.returns-in_err-part-clause-full
returns-in_err-part-clause-full c = λ h k. rw (← c.self.view_is) (c.in_err-part.ensures.full (ap (λ e. Err e) (told _ _ _ c.from_residual.ensures.1 h)) k)

pub returns-in_err-part-clause-memory : goal.returns-in_err-part-clause-memory
returns-in_err-part-clause-memory c = λ h k. rw (← c.self.view_is) (c.in_err-part.ensures.memory (ap (λ e. Err e) (told _ _ _ c.from_residual.ensures.1 h)) k)

pub invariant_of-self-2 : goal.invariant_of-self-2
invariant_of-self-2 c = record {
  root = c.in_ok-part.ensures.grows.stands 28 c.self.inside.root c.self.invariant.root;
  writes = holds_added _ _ 0 (blank_grid c.args.stamp) _ c.self.invariant.writes c.in_ok-part.ensures.grows (c.in_ok-part.ensures.draws 0) (blank_has c.args.stamp c.requires 8) (c.in_ok-part.ensures.added 0);
}

pub returns-clause-added : goal.returns-clause-added
returns-clause-added c = λ k. rw (← c.self.view_is) (c.in_ok-part.ensures.added k)
