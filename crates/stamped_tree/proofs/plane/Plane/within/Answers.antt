use Rattle.std.proofs.Common.{ap, arith, Err, refl, ℕ, ◌≡◌, ◌≤◌}
use Rattle.square_store.specs.Grid.{blank_grid}
use Rattle.stamped_tree.proofs.Held.{holds_added, holds_nothing, blank_has}
use Rattle.stamped_tree.proofs.Maps.{blank_read, first_square}
use Rattle.stamped_tree.proofs.plane.Plane.within.Goals as goal

pub invariant_of-result : goal.invariant_of-result
invariant_of-result c = record {
  root = (c.in-Ok.ensures.draws 28).stands;
  writes = holds_added _ _ 0 (blank_grid 0) _ (rw c.new-store.ensures (holds_nothing c.args.limits.room)) c.in-Ok.ensures.grows (c.in-Ok.ensures.draws 0) (blank_has 0 refl 8) (c.in-Ok.ensures.added 0);
}

pub returns-in-Ok-clause-map : goal.returns-in-Ok-clause-map
returns-in-Ok-clause-map c = blank_read _ (c.in-Ok.ensures.draws 28)

pub returns-in-Ok-clause-nodes : goal.returns-in-Ok-clause-nodes
returns-in-Ok-clause-nodes c = first_square c.args.limits.room _ 0 (blank_grid 0) _ (c.in-Ok.ensures.draws 0) (rw c.new-store.ensures at (c.in-Ok.ensures.added 0))

pub unreachable-requires : goal.unreachable-requires
unreachable-requires c =
    let full = (c.in-Err-StoreFull.ensures.full (ap (λ e. Err e) c.in-Err-StoreFull.field-0-is) 0).full in
    never c.args.limits.room (rw c.new-store.ensures at full) c.requires
  where
    never : (nodes : ℕ) → 0 ≡ nodes → 1 ≤ nodes → ⊥
    never nodes e h = omega (arith, e, h)
