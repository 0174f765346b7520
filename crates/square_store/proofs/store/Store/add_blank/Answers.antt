use Rattle.std.proofs.Common.{ap, subst, Err}
use Rattle.square_store.specs.Grid.{blank_grid}
use Rattle.square_store.specs.Store.{IsStore}
use Rattle.square_store.proofs.Made.{blank_draws, blank_absent, pushed_there, pushed_grown, pushed_added, pushed_firsts, told}
use Rattle.square_store.proofs.store.Store.add_blank.Goals as goal

pub returns-in-Some-clause-draws : goal.returns-in-Some-clause-draws
returns-in-Some-clause-draws g c = blank_draws g.L.LeafKind.write g.L.LeafKind.side _ _ _ c.in-Some.ensures.some

pub returns-in_err-part-clause-full : goal.returns-in_err-part-clause-full
returns-in_err-part-clause-full g c = λ h k. record {
  full = c.in_err-part.ensures.full (ap (λ e. Err e) (told _ _ _ c.from_residual.ensures.1 h));
  absent = blank_absent g.L.LeafKind.write g.L.LeafKind.side g.L.LeafKind.IsLeaf _ (rw c.self.view_is at c.self.invariant.0.canonical) g.met.L.LeafKind.some c.args.stamp k c.in_default.ensures.none;
}

pub returns-in_err-part-clause-memory : goal.returns-in_err-part-clause-memory
returns-in_err-part-clause-memory g c = λ h k. record {
  room = c.in_err-part.ensures.memory (ap (λ e. Err e) (told _ _ _ c.from_residual.ensures.1 h));
  absent = blank_absent g.L.LeafKind.write g.L.LeafKind.side g.L.LeafKind.IsLeaf _ (rw c.self.view_is at c.self.invariant.0.canonical) g.met.L.LeafKind.some c.args.stamp k c.in_default.ensures.none;
}

pub returns-clause-draws : goal.returns-clause-draws
returns-clause-draws g c = blank_draws g.L.LeafKind.write g.L.LeafKind.side _ _ _ (pushed_there g.L.LeafKind.write g.L.LeafKind.side _ _ _ _ c.in_ok-part.ensures.pushed)

pub returns-clause-added : goal.returns-clause-added
returns-clause-added g c = λ k. pushed_added g.L.LeafKind.write g.L.LeafKind.side _ _ _ _ c.in_ok-part.ensures.pushed k (blank_grid c.args.stamp)
    (blank_absent g.L.LeafKind.write g.L.LeafKind.side g.L.LeafKind.IsLeaf _ (rw c.self.view_is at c.self.invariant.0.canonical) g.met.L.LeafKind.some c.args.stamp k c.in_default.ensures.none)

pub returns-clause-grows : goal.returns-clause-grows
returns-clause-grows g c = pushed_grown g.L.LeafKind.write g.L.LeafKind.side _ _ _ _ c.in_ok-part.ensures.pushed g.L.LeafKind.IsLeaf (subst (λ s. IsStore g.L.LeafKind.write g.L.LeafKind.side g.L.LeafKind.IsLeaf s) c.self.view_is c.self.invariant.0)

pub returns-clause-firsts : goal.returns-clause-firsts
returns-clause-firsts g c = pushed_firsts g.L.LeafKind.write g.L.LeafKind.side _ _ _ _ c.in_ok-part.ensures.pushed
