use Rattle.std.proofs.Common.{ap, subst, Err}
use Rattle.square_store.specs.Grid.{blank_grid}
use Rattle.square_store.specs.Store.{IsStore}
use Rattle.square_store.proofs.Made.{leaf_draws, leaf_absent, blank_leaf, drawn_as, full_as, room_as, added_as, entered_there, entered_added, entered_grown, entered_firsts, told}
use Rattle.square_store.proofs.store.Store.add_leaf.Goals as goal

pub returns-in_err-part-clause-full : goal.returns-in_err-part-clause-full
returns-in_err-part-clause-full g c = λ h.
    full_as g.L.LeafKind.write g.L.LeafKind.side 0 (g.L.LeafKind.write c.args.leaf) (blank_grid c.in-Some.stamp) (blank_leaf g.L.LeafKind.write g.L.LeafKind.side _ _ c.in-Some.ensures.blank) _
    (c.in_err-part.ensures.full (ap (λ e. Err e) (told _ _ _ c.from_residual.ensures.1 h)) 0)

pub returns-in_err-part-clause-memory : goal.returns-in_err-part-clause-memory
returns-in_err-part-clause-memory g c = λ h.
    room_as g.L.LeafKind.write g.L.LeafKind.side 0 (g.L.LeafKind.write c.args.leaf) (blank_grid c.in-Some.stamp) (blank_leaf g.L.LeafKind.write g.L.LeafKind.side _ _ c.in-Some.ensures.blank) _
    (c.in_err-part.ensures.memory (ap (λ e. Err e) (told _ _ _ c.from_residual.ensures.1 h)) 0)

pub returns-in-Some-clause-draws : goal.returns-in-Some-clause-draws
returns-in-Some-clause-draws g c =
    drawn_as g.L.LeafKind.write g.L.LeafKind.side 0 (g.L.LeafKind.write c.args.leaf) (blank_grid c.in-Some.stamp) (blank_leaf g.L.LeafKind.write g.L.LeafKind.side _ _ c.in-Some.ensures.blank) _ _
    (c.in_ok-part.ensures.draws 0)

pub returns-in-Some-clause-added : goal.returns-in-Some-clause-added
returns-in-Some-clause-added g c =
    added_as g.L.LeafKind.write g.L.LeafKind.side 0 (g.L.LeafKind.write c.args.leaf) (blank_grid c.in-Some.stamp) (blank_leaf g.L.LeafKind.write g.L.LeafKind.side _ _ c.in-Some.ensures.blank) _ _ _
    (c.in_ok-part.ensures.added 0)

pub returns-in_err-part-2-clause-full : goal.returns-in_err-part-2-clause-full
returns-in_err-part-2-clause-full g c = λ h. record {
  full = c.in_err-part-2.ensures.full (ap (λ e. Err e) (told _ _ _ c.from_residual-in_err-part-2.ensures.1 h));
  absent = leaf_absent g.L.LeafKind.write g.L.LeafKind.side g.L.LeafKind.IsLeaf _ (rw c.self.view_is at c.self.invariant.0.canonical) g.met.L.LeafKind.some g.met.L.LeafKind.exact c.args.leaf c.in_default.ensures.leaf c.in_default.ensures.blank c.in_err-part-2.ensures.absent;
}

pub returns-in_err-part-2-clause-memory : goal.returns-in_err-part-2-clause-memory
returns-in_err-part-2-clause-memory g c = λ h. record {
  room = c.in_err-part-2.ensures.memory (ap (λ e. Err e) (told _ _ _ c.from_residual-in_err-part-2.ensures.1 h));
  absent = leaf_absent g.L.LeafKind.write g.L.LeafKind.side g.L.LeafKind.IsLeaf _ (rw c.self.view_is at c.self.invariant.0.canonical) g.met.L.LeafKind.some g.met.L.LeafKind.exact c.args.leaf c.in_default.ensures.leaf c.in_default.ensures.blank c.in_err-part-2.ensures.absent;
}

pub returns-clause-draws : goal.returns-clause-draws
returns-clause-draws g c = leaf_draws g.L.LeafKind.write g.L.LeafKind.side _ _ _ (entered_there g.L.LeafKind.write g.L.LeafKind.side _ _ _ _ c.in_ok-part-2.ensures.entered)

pub returns-clause-added : goal.returns-clause-added
returns-clause-added g c = entered_added g.L.LeafKind.write g.L.LeafKind.side _ _ _ _ c.in_ok-part-2.ensures.entered 0 (g.L.LeafKind.write c.args.leaf)
    (leaf_absent g.L.LeafKind.write g.L.LeafKind.side g.L.LeafKind.IsLeaf _ (rw c.self.view_is at c.self.invariant.0.canonical) g.met.L.LeafKind.some g.met.L.LeafKind.exact c.args.leaf c.in_default.ensures.leaf c.in_default.ensures.blank)

pub returns-clause-grows : goal.returns-clause-grows
returns-clause-grows g c = entered_grown g.L.LeafKind.write g.L.LeafKind.side _ _ _ _ c.in_ok-part-2.ensures.entered g.L.LeafKind.IsLeaf (subst (λ s. IsStore g.L.LeafKind.write g.L.LeafKind.side g.L.LeafKind.IsLeaf s) c.self.view_is c.self.invariant.0)

pub returns-clause-firsts : goal.returns-clause-firsts
returns-clause-firsts g c = entered_firsts g.L.LeafKind.write g.L.LeafKind.side _ _ _ _ c.in_ok-part-2.ensures.entered
