use Rattle.std.proofs.Common.{refl}
use Rattle.square_store.proofs.Places.{node_at}
use Rattle.square_store.proofs.Growth.{kept_store, kept_summaries, kept_grown}
use Rattle.square_store.proofs.store.Store.keep_first.Goals as goal

pub keep_first-requires : goal.keep_first-requires
keep_first-requires g c = node_at _ _ _ _ refl (rw (← c.self.view_is, ← c.part.view_is) at c.requires)

pub invariant_of-self : goal.invariant_of-self
invariant_of-self g c = rw c.keep_first.ensures (
  kept_store g.L.LeafKind.write g.L.LeafKind.side g.L.LeafKind.IsLeaf _ c.self.invariant.0 _,
  kept_summaries g.L.LeafKind.write g.L.LeafKind.side g.L.LeafKind.IsLeaf _ c.self.invariant.0 g.L.LeafKind.IsSummary _ c.self.invariant.1 _,
)

pub returns-clause-grows : goal.returns-clause-grows
returns-clause-grows g c = rw (← c.self.view_is) (rw c.keep_first.ensures (kept_grown g.L.LeafKind.write g.L.LeafKind.side g.L.LeafKind.IsLeaf _ c.self.invariant.0 _))
