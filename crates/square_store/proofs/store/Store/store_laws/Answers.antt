use Rattle.square_store.proofs.Places.{same_place}
use Rattle.square_store.proofs.store.Store.store_laws.Goals as goal

pub returns-clause-parts : goal.returns-clause-parts
returns-clause-parts g c = λ k p q hp hq same. same_place g.L.LeafKind.write g.L.LeafKind.side g.L.LeafKind.IsLeaf _ (rw c.self.view_is at c.self.invariant.0.canonical) g.met.L.LeafKind.some g.met.L.LeafKind.exact k p q hp hq same
