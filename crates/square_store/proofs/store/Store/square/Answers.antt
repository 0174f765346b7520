use Rattle.std.proofs.Common.{sym, ap, ◌∙◌, Some}
use Rattle.square_store.specs.declared.node.Node.{Node}
use Rattle.square_store.proofs.Made.{blank_draws, leaf_seen, four_seen}
use Rattle.square_store.proofs.store.Store.square.Goals as goal

pub returns-in-Blank : goal.returns-in-Blank
returns-in-Blank g c = blank_draws g.L.LeafKind.write g.L.LeafKind.side _ _ _ (sym c.node.ensures ∙ c.in-Some.is ∙ ap (λ (x : Node). Some x) c.in-Blank.is)

pub returns-in-Some-get_index : goal.returns-in-Some-get_index
returns-in-Some-get_index g c =
    rw (← c.self.view_is) (leaf_seen g.L.LeafKind.write g.L.LeafKind.side g.L.LeafKind.IsLeaf _ c.self.invariant.0.canonical g.met.L.LeafKind.some _ _ c.in-Leaf.at
    (rw (← c.self.view_is) at (sym c.node.ensures ∙ c.in-Some.is ∙ ap (λ (x : Node). Some x) c.in-Leaf.is)) (sym c.in-Some-get_index.ensures.key))

pub returns-in-Four : goal.returns-in-Four
returns-in-Four g c =
    four_seen g.L.LeafKind.write g.L.LeafKind.side g.L.LeafKind.IsLeaf _ (rw c.self.view_is at c.self.invariant.0.canonical) g.met.L.LeafKind.some g.met.L.LeafKind.exact _ _ _ _ _ _
    (sym c.node.ensures ∙ c.in-Some.is ∙ ap (λ (x : Node). Some x) c.in-Four.is)
