use Rattle.std.proofs.Common.{◌<◌, sym, subst, length}
use Rattle.square_store.specs.Steps.{IsAbsentNode, IsWanted, IsSummed}
use Rattle.square_store.proofs.Nodes.{not_full, good_node}
use Rattle.square_store.proofs.store.Store.push.Goals as goal

pub invariant_of-self-2 : goal.invariant_of-self-2
invariant_of-self-2 g c =
    let s = c.self.inside in
    let absent = subst (λ h. IsAbsentNode h c.args.node) (sym c.self.view_is) c.requires.absent in
    let wanted = subst (λ h. IsWanted h c.args.node) (sym c.self.view_is) c.requires.wanted in
    let summed = subst (λ h. IsSummed g.L.LeafKind.write g.L.LeafKind.side g.L.LeafKind.IsSummary h c.args.node c.args.summary) (sym c.self.view_is) c.requires.summed in
    let below : length s.squares.nodes < s.room = not_full (length s.squares.nodes) s.room _ (rw (← c.self.view_is) at c.is_full.ensures) c.if-is_full.false c.self.invariant.0.few_squares in
    rw (c.push.ensures.nodes, c.push.ensures.summaries, c.push.ensures.firsts, c.reserve.ensures.nodes, c.reserve.ensures.summaries, c.reserve.ensures.firsts)
    (good_node g.L.LeafKind.write g.L.LeafKind.side g.L.LeafKind.IsLeaf g.L.LeafKind.IsSummary _ s.squares.summaries c.self.invariant c.args.node c.args.summary absent wanted summed below)
