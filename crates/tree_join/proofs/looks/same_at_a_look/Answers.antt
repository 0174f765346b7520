use Rattle.std.proofs.Common.{sym, subst, Bool, ◌↔◌}
use Rattle.std.specs.Prelude.{IsTrue}
use Rattle.square_store.specs.Squares.{grid_at, side_at}
use Rattle.stamped_tree.specs.declared.leaf_kind.StampBounds.{StampBounds}
use Rattle.stamped_tree.specs.LeafKind.{plane_grid, AreStampBounds}
use Rattle.tree_join.specs.Squares.{AreSameSquares}
use Rattle.tree_join.proofs.Comparing.{bounds_same, looks_blank, looks_spelt}
use Rattle.tree_join.proofs.looks.same_at_a_look.Goals as goal

pub returns-in-Some : goal.returns-in-Some
returns-in-Some c = λ k at ct.
    (let same = bounds_same c.bounds.result c.bounds-2.result c.if-ne.ensures in
    subst (λ (r : Bool). IsTrue r ↔ AreSameSquares c.args.square.now.store c.args.other.now.store k c.args.square.now.part c.args.other.now.part) (sym c.is_some.ensures)
    (looks_blank c.args.square.now.store c.args.other.now.store k c.args.square.now.part c.args.other.now.part at ct c.bounds.result (c.bounds.ensures k at)
    (subst (λ (b : StampBounds). AreStampBounds (side_at 8 k) (grid_at plane_grid 8 c.args.other.now.store k c.args.other.now.part) b) (sym same) (c.bounds-2.ensures k ct))
    _ c.in-Some.ensures c.blank_stamp-counterpart.result c.blank_stamp-counterpart.ensures))

pub returns-in-Some-counterpart : goal.returns-in-Some-counterpart
returns-in-Some-counterpart c = λ k at ct. looks_spelt c.args.square.now.store c.args.other.now.store k c.args.square.now.part c.args.other.now.part at ct c.in-None.ensures _ c.in-Some-counterpart.ensures
