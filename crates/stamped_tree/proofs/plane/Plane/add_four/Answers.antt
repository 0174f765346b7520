use Rattle.std.proofs.Common.{arith, ◌<◌}
use Rattle.stamped_tree.specs.Plane.{above_leaf, grid_of_parts, AreQuarterParts}
use Rattle.stamped_tree.proofs.Held.{holds_added, four_has}
use Rattle.stamped_tree.proofs.plane.Plane.add_four.Goals as goal

pub invariant_of-self-2 : goal.invariant_of-self-2
invariant_of-self-2 c =
    let above : 0 < above_leaf c.args.level = (let h = c.requires.least in omega (arith, h)) in
    let parts : AreQuarterParts c.self.inside.store c.args.level c.args.parts = rw (← c.self.view_is) at c.requires.parts in
    record {
      root = c.in_ok-part.ensures.grows.stands 28 c.self.inside.root c.self.invariant.root;
      writes = holds_added _ _ (above_leaf c.args.level) (grid_of_parts c.self.inside.store c.args.level c.args.parts) _ c.self.invariant.writes c.in_ok-part.ensures.grows c.in_ok-part.ensures.draws
          (four_has c.self.inside.store c.self.invariant.writes (above_leaf c.args.level) above c.args.parts parts) c.in_ok-part.ensures.added;
    }
