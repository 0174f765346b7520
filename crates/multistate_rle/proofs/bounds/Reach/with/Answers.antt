use Rattle.std.proofs.Common.{◌≡◌, rules, refl, w32, to_z, of_z}
use Rattle.std.specs.Int.{int_min, int_max}
use Rattle.multistate_rle.proofs.bounds.Reach.with.Goals as goal

pub returns : goal.returns
returns c =
    let left : to_z w32 (of_z w32 c.min.result) ≡ int_min c.args.self.left c.args.cell.x = search rules in
    let right : to_z w32 (of_z w32 c.max.result) ≡ int_max c.args.self.right c.args.cell.x = search rules in
    let top : to_z w32 (of_z w32 c.min-2.result) ≡ int_min c.args.self.top c.args.cell.y = search rules in
    let bottom : to_z w32 (of_z w32 c.max-2.result) ≡ int_max c.args.self.bottom c.args.cell.y = search rules in
    rw (left, right, top, bottom) refl
