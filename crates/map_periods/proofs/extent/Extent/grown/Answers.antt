use Rattle.std.proofs.Common.{◌≡◌, rules, w32, to_z, of_z}
use Rattle.std.specs.Int.{int_max, int_min}
use Rattle.map_periods.proofs.extent.Extent.grown.Goals as goal

pub returns : goal.returns
returns c =
    let left : to_z w32 (of_z w32 c.min.result) ≡ int_min c.args.self.left c.args.cell.now.x = search rules in
    let top : to_z w32 (of_z w32 c.min-2.result) ≡ int_min c.args.self.top c.args.cell.now.y = search rules in
    let right : to_z w32 (of_z w32 c.max.result) ≡ int_max c.args.self.right c.args.cell.now.x = search rules in
    let bottom : to_z w32 (of_z w32 c.max-2.result) ≡ int_max c.args.self.bottom c.args.cell.now.y = search rules in
    λ i. record { left = left i; top = top i; right = right i; bottom = bottom i }
