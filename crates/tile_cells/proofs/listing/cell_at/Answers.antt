use Rattle.std.proofs.Common.{◌≡◌, arith}
use Rattle.std.specs.Prelude.{◌+ℤ◌, pos}
use Rattle.std.proofs.lemmas.Int.{ints}
use mir.Syntax.{w32}
use mir.Val.{to_z, of_z}
use Rattle.tile_cells.proofs.listing.cell_at.Goals as goal

pub returns-clause-place : goal.returns-clause-place
returns-clause-place c =
    let inside = c.requires.corner in
    let x : to_z w32 (of_z w32 (to_z w32 (of_z w32 c.args.corner.x) +ℤ to_z w32 c.args.column)) ≡ c.args.corner.x +ℤ pos c.args.column = omega (arith, ints, inside.left, inside.right, c.requires.column) in
    let y : to_z w32 (of_z w32 (to_z w32 (of_z w32 c.args.corner.y) +ℤ to_z w32 c.args.row)) ≡ c.args.corner.y +ℤ pos c.args.row = omega (arith, ints, inside.above, inside.below, c.requires.row) in
    λ i. record { x = x i; y = y i }
