use Rattle.std.proofs.Common.{◌<◌, length, arith}
use Rattle.tile_steps.proofs.SetLemmas.{digit_put}
use Rattle.tile_steps.proofs.tile.set_digit.Goals as goal

pub returns : goal.returns
returns c =
    let within : c.args.row < length c.args.rows.now = omega (arith, c.requires.row) in
    digit_put c.args.column c.args.row _ c.with_digit.result c.args.rows.now within c.with_digit.ensures
