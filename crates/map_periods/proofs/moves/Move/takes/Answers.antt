use Rattle.map_periods.proofs.MoveLaws.{taken}
use Rattle.map_periods.proofs.moves.Move.takes.Goals as goal

pub returns : goal.returns
returns c = taken c.args.from.now c.args.to.now c.between.result c.args.self _ c.if-from-to.false (record { right = c.between.ensures.right; down = c.between.ensures.down }) c.is_same.ensures
