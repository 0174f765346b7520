use Rattle.board_keeper.proofs.Doing.{shows_more}
use Rattle.board_keeper.proofs.keeper.Keeper.show_all.Goals as goal

pub loop-shown-preserved : goal.loop-shown-preserved
loop-shown-preserved g c =
    let one = rw c.if-not-show_one.false at c.show_one.ensures in
    shows_more _ c.loop-shown.self c.show_one.new.self c.loop-shown.shown _ c.loop-shown.invariant.0 c.loop-shown.invariant.1 one.0 one.1
