use Rattle.std.proofs.Common.{suc, subst}
use Rattle.relay_board.specs.Turns.{Readies}
use Rattle.board_keeper.proofs.keeper.filled.Goals as goal

pub loop-preserved : goal.loop-preserved
loop-preserved g c =
    let readied = subst (λ t. Readies c.loop.relay t c.ready.new.self) c.in-Ready.is c.ready.ensures.readied in
    (suc c.loop.invariant.0, (c.loop.relay, c.loop.invariant.1, c.ready.ensures.same, readied))
