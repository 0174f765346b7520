use Rattle.std.proofs.Common.{arith, ◌≢◌}
use Rattle.stamped_tree.proofs.Gathering.{gathers_one}
use Rattle.generation_engine.proofs.Counted.{counted_live}
use Rattle.generation_engine.proofs.walk.push_live.Goals as goal

pub returns-in_ok-push : goal.returns-in_ok-push
returns-in_ok-push c =
    let live : c.args.cell.state ≢ 0 = search (arith, c.if-cell-ne0.true) in
    record {
      gathers = rw c.in_ok-push.ensures (gathers_one c.args.cell c.args.found.now live);
      count = counted_live c.args.cell c.args.found.now _ c.in_ok-push.ensures live;
    }
