use Rattle.std.proofs.Common.{◌∙◌}
use Rattle.board_keeper.proofs.Growing.{same_on}
use Rattle.board_keeper.proofs.Turning.{steps_on}
use Rattle.board_keeper.proofs.keeper.Keeper.drain.Goals as goal

pub loop-preserved : goal.loop-preserved
loop-preserved g c =
    let a = c.args.self.now in
    let m = c.loop.self in
    let b = c.turn.new.self in
    let i = c.loop.invariant in
    let t = c.turn.ensures in record {
      same = (same_on a.relay m.relay b.relay i.same.0 t.same.0, t.same.1 ∙ i.same.1);
      steps = steps_on t.turned.steps i.steps.0 a m b i.steps.1 t.turned.taken;
    }

pub returns-in-Failed-clause-steps : goal.returns-in-Failed-clause-steps
returns-in-Failed-clause-steps g c =
    let i = c.loop.invariant in
    let t = c.turn.ensures in
    steps_on t.turned.steps i.steps.0 c.args.self.now c.loop.self c.turn.new.self i.steps.1 t.turned.taken
