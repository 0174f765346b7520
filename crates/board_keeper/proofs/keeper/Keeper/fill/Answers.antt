use Rattle.std.proofs.Common.{ℕ, subst}
use Rattle.relay_board.specs.Same.{Same}
use Rattle.board_keeper.specs.Keeping.{Keeping}
use Rattle.board_keeper.specs.Steps.{AreSteps}
use Rattle.board_keeper.proofs.Growing.{filled}
use Rattle.board_keeper.proofs.keeper.Keeper.fill.Goals as goal

pub invariant_of-self : goal.invariant_of-self
invariant_of-self g c =
    let s = c.self.inside in
    let k : Keeping = record { relay = s.relay; rule = s.rule; file = g.K.Keep.known s.log.keep; takes = s.log.state; committed = s.committed } in
    (filled k c.filled.new.relay s.bodies.items c.filled.result c.self.invariant c.filled.ensures).0

pub returns-clause-same : goal.returns-clause-same
returns-clause-same g c =
    let s = c.self.inside in
    let k : Keeping = record { relay = s.relay; rule = s.rule; file = g.K.Keep.known s.log.keep; takes = s.log.state; committed = s.committed } in
    subst (λ (v : Keeping). Same v.relay c.filled.new.relay) c.self.view_is (filled k c.filled.new.relay s.bodies.items c.filled.result c.self.invariant c.filled.ensures).2

pub returns-clause-steps : goal.returns-clause-steps
returns-clause-steps g c =
    let s = c.self.inside in
    let k : Keeping = record { relay = s.relay; rule = s.rule; file = g.K.Keep.known s.log.keep; takes = s.log.state; committed = s.committed } in
    subst (λ (v : Keeping). (steps : ℕ) × AreSteps steps v (record k { relay = c.filled.new.relay })) c.self.view_is (filled k c.filled.new.relay s.bodies.items c.filled.result c.self.invariant c.filled.ensures).1
