use Rattle.std.proofs.Common.{◌≡◌, suc, inl, inr, sym, ap, subst, ◌∙◌}
use Rattle.board_keeper.specs.Keeping.{Keeping}
use Rattle.board_keeper.specs.Steps.{AreSteps}
use Rattle.board_keeper.specs.Turns.{IsKeeperTurn}
use Rattle.board_keeper.proofs.Turning.{fills_list, idle_comes, refused_turn, turn_behind}
use Rattle.board_keeper.proofs.keeper.Keeper.turn.Goals as goal

pub returns-then-count_ready-eq0-clause-turned : goal.returns-then-count_ready-eq0-clause-turned
returns-then-count_ready-eq0-clause-turned g c =
    let a : Keeping = c.args.self.now in
    let b : Keeping = c.fill-last.new.self in
    let none : b.relay.ready ≡ 0 = sym (ap (λ (v : Keeping). v.relay.ready) c.self-2.view_is) ∙ (sym c.count_ready.ensures ∙ c.if-count_ready-eq0.true) in
    let turn : IsKeeperTurn a _ b =
    record { steps = c.fill-last.ensures.steps.0; taken = c.fill-last.ensures.steps.1; comes = idle_comes a b c.fill-last.result c.fill-last.ensures.filled c.fill-last.ensures.left none } in
    subst (λ t. IsKeeperTurn a t b) (sym c.idle_turn.ensures) turn

pub returns-in-Ok-clause-turned : goal.returns-in-Ok-clause-turned
returns-in-Ok-clause-turned g c =
    let a : Keeping = c.args.self.now in
    let m : Keeping = c.fill-last.new.self in
    let d : Keeping = c.commit.new.self in
    let done = rw c.in-Ok.is at c.commit.ensures in
    let steps : AreSteps (suc c.fill-last.ensures.steps.0) a d = (m, c.fill-last.ensures.steps.1, inr (inl done.0), done.1) in
    let list : d.relay.list ≡ a.relay.list = ap (λ (v : Keeping). v.relay.list) done.0.left ∙ fills_list a.relay m.relay c.fill-last.result c.fill-last.ensures.filled in
    turn_behind a d c.show_turn-in-Ok.new.self c.show_turn-in-Ok.result (suc c.fill-last.ensures.steps.0) steps list c.show_turn-in-Ok.ensures.busy c.show_turn-in-Ok.ensures.turned

pub returns-in-Err-clause-turned : goal.returns-in-Err-clause-turned
returns-in-Err-clause-turned g c =
    let a : Keeping = c.args.self.now in
    let m : Keeping = c.fill-last.new.self in
    let list = fills_list a.relay m.relay c.fill-last.result c.fill-last.ensures.filled in
    refused_turn a m c.commit.new.self c.in-Err.fault c.fill-last.ensures.steps.0 c.fill-last.ensures.steps.1 list (rw c.in-Err.is at c.commit.ensures)
