use Rattle.std.proofs.Common.{ℕ, sym, subst}
use Rattle.board.specs.Origins.{list_of}
use Rattle.board_keeper.specs.Keeping.{Keeping}
use Rattle.board_keeper.specs.Steps.{AreSteps}
use Rattle.board_keeper.proofs.Ends.{on_err, on_ok, steps_grow, whole_before}
use Rattle.board_keeper.proofs.keeper.Keeper.finish.Goals as goal

pub returns-in-Ok-clause-whole : goal.returns-in-Ok-clause-whole
returns-in-Ok-clause-whole g c =
    let a : Keeping = c.args.self in
    let b : Keeping = c.drain.new.self in
    let steps = c.drain.ensures.steps in
    on_ok c.end.result _ _
    (λ e w. whole_before a.relay.origin b.relay.origin a.relay.list b.relay.list (list_of e.0.front) c.args.seats.items e.0 c.drain.ensures.same.0.origin (steps_grow steps.0 a b steps.1) w)
    c.end.ensures.whole

pub returns-in-Ok-clause-steps : goal.returns-in-Ok-clause-steps
returns-in-Ok-clause-steps g c =
    on_err c.end.result _ _ (λ e same. subst (λ (k : Keeping). (steps : ℕ) × AreSteps steps c.args.self k) (sym same.0) c.drain.ensures.steps) c.end.ensures.same

pub returns-in-Ok-clause-drained : goal.returns-in-Ok-clause-drained
returns-in-Ok-clause-drained g c =
    on_ok c.end.result _ _ (λ e left. (c.drain.new.self, c.drain.ensures.steps, left.0, left.1)) c.end.ensures.left
