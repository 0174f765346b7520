use Rattle.std.proofs.Common.{◌≡◌, ℕ, true, sym, ap, subst, ◌∙◌, arith}
use Rattle.std.proofs.lemmas.Result.{IfOk-weaker}
use Rattle.edit_stamps.specs.Edit.{HaveStatesBelow}
use Rattle.board.specs.Entries.{edits_of, all_below}
use Rattle.board.specs.Origins.{list_of}
use Rattle.board.specs.Showing.{Origin}
use Rattle.relay_board.proofs.States.{have_below, news_below}
use Rattle.relay_board.proofs.seat.Seat.poll.Goals as goal

pub returns-clause-states : goal.returns-clause-states
returns-clause-states g c =
    let front = c.poll.new.self.window.front in
    subst (λ n. HaveStatesBelow n (edits_of (list_of front))) (ap (λ (h : Origin). h.states) c.poll.ensures.seen.1 ∙ sym c.self.invariant.ruled)
    (have_below front.states (list_of front) front.below)

pub returns-clause-below : goal.returns-clause-below
returns-clause-below g c =
    let front = c.poll.new.self.window.front in
    let n : ℕ = c.self.inside.rule.states in
    let same : front.states ≡ n = ap (λ (h : Origin). h.states) c.poll.ensures.seen.1 ∙ sym c.self.invariant.ruled in
    IfOk-weaker c.poll.result _ _ (λ news is. news_below n (list_of front) c.self.inside.reader.handed news (omega (arith, c.states-rule.ensures.rule.least)) (subst (λ k. all_below k (list_of front) ≡ true) same front.below) is.0) c.poll.ensures.news
