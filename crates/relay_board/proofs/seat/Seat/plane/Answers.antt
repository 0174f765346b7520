use Rattle.std.proofs.Common.{◌≡◌, ℕ, true, sym, ap, subst, ◌∙◌, arith}
use Rattle.std.proofs.lemmas.Result.{IfOk-weaker}
use Rattle.stamped_tree.specs.Plane.{map_of}
use Rattle.board.specs.Entries.{all_below}
use Rattle.board.specs.Origins.{list_of}
use Rattle.board.specs.Showing.{Origin}
use Rattle.relay_board.proofs.States.{plane_below}
use Rattle.relay_board.proofs.seat.Seat.plane.Goals as goal

pub returns-clause-states : goal.returns-clause-states
returns-clause-states g c =
    let front = c.plane.new.self.window.front in
    let n : ℕ = c.self.inside.rule.states in
    let same : front.states ≡ n = ap (λ (h : Origin). h.states) c.plane.ensures.seen.1 ∙ sym c.self.invariant.ruled in
    IfOk-weaker c.plane.result _ _ (λ p is. plane_below n (list_of front) (map_of p) (omega (arith, c.states-rule.ensures.rule.least)) (subst (λ k. all_below k (list_of front) ≡ true) same front.below) is) c.plane.ensures.plane
