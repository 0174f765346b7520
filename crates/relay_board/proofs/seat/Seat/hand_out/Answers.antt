use Rattle.std.proofs.Common.{◌≡◌, ℕ, true, sym, ap, subst, ◌∙◌, arith}
use Rattle.std.proofs.lemmas.Result.{IfOk-weaker}
use Rattle.stamped_tree.specs.Plane.{StampedPlane, map_of}
use Rattle.board.specs.Entries.{all_below}
use Rattle.board.specs.Origins.{list_of}
use Rattle.board.specs.Showing.{Origin}
use Rattle.relay_board.proofs.States.{plane_below}
use Rattle.relay_board.proofs.seat.Seat.hand_out.Goals as goal

pub returns-clause-states : goal.returns-clause-states
returns-clause-states g c =
    let front = c.hand_out.new.self.window.front in
    let n : ℕ = c.self.inside.rule.states in
    let same : front.states ≡ n = ap (λ (h : Origin). h.states) c.hand_out.ensures.seen.1 ∙ sym c.self.invariant.ruled in
    IfOk-weaker c.hand_out.result _ _ (λ (p : StampedPlane × ℕ) is. plane_below n (list_of front) (map_of p.0) (omega (arith, c.states-rule.ensures.rule.least)) (subst (λ k. all_below k (list_of front) ≡ true) same front.below) is) c.hand_out.ensures.plane
