use Rattle.std.proofs.Common.{◌≡◌, ap, subst, ◌∙◌, arith}
use Rattle.board.specs.Showing.{Origin}
use Rattle.edit_stamps.specs.PlaneMap.{HasStatesBelow}
use Rattle.relay_board.specs.Relaying.{Relaying}
use Rattle.stamped_tree.specs.Plane.{map_of}
use Rattle.test_sessions.proofs.accounts.finished.Goals as goal

pub returns-in-Ok : goal.returns-in-Ok
returns-in-Ok g c =
    let same : c.close.new.self.origin.states ≡ c.args.opened.rule.states =
    ap (λ (r : Relaying). r.origin.states) c.close.ensures.closed ∙ (ap (λ (o : Origin). o.states) c.turn-turn.ensures.same.origin ∙ c.in_ok-relay.ensures.states) in record {
      states = subst (λ n. HasStatesBelow n (map_of c.in-Ok.account.plane)) same (c.in-Ok.ensures.whole.states (omega (arith, same, c.states-states.ensures.rule.least)));
    }
