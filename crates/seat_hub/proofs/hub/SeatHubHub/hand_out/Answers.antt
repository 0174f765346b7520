use Rattle.std.proofs.Common.{subst}
use Rattle.generations_rule.specs.Rule.{GenerationsRule}
use Rattle.edit_stamps.specs.PlaneMap.{HasStatesBelow}
use Rattle.stamped_tree.specs.Plane.{map_of}
use Rattle.seat_hub.proofs.hub.SeatHubHub.hand_out.Goals as goal

pub returns-in-Ok-clause-allowed : goal.returns-in-Ok-clause-allowed
returns-in-Ok-clause-allowed g c = (
  record { read = c.in-Ok.ensures.same; handed = c.in-Ok.ensures.count.1 },
  c.in-Ok.ensures.plane,
  c.in-Ok.ensures.count.0,
)

pub returns-in-Ok-clause-states : goal.returns-in-Ok-clause-states
returns-in-Ok-clause-states g c = subst (λ (r : GenerationsRule). HasStatesBelow r.states (map_of c.in-Ok.given.0)) c.in-Ok.ensures.same.same.rule c.in-Ok.ensures.states
