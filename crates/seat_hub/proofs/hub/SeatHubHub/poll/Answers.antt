use Rattle.std.proofs.Common.{◌≡◌, subst}
use Rattle.generations_rule.specs.Rule.{GenerationsRule}
use Rattle.poll_news.specs.Below.{IsNewsBelow}
use Rattle.seat_hub.proofs.hub.SeatHubHub.poll.Goals as goal

pub returns-in-Ok-clause-allowed : goal.returns-in-Ok-clause-allowed
returns-in-Ok-clause-allowed g c = (
  record { read = c.in-Ok.ensures.same; handed = c.in-Ok.ensures.news.1 },
  c.in-Ok.ensures.news.0,
)

pub returns-in-Ok-clause-states : goal.returns-in-Ok-clause-states
returns-in-Ok-clause-states g c = subst (λ (r : GenerationsRule). IsNewsBelow r.states c.in-Ok.news) c.in-Ok.ensures.same.same.rule c.in-Ok.ensures.below
