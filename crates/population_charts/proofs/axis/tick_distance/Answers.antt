use Rattle.std.proofs.Common.{◌∙◌, ◌/◌, ◌<◌, ◌≤◌, sym, subst, arith}
use Rattle.population_charts.specs.Axis.{round_number}
use Rattle.population_charts.proofs.RoundLaws.{distance_is, found, last_round, none_found, passed}
use Rattle.population_charts.proofs.axis.tick_distance.Goals as goal

pub returns-then-span-round-clause-distance : goal.returns-then-span-round-clause-distance
returns-then-span-round-clause-distance c =
    let round = c.round_number-round.ensures.round in
    let above : c.args.span / 10 < round_number c.loop-place.place = subst (λ r. c.args.span / 10 < r) round c.if-span-round.true in
    round ∙ sym (found c.loop-place.place (c.args.span / 10) c.loop-place-test.true above) ∙ sym c.loop-place.invariant ∙ sym (distance_is c.args.span)

pub loop-place-preserved : goal.loop-place-preserved
loop-place-preserved c =
    let round = c.round_number-round.ensures.round in
    let not_above : round_number c.loop-place.place ≤ c.args.span / 10 = subst (λ r. r ≤ c.args.span / 10) round c.if-span-round.false in
    c.loop-place.invariant ∙ passed c.loop-place.place (c.args.span / 10) c.loop-place-test.true not_above

pub returns-clause-distance : goal.returns-clause-distance
returns-clause-distance c =
    c.round_number.ensures.round ∙ sym (none_found c.loop-place.place (c.args.span / 10) c.loop-place.auto.place-end c.loop-place-test.false)
    ∙ sym c.loop-place.invariant ∙ sym (distance_is c.args.span)

pub returns-then-span-round-clause-reaches : goal.returns-then-span-round-clause-reaches
returns-then-span-round-clause-reaches c = omega arith

pub returns-clause-reaches : goal.returns-clause-reaches
returns-clause-reaches c = let last = c.round_number.ensures.round ∙ last_round in omega arith
