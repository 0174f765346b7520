use Rattle.std.proofs.Common.{◌≡◌, ◌-◌, ◌/◌}
use Rattle.population_charts.specs.Axis.{round_above}
use Rattle.population_charts.proofs.axis.tick_distance.Given as goal

abbrev pub invariant-loop-place : goal.invariant-loop-place
invariant-loop-place l = round_above 55 0 (l.span / 10) ≡ round_above (55 - l.place) l.place (l.span / 10)
