use Rattle.pattern_turns.proofs.OrderLaws.{is_turned_pattern}
use Rattle.pattern_turns.proofs.PatternLaws.{patterns_turn}
use Rattle.pattern_turns.proofs.PlaneLaws.{are_turns_of_the_plane, moves_commute, turns_commute}
use Rattle.pattern_turns.proofs.TurningLaws.{has_one_turn}
use Rattle.pattern_turns.proofs.WayLaws.{are_a_group}
use Rattle.pattern_turns.proofs.laws.turn_laws.Goals as goal

pub returns-clause-group : goal.returns-clause-group
returns-clause-group c = are_a_group

pub returns-clause-plane : goal.returns-clause-plane
returns-clause-plane c = are_turns_of_the_plane

pub returns-clause-one : goal.returns-clause-one
returns-clause-one c = has_one_turn

pub returns-clause-evolution : goal.returns-clause-evolution
returns-clause-evolution c = turns_commute

pub returns-clause-moves : goal.returns-clause-moves
returns-clause-moves c = moves_commute

pub returns-clause-patterns : goal.returns-clause-patterns
returns-clause-patterns c = patterns_turn

pub returns-clause-told : goal.returns-clause-told
returns-clause-told c = is_turned_pattern
