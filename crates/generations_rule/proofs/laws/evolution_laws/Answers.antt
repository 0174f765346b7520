use Rattle.generations_rule.proofs.EvolutionLaws.{runs_compose, is_local, stays_empty, stays_in_range}
use Rattle.generations_rule.proofs.laws.evolution_laws.Goals as goal

pub returns-clause-compose : goal.returns-clause-compose
returns-clause-compose c = runs_compose

pub returns-clause-local : goal.returns-clause-local
returns-clause-local c = is_local

pub returns-clause-empty : goal.returns-clause-empty
returns-clause-empty c = stays_empty

pub returns-clause-in_range : goal.returns-clause-in_range
returns-clause-in_range c = stays_in_range
