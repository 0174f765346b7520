use Rattle.map_periods.proofs.MoveLaws.{has_one_move}
use Rattle.map_periods.proofs.PeriodLaws.{has_one_period, periods_repeat}
use Rattle.map_periods.proofs.laws.period_laws.Goals as goal

pub returns-clause-one_move : goal.returns-clause-one_move
returns-clause-one_move c = has_one_move

pub returns-clause-one_period : goal.returns-clause-one_period
returns-clause-one_period c = has_one_period

pub returns-clause-repeat : goal.returns-clause-repeat
returns-clause-repeat c = periods_repeat
