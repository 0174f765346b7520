use Rattle.generation_engine.proofs.ResultLaws.{moves_along, has_one_result, centre_is_result, in_two_passes}
use Rattle.generation_engine.proofs.laws.engine_laws.Goals as goal

pub returns-clause-moves : goal.returns-clause-moves
returns-clause-moves c = moves_along

pub returns-clause-result : goal.returns-clause-result
returns-clause-result c = has_one_result

pub returns-clause-centre : goal.returns-clause-centre
returns-clause-centre c = centre_is_result

pub returns-clause-nine_and_four : goal.returns-clause-nine_and_four
returns-clause-nine_and_four c = in_two_passes
