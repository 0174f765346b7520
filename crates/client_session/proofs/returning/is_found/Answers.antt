use Rattle.client_session.proofs.ReturnLaws.{found_whole}
use Rattle.client_session.proofs.returning.is_found.Goals as goal

pub returns-in_ok-writes-in-Whole : goal.returns-in_ok-writes-in-Whole
returns-in_ok-writes-in-Whole c =
    found_whole _ _ _ c.in-Some.doubted c.at_most.result c.in_ok-writes-in-Whole.writes c.plane-in-Whole.result.now c.edit-in-Whole.result.now c.in-Some.is c.in-Whole.is c.edit-in-Whole.ensures.edit c.plane-in-Whole.ensures.value
    c.in_ok-writes-in-Whole.ensures.map c.at_most.ensures
