use Rattle.web_requests.proofs.RouteLaws.{opens_none}
use Rattle.web_requests.proofs.visit.visit_of.Goals as goal

pub returns-in-Err-check_request : goal.returns-in-Err-check_request
returns-in-Err-check_request c = let none = opens_none c.in-Ok-Seat.key c.args.request.now.len c.in-Err-check_request.field-0 _ c.in-Err-check_request.ensures in rw (← c.in-Ok-Seat.ensures, c.in-Ok-Seat.field-0-is) none
