use Rattle.std.proofs.Common.{inl, rules}
use Rattle.httparse.specs.Spans.{IsRequestOf}
use Rattle.web_requests.proofs.RouteLaws.{answered_head, let_in}
use Rattle.web_requests.proofs.visit.wanted.Goals as goal

pub returns-in-Ok-Complete-clause-row : goal.returns-in-Ok-Complete-clause-row
returns-in-Ok-Complete-clause-row c =
    let found : IsRequestOf c.args.bytes.now c.parse_request.new.headers c.in-Ok-Complete.request = rw c.in-Ok-Complete.field-0-is at c.in-Ok-Complete.ensures.complete in
    inl (answered_head c.args.bytes.now c.args.house.now c.parse_request.new.headers c.in-Ok-Complete.request c.visit_of.result found.0 (search rules) found.1 c.visit_of.ensures)

pub returns-in-Ok-Complete-clause-let_in : goal.returns-in-Ok-Complete-clause-let_in
returns-in-Ok-Complete-clause-let_in c = let_in c.args.bytes.now c.args.house.now c.visit_of.result (returns-in-Ok-Complete-clause-row c)
