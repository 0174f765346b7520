use Rattle.std.proofs.Common.{◌∙◌, map, sym}
use Rattle.seat_server.proofs.EndingLaws.{goes_on_from, stays}
use Rattle.seat_server.proofs.ListLaws.{as_many, in_order, served}
use Rattle.seat_server.proofs.TurningLaws.{closes_same}
use Rattle.seat_server.proofs.server.serve_seats.Goals as goal

pub closed-requires-clause-all : goal.closed-requires-clause-all
closed-requires-clause-all g c =
    let are = c.in_ok-attended.ensures.served in
    (closes_same c.take_turns.new.relay c.close.new.self c.close.ensures.closed).0
    ∙ (c.take_turns.ensures.same.0 ∙ (c.requires.all ∙ sym (as_many c.args.attendance are.visits (map (λ a. a.0) c.in_ok-attended.attended.items) are.attended)))

pub closed-requires-clause-order : goal.closed-requires-clause-order
closed-requires-clause-order g c =
    let are = c.in_ok-attended.ensures.served in
    in_order 0 c.args.attendance are.visits (map (λ a. a.0) c.in_ok-attended.attended.items) are.attended c.requires.order

pub returns-clause-stays : goal.returns-clause-stays
returns-clause-stays g c =
    stays 1000 c.args.relay c.take_turns.new.relay c.close.new.self c.in_default.ensures.turned c.close.ensures.closed c.closed.result
    (map (λ a. a.0) c.in_ok-attended.attended.items) c.closed.ensures.whole

pub returns-clause-goes_on : goal.returns-clause-goes_on
returns-clause-goes_on g c =
    goes_on_from 1000 c.args.relay c.take_turns.new.relay c.close.new.self c.in_default.ensures.turned c.close.ensures.closed c.closed.result
    (map (λ a. a.0) c.in_ok-attended.attended.items) c.closed.ensures.whole

pub returns-clause-served : goal.returns-clause-served
returns-clause-served g c =
    let board = (closes_same c.take_turns.new.relay c.close.new.self c.close.ensures.closed).1 ∙ c.take_turns.ensures.same.1 in
    served c.closed.result c.args.relay.origin c.close.new.self.origin c.args.attendance (map (λ a. a.1) c.in_ok-attended.attended.items) (map (λ a. a.0) c.in_ok-attended.attended.items)
    c.close.new.self.list board c.in_ok-attended.ensures.served c.closed.ensures.ends c.closed.ensures.whole
