use Rattle.std.proofs.Common.{◌∙◌, ℕ, List, ap, length, subst, sym}
use Rattle.std.specs.Arc.{arc_value}
use Rattle.crossbeam_queue.specs.Passes.{ruled_capacity}
use Rattle.relay_board.specs.Seating.{AllFresh, Numbered, Seating}
use Rattle.genedit_serve.specs.Serving.{AreFreshSeats}
use Rattle.genedit_serve.proofs.ServingLaws.{ends, numbered, unattended, unserved, untold}
use Rattle.genedit_serve.proofs.server.serve.Goals as goal

pub seats_served-requires-clause-all : goal.seats_served-requires-clause-all
seats_served-requires-clause-all g c κs within = c.in-Ok.ensures.relay.3 ∙ (sym c.in-Ok.ensures.seats.1 ∙ ap length (sym c.in-Ok-seated.ensures.seats))

pub seats_served-requires-clause-order : goal.seats_served-requires-clause-order
seats_served-requires-clause-order g c κs within =
    subst (Numbered 0) (sym c.in-Ok-seated.ensures.seats) (numbered c.args.opened.first c.args.opened.rule (ruled_capacity (arc_value c.args.opened.drain.queue)) 0 c.in-Ok.named.1.items c.in-Ok.ensures.seats.0)

pub returns-in-Err-seated : goal.returns-in-Err-seated
returns-in-Err-seated g c =
    unattended c.args.opened.rule c.args.opened.first c.args.opened.count c.args.bound.told.items _ c.in-Err-seated.fault c.server_fault.result c.in-Err-seated.ensures.fault c.server_fault.ensures

pub returns-in-Err-tell : goal.returns-in-Err-tell
returns-in-Err-tell g c = untold c.args.opened.rule c.args.opened.first c.args.opened.count c.args.bound.told.items _ _ c.in-Err-tell.fault c.in-Err-tell.ensures.untold

pub returns-in-Err-seats_served : goal.returns-in-Err-seats_served
returns-in-Err-seats_served g c =
    unserved c.args.opened.rule c.args.opened.first c.args.opened.count _ _ c.args.bound.told.items c.in-Ok-tell.ensures.told _ c.in-Ok-seated.seated.0 c.in-Err-seats_served.fault c.server_fault-in-Err-seats_served.result
    (record {
      published = c.in-Ok.ensures.relay.0;
      taken = c.in-Ok.ensures.relay.1;
      kept = c.in-Ok.ensures.relay.2;
      seats = c.in-Ok.ensures.relay.3;
      closed = c.in-Ok.ensures.relay.4;
      squares = c.in-Ok.ensures.relay.6 ∙ c.requires.squares;
    })
    (subst (λ (ss : List Seating). AreFreshSeats c.args.opened.rule c.args.opened.first c.args.opened.count ss) (sym c.in-Ok-seated.ensures.seats)
    (subst (λ (room : ℕ). AllFresh c.args.opened.first c.args.opened.rule room 0 c.in-Ok.named.1.items) c.requires.room c.in-Ok.ensures.seats.0, c.in-Ok.ensures.seats.1)) c.in-Err-seats_served.ensures.reason c.server_fault-in-Err-seats_served.ensures

pub returns-in_ok-text-in-Ok-seats_served : goal.returns-in_ok-text-in-Ok-seats_served
returns-in_ok-text-in-Ok-seats_served g c =
    ends c.args.opened.rule c.args.opened.first c.args.opened.count _ _ c.args.bound.told.items c.in-Ok-tell.ensures.told
    c.in-Ok.named.0.origin c.in-Ok-seated.seated.0 c.in-Ok-seats_served.finished _
    c.push_output.result c.deref.result.now c.in-Ok.ensures.states
    (subst (λ (ss : List Seating). AreFreshSeats c.args.opened.rule c.args.opened.first c.args.opened.count ss) (sym c.in-Ok-seated.ensures.seats)
    (subst (λ (room : ℕ). AllFresh c.args.opened.first c.args.opened.rule room 0 c.in-Ok.named.1.items) c.requires.room c.in-Ok.ensures.seats.0, c.in-Ok.ensures.seats.1))
    c.in-Ok-seats_served.ensures.served
    (c.deref.ensures.value ∙ c.in_ok-text-in-Ok-seats_served.ensures) c.push_output.ensures.pushed c.push_output.ensures.fault
