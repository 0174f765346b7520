use Rattle.std.proofs.Common.{ℕ, List, subst}
use Rattle.devices.specs.Sink.{KnownSink}
use Rattle.genedit_serve.specs.Keeping.{TellsKept}
use Rattle.kept_server.specs.Serving.{IsServedBeside}
use Rattle.relay_board.specs.Seating.{Seating}
use Rattle.genedit_serve.proofs.KeptLaws.{attended_order, told_both, unattended_yet, unclosed, untold}
use Rattle.genedit_serve.proofs.kept.serve.Goals as goal

pub seats_served-requires-clause-order : goal.seats_served-requires-clause-order
seats_served-requires-clause-order g c κs within =
    attended_order c.in-Ok.prepared.keeper.relay.made c.in-Ok.prepared.seats.seats.items c.in-Ok-seated.seated.0 c.in-Ok.prepared.seats.file c.in-Ok-seated.ensures.seats c.in-Ok.ensures.order

pub returns-in-Err-seated : goal.returns-in-Err-seated
returns-in-Err-seated g c =
    unattended_yet c.args.place.bound.told.items (g.K.Sink.known c.args.sink.now) c.in-Err-seated.fault c.server_fault.result c.from.result.fault c.from.ensures c.server_fault.ensures c.in-Err-seated.ensures.fault

pub returns-in-Err-tell : goal.returns-in-Err-tell
returns-in-Err-tell g c =
    untold c.args.place.bound.told.items c.in-Ok.prepared.edits c.in-Ok.prepared.lost (g.K.Sink.known c.args.sink.now) (g.K.Sink.known c.tell.new.sink)
    c.in-Err-tell.fault c.from-in-Err-tell.result.fault c.from-in-Err-tell.ensures c.in-Err-tell.ensures.untold

pub returns-in-Err-seats_served : goal.returns-in-Err-seats_served
returns-in-Err-seats_served g c =
    told_both c.args.place.bound.told.items c.in-Ok.prepared.edits c.in-Ok.prepared.lost (g.K.Sink.known c.args.sink.now) (g.K.Sink.known c.tell.new.sink)
    c.in-Err-seats_served.refusal.fault c.in-Ok-tell.ensures.told c.in-Err-seats_served.ensures.refused

pub returns-in-Ok-closed : goal.returns-in-Ok-closed
returns-in-Ok-closed g c =
    let from : KnownSink = g.K.Sink.known c.args.sink.now in
    let between : KnownSink = g.K.Sink.known c.tell.new.sink in
    record {
      board = c.in-Ok.prepared.keeper.relay.origin;
      states = c.in-Ok.ensures.states;
      seats = c.in-Ok.prepared.seats.seats.items;
      file = c.in-Ok.prepared.seats.file;
      are = c.in-Ok.ensures.seats;
      finished = c.in-Ok-seats_served.finished;
      served = subst (λ (ss : List Seating). IsServedBeside c.in-Ok.prepared.keeper.relay.origin ss c.in-Ok.prepared.seats.file c.in-Ok-seats_served.finished) c.in-Ok-seated.ensures.seats c.in-Ok-seats_served.ensures.served;
      lost = c.in-Ok.prepared.lost;
      between = between;
      tells = subst (λ (n : ℕ). TellsKept n c.in-Ok.prepared.lost c.args.place.bound.told.items from between) c.in-Ok.ensures.edits c.in-Ok-tell.ensures.told;
      closes = c.in-Ok-closed.ensures.closed;
    }

pub returns : goal.returns
returns g c =
    unclosed c.args.place.bound.told.items c.in-Ok.prepared.edits c.in-Ok.prepared.lost (g.K.Sink.known c.args.sink.now) (g.K.Sink.known c.tell.new.sink)
    (g.K.Sink.known c.closed.new.sink) c.in-Err-closed.fault c.from-in-Err-closed.result.fault c.in-Ok-tell.ensures.told c.from-in-Err-closed.ensures
    c.in-Err-closed.ensures.unclosed
