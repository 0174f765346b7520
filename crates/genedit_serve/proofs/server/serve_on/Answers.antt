use Rattle.genedit_serve.specs.Closing.{address_text}
use Rattle.genedit_serve.proofs.ServingLaws.{unbound}
use Rattle.genedit_serve.proofs.server.serve_on.Goals as goal

-- it is not known where it would listen
pub returns-in-Err : goal.returns-in-Err
returns-in-Err g c =
    (0, unbound c.args.board.rule c.args.board.first c.args.board.sessions (address_text c.args.address 0) (g.K.Sink.known c.args.sink.now) c.in-Err.fault c.in-Err.ensures.fault)
