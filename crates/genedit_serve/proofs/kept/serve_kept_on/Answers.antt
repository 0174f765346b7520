use Rattle.std.proofs.Common.{◌≡◌, ◌+◌, ℕ, List, arith, subst}
use Rattle.devices.specs.Sink.{KnownSink}
use Rattle.generations_rule.specs.Rule.{GenerationsRule}
use Rattle.genedit_serve.specs.Closing.{address_text}
use Rattle.genedit_serve.specs.Keeping.{ServesKeptAt}
use Rattle.genedit_serve.proofs.KeptLaws.{serves_at, unbound}
use Rattle.genedit_serve.proofs.kept.serve_kept_on.Goals as goal

-- it is not known where it would listen
pub returns-in-Err : goal.returns-in-Err
returns-in-Err g c =
    (0, unbound (address_text c.args.address 0) (g.K.Sink.known c.args.sink.now) c.in-Err.fault c.from.result.fault c.from.ensures c.in-Err.ensures.fault)

-- the board was opened under the file's rule, with a seat more than its sessions have
pub returns-in-Ok-start_within : goal.returns-in-Ok-start_within
returns-in-Ok-start_within g c =
    let from : KnownSink = g.K.Sink.known c.args.sink.now in
    let to : KnownSink = g.K.Sink.known c.serve.new.sink in
    let lines : List ℕ = c.in-Ok.bound.told.items in
    let many : c.in-Ok-start_within.opened.count ≡ c.args.board.sessions + 1 = c.in-Ok-start_within.ensures.ok.1 in
    serves_at c.args.board.file.rule c.args.board.first c.args.board.sessions c.args.address from to c.serve.result lines c.in-Ok.ensures.told
    (subst (λ (rule : GenerationsRule). ServesKeptAt rule c.args.board.first c.args.board.sessions lines from to c.serve.result) c.in-Ok-start_within.ensures.ok.2
    (subst (λ (first : ℕ). ServesKeptAt c.in-Ok-start_within.opened.rule first c.args.board.sessions lines from to c.serve.result) c.in-Ok-start_within.ensures.first
    (subst (λ (n : ℕ). ServesKeptAt c.in-Ok-start_within.opened.rule c.in-Ok-start_within.opened.first n lines from to c.serve.result) (omega (arith, many)) c.serve.ensures)))
