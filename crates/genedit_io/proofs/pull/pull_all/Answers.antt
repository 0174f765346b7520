use Rattle.std.proofs.Common.{◌<◌, Ok, length, subst, arith}
use Rattle.devices.specs.Source.{IsPull}
use Rattle.genedit_io.proofs.PullLaws.{pulled_all, pulled_on}
use Rattle.genedit_io.proofs.pull.pull_all.Goals as goal

pub returns-then-count-eq0-clause-all : goal.returns-then-count-eq0-clause-all
returns-then-count-eq0-clause-all g c =
    let known = g.S.Source.known in
    let kept = c.pull.auto.piece in
    let room : 0 < length c.pull.new.piece = omega arith in
    pulled_all c.loop-turn._turn c.loop-turn.text.items (known c.args.source.now) (known c.loop-turn.source) (known c.pull.new.self)
    c.loop-turn.invariant c.args.turns c.pull.new.piece
    (subst (λ count. IsPull (known c.loop-turn.source) (known c.pull.new.self) (Ok count) c.pull.new.piece) c.if-count-eq0.true c.in-Ok.ensures.pulled)
    room c.loop-turn-test.true

pub loop-turn-preserved : goal.loop-turn-preserved
loop-turn-preserved g c =
    let known = g.S.Source.known in
    pulled_on c.loop-turn._turn c.loop-turn.text.items (known c.args.source.now) (known c.loop-turn.source) (known c.pull.new.self)
    c.loop-turn.invariant c.in-Ok.count c.pull.new.piece c.extend_from_slice.new.self.items
    c.in-Ok.ensures.pulled (omega arith) c.in-Ok.ensures.within c.in_ok-extend_from_slice.ensures.items
