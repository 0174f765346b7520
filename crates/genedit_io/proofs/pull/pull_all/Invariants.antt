use Rattle.genedit_io.proofs.PullLaws.{IsPulledSo}
use Rattle.genedit_io.proofs.pull.pull_all.Given as goal

-- the text so far is what came, in a pull a turn and a byte a turn at least
abbrev pub invariant-loop-turn : goal.invariant-loop-turn
invariant-loop-turn g l = IsPulledSo l._turn l.text.items (g.S.Source.known l.fn.source) (g.S.Source.known l.source)
