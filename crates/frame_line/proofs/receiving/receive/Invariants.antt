use Rattle.frame_line.proofs.PullingLaws.{IsOn}
use Rattle.frame_line.proofs.receiving.receive.Given as goal

-- so many pieces came, and no whole frame stood next before each
abbrev pub invariant-loop-turn : goal.invariant-loop-turn
invariant-loop-turn g l = IsOn l._turn l.fn.frames l.frames (g.S.Source.known l.fn.source) (g.S.Source.known l.source)
