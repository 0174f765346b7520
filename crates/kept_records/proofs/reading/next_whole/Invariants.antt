use Rattle.kept_records.proofs.Steps.{BeginNone}
use Rattle.kept_records.proofs.reading.next_whole.Given as goal

-- no record begins up to here
abbrev pub invariant-loop-start : goal.invariant-loop-start
invariant-loop-start l = BeginNone l.bytes l.from l.start
