use Rattle.std.proofs.Common.{◌%◌, ◌^◌}
use Rattle.generation_engine.specs.Kept.{HasGrown}
use Rattle.generation_engine.specs.Running.{IsRun}
use Rattle.generation_engine.proofs.results.ResultStore.run.Given as goal

abbrev pub invariant-loop-exponent : goal.invariant-loop-exponent
invariant-loop-exponent l = HasGrown l.fn.self l.self × IsRun l.fn.self l.self (l.generations % 2 ^ l.exponent) l.fn.root l.later
