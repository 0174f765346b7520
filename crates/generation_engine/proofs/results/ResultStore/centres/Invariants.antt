use Rattle.generation_engine.proofs.Passes.{AreReplaced}
use Rattle.generation_engine.proofs.results.ResultStore.centres.Given as goal

abbrev pub invariant-loop-place : goal.invariant-loop-place
invariant-loop-place l = AreReplaced l.fn.self l.self l.level 0 l.fn.parts l.parts l.place
