use Rattle.std.proofs.Common.{◌+◌, ◌*◌, ◌^◌}
use Rattle.generation_engine.proofs.Passes.{AreReplaced}
use Rattle.generation_engine.proofs.results.ResultStore.+result.Given as goal

abbrev pub decreases-computed : goal.decreases-computed
decreases-computed l = 4 * l.level + 1

abbrev pub decreases-in_one_pass : goal.decreases-in_one_pass
decreases-in_one_pass l = 4 * l.level

abbrev pub decreases-in_two_passes : goal.decreases-in_two_passes
decreases-in_two_passes l = 4 * l.level

abbrev pub decreases-result : goal.decreases-result
decreases-result l = 4 * l.level + 2

abbrev pub decreases-results : goal.decreases-results
decreases-results l = 4 * l.level + 3

abbrev pub invariant-results-loop-place : goal.invariant-results-loop-place
invariant-results-loop-place l = AreReplaced l.fn.self l.self l.level (2 ^ l.exponent) l.fn.parts l.parts l.place
