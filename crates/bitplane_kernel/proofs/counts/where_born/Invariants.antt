use Rattle.bitplane_kernel.proofs.CountLemmas.{HasBelow}
use Rattle.bitplane_kernel.proofs.counts.where_born.Given as goal

abbrev pub invariant-loop-n : goal.invariant-loop-n
invariant-loop-n l = HasBelow l.n l.exact l.rule.birth l.cells
