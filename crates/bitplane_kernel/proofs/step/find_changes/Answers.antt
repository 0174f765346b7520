use Rattle.bitplane_kernel.proofs.StepLemmas.{found}
use Rattle.bitplane_kernel.proofs.step.find_changes.Goals as goal

pub returns : goal.returns
returns N c =
    found c.args.rule.now N.row.N c.args.planes.now _ _ _ _ _ _ _ _ c.neighbours.result c.exact_counts-exact.result
    c.requires.0 c.requires.1 c.where_equal-dead.ensures c.where_equal-live.ensures c.neighbours.ensures c.exact_counts-exact.ensures
    c.where_surviving.ensures c.where_born.ensures c.and-stays.ensures c.or.ensures c.not.ensures c.and.ensures
