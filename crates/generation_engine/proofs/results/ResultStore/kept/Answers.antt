use Rattle.generation_engine.proofs.KeptLaws.{first_is}
use Rattle.generation_engine.proofs.results.ResultStore.kept.Goals as goal

pub returns-then-first-exponent : goal.returns-then-first-exponent
returns-then-first-exponent c =
    rw (← c.self.view_is) (first_is c.self.inside.rule c.self.inside.store c.self.inside.store.firsts c.self.inside.others c.self.invariant c.args.part c.args.level c.args.exponent c.in-Some.first c.in-Some.ensures.some c.if-first-level.true c.if-first-exponent.true)
