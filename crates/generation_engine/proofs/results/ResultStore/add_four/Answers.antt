use Rattle.generation_engine.proofs.KeptLaws.{kept_with_more}
use Rattle.generation_engine.proofs.results.ResultStore.add_four.Goals as goal

pub invariant_of-self : goal.invariant_of-self
invariant_of-self c = kept_with_more _ _ _ _ c.add_four.ensures.grows c.add_four.ensures.firsts c.self.invariant
