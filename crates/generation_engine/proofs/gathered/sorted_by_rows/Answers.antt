use Rattle.std.proofs.Common.{rules}
use Rattle.std.proofs.lemmas.List.Sorted.{IsNonDecreasingBy-from_sort_by_key}
use Rattle.generation_engine.specs.Walk.{row_order}
use Rattle.generation_engine.proofs.gathered.sorted_by_rows.Goals as goal

pub returns-clause-sorted : goal.returns-clause-sorted
returns-clause-sorted c = IsNonDecreasingBy-from_sort_by_key row_order _ c.sort_unstable_by_key.ensures.sorted (λ a r q k. search rules)
