use Rattle.std.proofs.Common.{rules}
use Rattle.std.proofs.lemmas.List.Sorted.{IsNonDecreasingBy-from_sort_by_key, answers_always}
use Rattle.stamped_tree.specs.Morton.{code_of}
use Rattle.stamped_tree.proofs.cells.in_morton_order.Goals as goal

pub returns-clause-order : goal.returns-clause-order
returns-clause-order c = IsNonDecreasingBy-from_sort_by_key code_of _ c.in_ok-sort_by_cached_key.ensures.sorted (λ a r q k. search rules)

pub returns-clause-stable : goal.returns-clause-stable
returns-clause-stable c = c.sort_by_cached_key.ensures.stable code_of (answers_always _ _ _ (λ f a r g h. search rules))
