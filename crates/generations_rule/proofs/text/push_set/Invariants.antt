use Rattle.std.proofs.Common.{◌≡◌, ◌++◌}
use Rattle.generations_rule.proofs.SetLaws.{text_below}
use Rattle.generations_rule.proofs.text.push_set.Given as goal

abbrev pub invariant-loop-n : goal.invariant-loop-n
invariant-loop-n l = l.text.items ≡ l.fn.text.items ++ text_below l.set l.n
