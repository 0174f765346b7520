use Rattle.std.proofs.Common.{◌≡◌, ◌++◌}
use Rattle.generations_rule.proofs.SetLaws.{text_below}
use Rattle.macrocell_lines.proofs.name.push_births.Given as goal

abbrev pub invariant-loop-n : goal.invariant-loop-n
invariant-loop-n l = l.name.items ≡ l.initial.name.items ++ text_below l.rule.birth l.n
