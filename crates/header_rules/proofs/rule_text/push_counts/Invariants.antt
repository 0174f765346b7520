use Rattle.std.proofs.Common.{◌≡◌, ◌+◌, ◌≤◌, ◌++◌}
use Rattle.arrayvec.specs.ArrayVec.{array_vec_len}
use Rattle.generations_rule.specs.RuleText.{set_of}
use Rattle.generations_rule.proofs.SetLaws.{text_below}
use Rattle.header_rules.proofs.rule_text.push_counts.Given as goal

abbrev pub invariant-loop-count : goal.invariant-loop-count
invariant-loop-count l = record {
  pushed : l.text.items ≡ l.fn.text.items ++ text_below (set_of l.digits) l.count;
  few : array_vec_len l.text ≤ array_vec_len l.fn.text + l.count;
}
