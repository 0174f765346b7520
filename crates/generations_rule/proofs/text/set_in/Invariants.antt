use Rattle.std.proofs.Common.{◌≡◌, take}
use Rattle.generations_rule.specs.RuleText.{set_of}
use Rattle.generations_rule.proofs.text.set_in.Given as goal

abbrev pub invariant-loop-digit : goal.invariant-loop-digit
invariant-loop-digit l = l.set ≡ set_of (take l.digit-index l.digits)
