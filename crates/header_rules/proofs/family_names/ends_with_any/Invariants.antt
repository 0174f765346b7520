use Rattle.std.proofs.Common.{◌≡◌, drop}
use Rattle.std.specs.List.{list_any}
use Rattle.header_rules.specs.Families.{ends_with}
use Rattle.header_rules.proofs.family_names.ends_with_any.Given as goal

abbrev pub invariant-loop-end : goal.invariant-loop-end
invariant-loop-end l = list_any (λ end. ends_with end.now l.fn.text) (drop l.end-index l.ends) ≡ list_any (λ end. ends_with end.now l.fn.text) l.ends
