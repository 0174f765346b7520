use Rattle.std.proofs.Common.{◌≡◌, drop}
use Rattle.std.specs.List.{list_any}
use Rattle.header_rules.specs.Families.{begins_with}
use Rattle.header_rules.proofs.family_names.begins_with_any.Given as goal

abbrev pub invariant-loop-front : goal.invariant-loop-front
invariant-loop-front l = list_any (λ front. begins_with front.now l.fn.text) (drop l.front-index l.fronts) ≡ list_any (λ front. begins_with front.now l.fn.text) l.fronts
