-- What is warned of a pattern that tells this rule.
use Rattle.std.proofs.Common.{◌≡◌, ◌∙◌, ℕ, Option, Some, None, Result, Ok, Err, sym, subst}
use Rattle.generations_rule.specs.Rule.{GenerationsRule}
use Rattle.header_rules.specs.declared.header.HeaderBounds.{HeaderBounds}
use Rattle.header_rules.specs.declared.header.HeaderRule.{HeaderRule}
use Rattle.header_rules.specs.declared.spelling.Misspelling.{Misspelling}
use Rattle.script_faults.specs.declared.reason.Warning.{Warning}
use Rattle.script_faults.specs.declared.reason.Warning.TheVariants.{OtherRule, UnreadRule}
use Rattle.script_faults.specs.declared.warning.RuleWarning.{RuleWarning}
use Rattle.script_faults.specs.Warnings.{IsOtherRule, IsWarnedAt, IsWarnedOf, bounds_warned}

-- where the rule is the same its bounds are warned of
same_warned : (rule : GenerationsRule) (place length : ℕ) (told : Result GenerationsRule Misspelling) (bounds : Option HeaderBounds) (warned : Option RuleWarning) → IsOtherRule rule told None → warned ≡ bounds_warned bounds
    → IsWarnedAt rule place length told bounds warned
same_warned rule place length (Err misspelling) bounds warned none is = absurd (cc)
same_warned rule place length (Ok other) bounds warned (same, differs) is = (λ e. is, λ d. let no : None ≡ Some OtherRule = differs d in absurd (cc))

pub bounds_are_warned : (rule : GenerationsRule) (header : Option HeaderRule) (told : HeaderRule) (other : Option Warning) (warned : Option RuleWarning) → header ≡ Some told → IsOtherRule rule told.rule other → other ≡ None
    → warned ≡ bounds_warned told.bounds → IsWarnedOf rule header warned
bounds_are_warned rule header told other warned tells is none bounds =
    let at : IsWarnedAt rule told.place told.length told.rule told.bounds warned = same_warned rule told.place told.length told.rule told.bounds warned (subst (λ o. IsOtherRule rule told.rule o) none is) bounds in
    subst (λ h. IsWarnedOf rule h warned) (sym tells) at
