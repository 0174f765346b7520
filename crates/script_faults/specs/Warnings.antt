-- What is warned of the rule that a pattern's header tells.
use Rattle.std.specs.Prelude.{◌≡◌, ◌≢◌, ℕ, Option, Some, None, Result, Ok, Err}
use Rattle.generations_rule.specs.Rule.{GenerationsRule}
use Rattle.header_rules.specs.declared.header.HeaderBounds.{HeaderBounds}
use Rattle.header_rules.specs.declared.header.HeaderRule.{HeaderRule}
use Rattle.header_rules.specs.declared.spelling.Misspelling.{Misspelling}
use Rattle.script_faults.specs.declared.reason.Warning.{Warning}
use Rattle.script_faults.specs.declared.reason.Warning.TheVariants.{Bounds, OtherRule, UnreadRule}
use Rattle.script_faults.specs.declared.warning.RuleWarning.{RuleWarning}

-- the warning of so many bytes at a place
abbrev pub warning_at : Warning → ℕ → ℕ → RuleWarning
warning_at warning place length = record { warning = warning; place = place; length = length }

-- bounds are warned of, if there are any
abbrev pub bounds_warned : Option HeaderBounds → Option RuleWarning
bounds_warned None = None
bounds_warned (Some bounds) = Some (warning_at Bounds bounds.place bounds.length)

-- a text that is no rule is warned of, and one that is another rule
abbrev pub IsOtherRule : GenerationsRule → Result GenerationsRule Misspelling → Option Warning → Type 0
IsOtherRule rule (Err misspelling) warned = warned ≡ Some (UnreadRule misspelling)
IsOtherRule rule (Ok other) warned = (other ≡ rule → warned ≡ None) × (other ≢ rule → warned ≡ Some OtherRule)

-- a text there that is no rule is warned of, and one that is another rule; of one that is this rule its bounds are
abbrev pub IsWarnedAt : GenerationsRule → ℕ → ℕ → Result GenerationsRule Misspelling → Option HeaderBounds → Option RuleWarning → Type 0
IsWarnedAt rule place length (Err misspelling) bounds warned = warned ≡ Some (warning_at (UnreadRule misspelling) place length)
IsWarnedAt rule place length (Ok other) bounds warned = (other ≡ rule → warned ≡ bounds_warned bounds) × (other ≢ rule → warned ≡ Some (warning_at OtherRule place length))

-- the same of what a header tells, which may be nothing
abbrev pub IsWarnedOf : GenerationsRule → Option HeaderRule → Option RuleWarning → Type 0
IsWarnedOf rule None warned = warned ≡ None
IsWarnedOf rule (Some told) warned = IsWarnedAt rule told.place told.length told.rule told.bounds warned
