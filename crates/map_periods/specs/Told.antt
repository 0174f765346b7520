-- What is printed of a search for a period.
use Rattle.std.specs.Fmt.{signed_decimal}
use Rattle.std.specs.Prelude.{ℕ, List, ◌++◌, codes, decimal, Option, Some, None}
use Rattle.map_periods.specs.declared.period.Period.{Period}

-- the answer of a search up to so many generations
abbrev pub period_text : ℕ → Option Period → List ℕ
period_text most None = codes "none to " ++ decimal most
period_text most (Some period) =
    codes "period " ++ decimal period.generations ++ codes " moves " ++ signed_decimal period.by.x ++ codes " " ++ signed_decimal period.by.y
