-- After how many generations a map stands as it did, moved.
use Rattle.std.specs.Prelude.{ℕ, ◌+◌, ◌<◌, ◌≤◌, Option, Some, None}
use Rattle.generations_rule.specs.Place.{Place}
use Rattle.generations_rule.specs.Rule.{GenerationsRule}
use Rattle.generations_rule.specs.Evolution.{at}
use Rattle.map_periods.specs.declared.period.Period.{Period}
use Rattle.map_periods.specs.Moves.{IsNotMoved, IsTheMove}

-- the least number of generations, from 1 to so many, after which what stands at generation g stands moved, and the move
pub record IsLeastPeriod (r : GenerationsRule) (f : Place → ℕ) (g most : ℕ) (period : Period) : Type 0 where
  pub some : 1 ≤ period.generations
  pub within : period.generations ≤ most
  pub moved : IsTheMove (at r f g) (at r f (g + period.generations)) period.by
  pub least : (p : ℕ) → 1 ≤ p → p < period.generations → IsNotMoved (at r f g) (at r f (g + p))

-- the answer of a search
abbrev pub IsPeriodOf : GenerationsRule → (Place → ℕ) → ℕ → ℕ → Option Period → Type 0
IsPeriodOf r f g most None = (p : ℕ) → 1 ≤ p → p ≤ most → IsNotMoved (at r f g) (at r f (g + p))
IsPeriodOf r f g most (Some period) = IsLeastPeriod r f g most period

-- in fewer generations than p what stands at generation g does not stand moved
abbrev pub HasNoPeriodBelow : GenerationsRule → (Place → ℕ) → ℕ → ℕ → Type 0
HasNoPeriodBelow r f g p = (q : ℕ) → 1 ≤ q → q < p → IsNotMoved (at r f g) (at r f (g + q))

-- one of the generations from g to g + most is refused so, and no period is met before it
abbrev pub IsRefusedWithin : {F : Type 0} → GenerationsRule → (Place → ℕ) → (ℕ → F → Type 0) → ℕ → ℕ → F → Type 0
IsRefusedWithin r f refuses g most fault = (p : ℕ) × ((p ≤ most) × (refuses (g + p) fault × HasNoPeriodBelow r f g p))

-- each generation that is refused so now was so before
abbrev pub RefusesNoMore : {F : Type 0} → (ℕ → F → Type 0) → (ℕ → F → Type 0) → Type 0
RefusesNoMore {F} before now = (g : ℕ) (fault : F) → now g fault → before g fault
