-- What moves and periods obey.
use Rattle.std.specs.Prelude.{◌≡◌, ℕ, ◌+◌, ◌*◌, ℤ, pos, ◌*ℤ◌, Option}
use Rattle.generations_rule.specs.Place.{Place}
use Rattle.generations_rule.specs.Rule.{GenerationsRule}
use Rattle.generations_rule.specs.Evolution.{at}
use Rattle.map_periods.specs.declared.moves.Move.{Move}
use Rattle.map_periods.specs.declared.period.Period.{Period}
use Rattle.map_periods.specs.Moves.{IsMoved, IsMoveOf}
use Rattle.map_periods.specs.Periods.{IsPeriodOf}

-- between two maps there is one answer
abbrev pub HasOneMove : Type 0
HasOneMove = (f h : Place → ℕ) (a b : Option Move) → IsMoveOf f h a → IsMoveOf f h b → a ≡ b

-- a search has one answer
abbrev pub HasOnePeriod : Type 0
HasOnePeriod = (r : GenerationsRule) (f : Place → ℕ) (g most : ℕ) (a b : Option Period) → IsPeriodOf r f g most a → IsPeriodOf r f g most b → a ≡ b

-- what stands moved p generations later stands moved n times as far n times p generations later
abbrev pub PeriodsRepeat : Type 0
PeriodsRepeat = (r : GenerationsRule) (f : Place → ℕ) (g p n : ℕ) (right down : ℤ) → IsMoved (at r f g) (at r f (g + p)) right down
    → IsMoved (at r f g) (at r f (g + n * p)) (pos n *ℤ right) (pos n *ℤ down)
