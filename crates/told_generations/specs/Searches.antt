-- What is told of a search for the period of a map.
use Rattle.std.specs.Prelude.{◌≡◌, ◌≤◌, ℕ, List, ◌++◌, codes, Option, Result, Ok, Err}
use Rattle.generations_rule.specs.Place.{Place}
use Rattle.generations_rule.specs.Rule.{GenerationsRule}
use Rattle.export.specs.declared.fault.ExportFault.{ExportFault}
use Rattle.export.specs.Export.{IsExport, last_generation, most_cells}
use Rattle.map_periods.specs.declared.period.Period.{Period}
use Rattle.map_periods.specs.Periods.{IsPeriodOf, IsRefusedWithin}
use Rattle.map_periods.specs.Told.{period_text}
use Rattle.told_generations.specs.Refusals.{refusal_line}

-- a generation is refused, whatever memory and room there are
abbrev pub IsRefusedAt : GenerationsRule → (Place → ℕ) → ℕ → ExportFault → Type 0
IsRefusedAt r f g fault = IsExport r f g most_cells (Err fault)

-- The answer of a search: the least period, from 1 to so many, of what stands at a generation that is one, if there is one; or the
-- refusal of a generation from there to so many later, before which no period is met.
abbrev pub IsSearched : GenerationsRule → (Place → ℕ) → ℕ → ℕ → Result (Option Period) ExportFault → Type 0
IsSearched r f first most (Ok period) = (first ≤ last_generation) × IsPeriodOf r f first most period
IsSearched r f first most (Err fault) = IsRefusedWithin r f (IsRefusedAt r f) first most fault

-- the answer of a search up to so many generations, as it is printed
abbrev pub searched_line : ℕ → Result (Option Period) ExportFault → List ℕ
searched_line most (Ok period) = period_text most period ++ codes "\n"
searched_line most (Err fault) = refusal_line fault

-- the answer of a search is printed
pub record PrintsPeriod (r : GenerationsRule) (f : Place → ℕ) (first most : ℕ) (out out' : List ℕ) : Type 0 where
  pub answer : Result (Option Period) ExportFault
  pub searched : IsSearched r f first most answer
  pub printed : out' ≡ out ++ searched_line most answer
