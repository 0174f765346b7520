-- The period of what a text tells.
use Rattle.std.specs.Prelude.{◌≡◌, ◌⊎◌, ◌≤◌, ℕ, true, List, Option}
use Rattle.generations_rule.specs.Place.{Place}
use Rattle.generations_rule.specs.Rule.{GenerationsRule}
use Rattle.map_periods.specs.declared.period.Period.{Period}
use Rattle.map_periods.specs.Periods.{IsPeriodOf, IsRefusedWithin}
use Rattle.map_periods.specs.PlanePeriods.{refuses_export}
use Rattle.export.specs.declared.fault.ExportFault.{ExportFault}
use Rattle.export.specs.Export.{last_generation}
use Rattle.genedit_view.specs.declared.fault.ViewFault.{ViewFault}
use Rattle.genedit_view.specs.declared.period.PeriodSearch.{PeriodSearch}
use Rattle.genedit_view.specs.Fault.{fault_of_generation}
use Rattle.genedit_view.specs.Reading.{IsReadAs}
use Rattle.genedit_view.specs.Seeing.{IsNotSeen, IsWantAt}
use Rattle.genedit_view.specs.Universes.{universe_view}

-- a text is read as a map, and this is the answer of a search for its period from a generation on that is one
pub record IsPeriodTold (given : Option GenerationsRule) (search : PeriodSearch) (text : List ℕ) (answer : Option Period) : Type 0 where
  pub rule : GenerationsRule
  pub states : Place → ℕ
  pub read : IsReadAs true given text rule states
  pub within : search.first ≤ last_generation
  pub is : IsPeriodOf rule states search.first search.most answer

-- a text is read as a map, and one of the generations of a search is refused as its export is, before a period is met
pub record IsSearchRefused (given : Option GenerationsRule) (search : PeriodSearch) (text : List ℕ) (fault : ViewFault) : Type 0 where
  pub rule : GenerationsRule
  pub states : Place → ℕ
  pub read : IsReadAs true given text rule states
  pub refusal : ExportFault
  pub refused : IsRefusedWithin rule states (refuses_export rule states) search.first search.most refusal
  pub told : fault ≡ fault_of_generation refusal

-- why no period is told of a text: nothing is seen of it at the first generation, memory is wanting, or one of the generations is refused
abbrev pub IsNoPeriod : Option GenerationsRule → PeriodSearch → List ℕ → ViewFault → Type 0
IsNoPeriod given search text fault =
    IsNotSeen (universe_view given search.first) text fault ⊎ (IsWantAt (universe_view given search.first) text fault ⊎ IsSearchRefused given search text fault)
