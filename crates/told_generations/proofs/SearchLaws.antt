-- Answers of searches that are printed.
use Rattle.std.proofs.Common.{◌≡◌, ℕ, ◌+◌, ◌≤◌, List, ◌++◌, inl, inr}
use Rattle.std.specs.Prelude.{Option, Ok, Err, codes}
use Rattle.generations_rule.specs.Place.{Place}
use Rattle.generations_rule.specs.Rule.{GenerationsRule}
use Rattle.export.specs.declared.fault.ExportFault.{ExportFault}
use Rattle.export.specs.declared.fault.ExportFault.TheVariants.{GenRange, TooManyCells, StoreFull, Memory}
use Rattle.export.specs.Export.{IsWant, last_generation}
use Rattle.map_periods.specs.declared.period.Period.{Period}
use Rattle.map_periods.specs.Periods.{IsPeriodOf, IsRefusedWithin}
use Rattle.map_periods.specs.PlanePeriods.{refuses_export}
use Rattle.map_periods.specs.Told.{period_text}
use Rattle.told_generations.specs.Refusals.{IsRefusalLine}
use Rattle.told_generations.specs.Searches.{IsRefusedAt, IsSearched, PrintsPeriod}

module _ (r : GenerationsRule) (f : Place → ℕ) (first most : ℕ) where
  refused_at : (fault : ExportFault) (g : ℕ) → ¬ (IsWant fault) → refuses_export r f g fault → IsRefusedAt r f g fault
  refused_at fault g unwanted refused = elim refused [ inl want ↦ absurd (unwanted want.0) | inr is ↦ is ]

  -- what is refused and is no want is a refusal
  as_refused : (fault : ExportFault) → ¬ (IsWant fault) → IsRefusedWithin r f (refuses_export r f) first most fault → IsSearched r f first most (Err fault)
  as_refused fault unwanted within = (within.0, (within.1.0, (refused_at fault (first + within.0) unwanted within.1.1.0, within.1.1.1)))

  pub refusal_printed : (out out' : List ℕ) (fault : ExportFault) → IsRefusedWithin r f (refuses_export r f) first most fault → IsRefusalLine fault out out' → PrintsPeriod r f first most out out'
  refusal_printed out out' GenRange within line = record { answer = Err GenRange; searched = as_refused GenRange (λ w. w) within; printed = line }
  refusal_printed out out' TooManyCells within line = record { answer = Err TooManyCells; searched = as_refused TooManyCells (λ w. w) within; printed = line }
  refusal_printed out out' StoreFull within line = absurd line
  refusal_printed out out' Memory within line = absurd line

  pub period_printed : (out out' : List ℕ) (period : Option Period) → first ≤ last_generation → IsPeriodOf r f first most period → out' ≡ out ++ (period_text most period ++ codes "\n")
      → PrintsPeriod r f first most out out'
  period_printed out out' period within is line = record { answer = Ok period; searched = (within, is); printed = line }
