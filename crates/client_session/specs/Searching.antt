-- What is told of a search for a period.
use Rattle.std.specs.Prelude.{◌≡◌, ℕ, List, Result, Ok, Err}
use mathlib.Core.List.{IsPrefix}
use Rattle.generation_engine.specs.Universe.{states_in_writes}
use Rattle.export.specs.declared.fault.ExportFault.TheVariants as exports
use Rattle.map_periods.specs.Periods.{IsRefusedWithin}
use Rattle.map_periods.specs.PlanePeriods.{refuses_export}
use Rattle.stamped_tree.specs.Plane.{map_of}
use Rattle.told_generations.specs.Searches.{PrintsPeriod}
use Rattle.client_session.specs.declared.fault.CommandFault.{CommandFault}
use Rattle.client_session.specs.declared.fault.CommandFault.TheVariants.{Memory, StoreFull}
use Rattle.client_session.specs.declared.polling.News.{News}
use Rattle.client_session.specs.declared.polling.News.TheVariants as news
use Rattle.client_session.specs.declared.workspace.Workspace.{Workspace}
use Rattle.client_session.specs.Exporting.{StaysAt}
use Rattle.client_session.specs.Moment.{Moment}
use Rattle.client_session.specs.News.{BehindPoll, Leaves}

-- the least period of what the replica holds, at a generation, is printed, or that there is none, or a refusal
abbrev pub PrintsPeriodOf : ℕ → ℕ → Workspace → List ℕ → List ℕ → Type 0
PrintsPeriodOf first most s out out' = PrintsPeriod s.replica.rule (states_in_writes (map_of s.replica.plane)) first most out out'

-- memory is wanting, and what was printed before stands; or room for a universe at a generation that the search reaches, and nothing is printed
abbrev pub IsSearchWant : ℕ → ℕ → Workspace → List ℕ → List ℕ → CommandFault → Type 0
IsSearchWant first most s out out' Memory = IsPrefix out out'
IsSearchWant first most s out out' StoreFull =
    let states = states_in_writes (map_of s.replica.plane) in
    (out' ≡ out) × IsRefusedWithin s.replica.rule states (refuses_export s.replica.rule states) first most exports.StoreFull
IsSearchWant first most s out out' fault = ⊥

-- the one or the other
abbrev pub IsSearchPrint : {A : Type 0} → ℕ → ℕ → Workspace → List ℕ → List ℕ → Result A CommandFault → Type 0
IsSearchPrint first most s out out' (Ok done) = PrintsPeriodOf first most s out out'
IsSearchPrint first most s out out' (Err fault) = IsSearchWant first most s out out' fault

-- ---- commands: what the last poll brought is in what is searched

-- the answer is printed, and nothing else done
abbrev pub TellsPeriodNow : ℕ → ℕ → Moment → Moment → Result (Unit {0}) CommandFault → Type 0
TellsPeriodNow first most m n result = StaysAt m n × IsSearchPrint first most m.workspace m.out n.out result

abbrev pub TellsPeriodBehind : ℕ → ℕ → News → Moment → Moment → Result (Unit {0}) CommandFault → Type 0
TellsPeriodBehind first most news.Edits m n result = TellsPeriodNow first most m n result
TellsPeriodBehind first most news.Whole m n result = TellsPeriodNow first most m n result
TellsPeriodBehind first most news.Refused m n result = Leaves tt m n result

abbrev pub IsPeriodCommand : ℕ → ℕ → Moment → Moment → Result (Unit {0}) CommandFault → Type 0
IsPeriodCommand first most m n result = BehindPoll (TellsPeriodBehind first most) m n result
