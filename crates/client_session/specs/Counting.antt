-- What is told of the counts of cells at several generations.
use Rattle.std.specs.Prelude.{◌≡◌, ℕ, List, Result, Ok, Err}
use mathlib.Core.List.{IsPrefix}
use Rattle.generation_engine.specs.Universe.{states_in_writes}
use Rattle.stamped_tree.specs.Plane.{map_of}
use Rattle.command_words.specs.declared.ranges.GenerationRange.{GenerationRange}
use Rattle.told_generations.specs.Counts.{IsRoomWantedWithin, PrintsCounts}
use Rattle.client_session.specs.declared.fault.CommandFault.{CommandFault}
use Rattle.client_session.specs.declared.fault.CommandFault.TheVariants.{Memory, StoreFull}
use Rattle.client_session.specs.declared.polling.News.{News}
use Rattle.client_session.specs.declared.polling.News.TheVariants as news
use Rattle.client_session.specs.declared.workspace.Workspace.{Workspace}
use Rattle.client_session.specs.Exporting.{StaysAt}
use Rattle.client_session.specs.Moment.{Moment}
use Rattle.client_session.specs.News.{BehindPoll, Leaves}

-- memory is wanting, or room for a universe at one of the generations
abbrev pub IsCountsWant : GenerationRange → Workspace → CommandFault → Type 0
IsCountsWant range s Memory = Unit {0}
IsCountsWant range s StoreFull = IsRoomWantedWithin s.replica.rule s.replica.plane range
IsCountsWant range s fault = ⊥

-- how many cells the replica holds at each generation of a range is printed, or a refusal; or memory or room is wanting, and what was
-- printed before stands, with the lines that were told by then
abbrev pub IsCountsPrint : {A : Type 0} → GenerationRange → Workspace → List ℕ → List ℕ → Result A CommandFault → Type 0
IsCountsPrint range s out out' (Ok done) = PrintsCounts s.replica.rule (states_in_writes (map_of s.replica.plane)) range out out'
IsCountsPrint range s out out' (Err fault) = IsCountsWant range s fault × IsPrefix out out'

-- ---- commands: what the last poll brought is in what is counted

-- that is printed, and nothing else done
abbrev pub TellsCountsNow : GenerationRange → Moment → Moment → Result (Unit {0}) CommandFault → Type 0
TellsCountsNow range m n result = StaysAt m n × IsCountsPrint range m.workspace m.out n.out result

abbrev pub TellsCountsBehind : GenerationRange → News → Moment → Moment → Result (Unit {0}) CommandFault → Type 0
TellsCountsBehind range news.Edits m n result = TellsCountsNow range m n result
TellsCountsBehind range news.Whole m n result = TellsCountsNow range m n result
TellsCountsBehind range news.Refused m n result = Leaves tt m n result

abbrev pub IsCountsCommand : GenerationRange → Moment → Moment → Result (Unit {0}) CommandFault → Type 0
IsCountsCommand range m n result = BehindPoll (TellsCountsBehind range) m n result
