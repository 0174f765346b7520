-- The commands of a client, by what the words of a line spell.
use Rattle.std.specs.Prelude.{ℕ, Bool, true, false, ◌||◌, if◌then◌else◌, List, [], ◌∷◌, codes, Option, Some, None, option_map, unwrap_or}
use Rattle.std.specs.Option.{option_map_or}
use Rattle.std.specs.Str.{bytes_eq}
use Rattle.text_scan.specs.Bytes.{◌>=>◌}
use Rattle.replica_events.specs.declared.edit_spec.EditSpec.TheVariants.{Cells, Clear}
use Rattle.command_words.specs.declared.dialect.Dialect.TheVariants.{Client}
use Rattle.command_words.specs.declared.keyword.Keyword.TheVariants as keyword
use Rattle.command_words.specs.declared.ranges.GenerationRange.{GenerationRange}
use Rattle.command_words.specs.Films.{is_film_name}
use Rattle.command_words.specs.Spelled.{SpelledValue, line_spelled}
use Rattle.command_words.specs.Values.{cells_spelled}
use Rattle.genedit_script.specs.Script.{area_of, turning_asked, window_of}
use Rattle.client_commands.specs.declared.command.ClientCommand.{ClientCommand}
use Rattle.client_commands.specs.declared.command.ClientCommand.TheVariants.{Draw, Turn, Copy, Or, Show, Export, Film, Cut, Count, Counts, Period, Undo, Redo, Poll, Wait, Sleep, Save, Open, Help, Bye}
use Rattle.client_commands.specs.declared.command.FileTarget.{FileTarget}
use Rattle.client_commands.specs.declared.command.PeriodSearch.{PeriodSearch}
use Rattle.client_commands.specs.declared.command.Placement.{Placement}
use Rattle.client_commands.specs.declared.command.Wait as waits

abbrev pub placement_of : SpelledValue → Placement
placement_of line = record { name = line.name; x = line.x; y = line.y }

-- cells are counted at each generation of a range, where one is named, and else at one generation
abbrev pub count_asked : SpelledValue → ClientCommand
count_asked line = option_map_or Counts line.range (Count line.generation)

-- the period of what stands at a generation, up to a longest one
abbrev pub period_search_of : SpelledValue → PeriodSearch
period_search_of line = record { first = line.generation; most = line.most }

-- ten seconds where the line does not say how long
abbrev pub wait_of : SpelledValue → waits.Wait
wait_of line = record { edits = line.edits; milliseconds = unwrap_or line.milliseconds 10000 }

-- a file that is written, and whether one that has its name is replaced
abbrev pub target_of : Bool → List ℕ → FileTarget
target_of replaces name = record { name = name; replaces = replaces }

-- the film of a range, where files are named that a film can have
abbrev pub film_asked : GenerationRange → Option FileTarget → Option ClientCommand
film_asked range None = None
film_asked range (Some files) = if is_film_name files.name then Some (Film (record { range = range; files = files })) else None

-- one generation is exported, and told where no file is named; or each generation of a range, to files
abbrev pub export_asked : Bool → SpelledValue → Option ClientCommand
export_asked replaces line =
    let files = option_map (target_of replaces) line.file in
    option_map_or (λ range. film_asked range files) line.range (Some (Export line.generation files))

-- the commands that draw nothing; what is cut and saved is told where no file is named
abbrev pub session_asked : SpelledValue → Option ClientCommand
session_asked line = elim line.keyword [
  | keyword.Export ↦ export_asked false line
  | keyword.ExportOver ↦ export_asked true line
  | keyword.Cut ↦ Some (Cut (window_of line) line.generation (option_map (target_of false) line.file))
  | keyword.CutOver ↦ Some (Cut (window_of line) line.generation (option_map (target_of true) line.file))
  | keyword.Count ↦ Some (count_asked line)
  | keyword.Period ↦ Some (Period (period_search_of line))
  | keyword.Poll ↦ Some Poll
  | keyword.Wait ↦ Some (Wait (wait_of line))
  | keyword.Sleep ↦ option_map Sleep line.milliseconds
  | keyword.Save ↦ Some (Save (option_map (target_of false) line.file))
  | keyword.SaveOver ↦ Some (Save (option_map (target_of true) line.file))
  | keyword.Open ↦ option_map Open line.file
  | keyword.Help ↦ Some Help
  | keyword.Question ↦ Some Help
  | keyword.Bye ↦ Some Bye
  | keyword.Quit ↦ Some Bye
  | keyword.Exit ↦ Some Bye
  | _ ↦ None
]

-- the command of a line that stands in no block and opens none
abbrev pub client_command_asked : SpelledValue → Option ClientCommand
client_command_asked line = elim line.keyword [
  | keyword.Cells ↦ option_map (λ cells. Draw (Cells cells)) (cells_spelled line.behind)
  | keyword.Clear ↦ Some (Draw (Clear (area_of line)))
  | keyword.Copy ↦ Some (Copy (placement_of line))
  | keyword.Or ↦ Some (Or (placement_of line))
  | keyword.Turn ↦ option_map Turn (turning_asked line)
  | keyword.Undo ↦ Some Undo
  | keyword.Redo ↦ Some Redo
  | keyword.Show ↦ Some (Show line.x line.y)
  | _ ↦ session_asked line
]

-- the command of some words, if they spell one
abbrev pub client_command_spelled : List (List ℕ) → Option ClientCommand
client_command_spelled words = line_spelled Client words >=> client_command_asked

-- whether the first of some words is one with which each script begins one of its first two lines
abbrev pub begins_script : List (List ℕ) → Bool
begins_script [] = false
begins_script (word ∷ words) = bytes_eq word (codes "rule") || bytes_eq word (codes "replicas")
