-- Scripts: a text's lines, the commands that their words spell, or the line of the first fault.
use Rattle.std.specs.Prelude.{ℕ, ◌+◌, Bool, false, not, ◌==◌, if◌then◌else◌, List, [], ◌∷◌, ◌++◌, length, codes, Option, Some, None, option_map, Result, Ok, Err}
use Rattle.std.specs.Option.{ok_or}
use Rattle.std.specs.Result.{result_ok}
use Rattle.std.specs.Str.{bytes_eq}
use Rattle.std.specs.Str.Lines.{lines}
use Rattle.generations_rule.specs.Refusal.{◌>>=◌}
use Rattle.generations_rule.specs.Rule.{GenerationsRule}
use Rattle.generations_rule.specs.RuleText.{parsed}
use Rattle.text_scan.specs.Bytes.{◌>=>◌}
use Rattle.text_scan.specs.Words.{words}
use Rattle.edit_stamps.specs.declared.rect.Rect.{Rect}
use Rattle.replica_events.specs.declared.event.Event.{Event}
use Rattle.pattern_cells.specs.declared.window.Window.{Window}
use Rattle.replica_events.specs.declared.event.Event.TheVariants.{Draw, SendDelta, SendState, Deliver, Show, Same, Dump, Export, Cut, Count}
use Rattle.replica_events.specs.declared.edit_spec.EditSpec.TheVariants.{Cells, Clear}
use Rattle.command_words.specs.declared.dialect.Dialect.TheVariants.{Script}
use Rattle.command_words.specs.declared.keyword.Keyword.TheVariants as keyword
use Rattle.command_words.specs.Spelled.{SpelledValue, line_spelled}
use Rattle.command_words.specs.Values.{cells_spelled}
use Rattle.genedit_script.specs.declared.command.Command.{Command}
use Rattle.genedit_script.specs.declared.command.Command.TheVariants.{Does, Names, Copies, Ors, Turns}
use Rattle.genedit_script.specs.declared.command.Paste.{Paste}
use Rattle.genedit_script.specs.declared.command.Turning.{Turning}

-- a world's rule and number of replicas, and what is asked for in it
pub record ScriptValue : Type 0 where
  pub rule : GenerationsRule
  pub replicas : ℕ
  pub commands : List Command

-- ---- what a line asks for, by what its words spell

-- what is wanted of words that spell something
abbrev pub asked_by : {A : Type 0} → (SpelledValue → Option A) → List (List ℕ) → Option A
asked_by asked words = line_spelled Script words >=> asked

-- `rule S/B/C`
abbrev pub rule_asked : SpelledValue → Option GenerationsRule
rule_asked line = elim line.keyword [ keyword.Rule ↦ result_ok (parsed line.rule) | _ ↦ None ]

-- `replicas N`
abbrev pub replicas_asked : SpelledValue → Option ℕ
replicas_asked line = elim line.keyword [ keyword.Replicas ↦ Some line.replicas | _ ↦ None ]

-- `pattern NAME`
abbrev pub opening_asked : SpelledValue → Option (List ℕ)
opening_asked line = elim line.keyword [ keyword.Pattern ↦ Some line.name | _ ↦ None ]

-- a window, by its corner and its sides
abbrev pub window_of : SpelledValue → Window
window_of line = record { x = line.x; y = line.y; width = line.width; height = line.height }

-- a corner and two sides
abbrev pub area_of : SpelledValue → Rect
area_of line = record { x = line.x; y = line.y; width = line.width; height = line.height }

abbrev pub paste_of : SpelledValue → Paste
paste_of line = record { replica = line.replica; name = line.name; x = line.x; y = line.y }

-- which pattern is turned, how, and the name of what becomes of it
abbrev pub turning_asked : SpelledValue → Option Turning
turning_asked line = option_map (λ turn. record { name = line.name; new_name = line.new_name; turn = turn }) line.turn

-- what happens
abbrev pub event_asked : SpelledValue → Option Event
event_asked line = elim line.keyword [
  | keyword.Cells ↦ option_map (λ cells. Draw line.replica (Cells cells)) (cells_spelled line.behind)
  | keyword.Clear ↦ Some (Draw line.replica (Clear (area_of line)))
  | keyword.State ↦ Some (SendState line.replica)
  | keyword.Delta ↦ Some (SendDelta line.replica line.from line.count)
  | keyword.Deliver ↦ Some (Deliver line.message line.replica)
  | keyword.Show ↦ Some (Show line.replica line.x line.y)
  | keyword.Same ↦ Some (Same line.replica line.other_replica)
  | keyword.Dump ↦ Some (Dump line.message)
  | keyword.Export ↦ Some (Export line.replica line.generation)
  | keyword.Cut ↦ Some (Cut line.replica (window_of line) line.generation)
  | keyword.Count ↦ Some (Count line.replica line.generation)
  | _ ↦ None
]

-- a paste, a turn, or what happens
abbrev pub command_asked : SpelledValue → Option Command
command_asked line = elim line.keyword [
  | keyword.Copy ↦ Some (Copies (paste_of line))
  | keyword.Or ↦ Some (Ors (paste_of line))
  | keyword.Turn ↦ option_map Turns (turning_asked line)
  | _ ↦ option_map Does (event_asked line)
]

abbrev pub rule_spelled : List (List ℕ) → Option GenerationsRule
rule_spelled words = asked_by rule_asked words

abbrev pub replicas_spelled : List (List ℕ) → Option ℕ
replicas_spelled words = asked_by replicas_asked words

abbrev pub opening_spelled : List (List ℕ) → Option (List ℕ)
opening_spelled words = asked_by opening_asked words

abbrev pub event_spelled : List (List ℕ) → Option Event
event_spelled words = asked_by event_asked words

-- the command of one line
abbrev pub command_spelled : List (List ℕ) → Option Command
command_spelled words = asked_by command_asked words

-- ---- lines

pub record NumberedLine : Type 0 where
  pub number : ℕ
  pub text : List ℕ

-- lines, numbered from a number on
abbrev pub numbered_lines : ℕ → List (List ℕ) → List NumberedLine
numbered_lines n [] = []
numbered_lines n (line ∷ lines) = record { number = n; text = line } ∷ numbered_lines (n + 1) lines

-- the lines of a text, numbered from a number on
abbrev pub lines_from : ℕ → List ℕ → List NumberedLine
lines_from n text = numbered_lines n (lines text)

abbrev pub opens_comment : List ℕ → Bool
opens_comment [] = false
opens_comment (byte ∷ bytes) = byte == 35

-- some word stands there, and the first begins no comment
abbrev pub is_spoken : List (List ℕ) → Bool
is_spoken [] = false
is_spoken (word ∷ words) = not (opens_comment word)

-- the lines from the first on that says something
abbrev pub past_skipped : List NumberedLine → List NumberedLine
past_skipped [] = []
past_skipped (line ∷ lines) = if is_spoken (words line.text) then line ∷ lines else past_skipped lines

-- ---- commands, one after another

-- a pattern's block so far: the number of its `pattern` line, its name, and its lines
pub record PatternBlock : Type 0 where
  pub line : ℕ
  pub name : List ℕ
  pub text : List ℕ

-- a command, and those behind it
abbrev pub onto : Command → Result (List Command) ℕ → Result (List Command) ℕ
onto command commands = commands >>= λ commands. Ok (command ∷ commands)

-- the commands of some lines, which begin in a block or in none; a block goes on to the first line that is `end`
abbrev pub commands_spelled : Option PatternBlock → List NumberedLine → Result (List Command) ℕ
commands_spelled None [] = Ok []
commands_spelled (Some block) [] = Err block.line
commands_spelled (Some block) (line ∷ lines) =
    if bytes_eq line.text (codes "end") then onto (Names block.name block.text) (commands_spelled None lines)
    else commands_spelled (Some (record { line = block.line; name = block.name; text = (block.text ++ line.text) ++ 10 ∷ [] })) lines
commands_spelled None (line ∷ lines) =
    if is_spoken (words line.text) then elim (opening_spelled (words line.text)) [
      | Some name ↦ commands_spelled (Some (record { line = line.number; name = name; text = [] })) lines
      | None ↦ ok_or (command_spelled (words line.text)) line.number >>= λ command. onto command (commands_spelled None lines)
    ] else commands_spelled None lines

-- ---- the script of a text, or the line of its first fault

-- the first of some lines, or a fault at the line behind the last of all
abbrev pub first_line : ℕ → List NumberedLine → Result (NumberedLine × List NumberedLine) ℕ
first_line end [] = Err end
first_line end (line ∷ lines) = Ok (line, lines)

-- the rule and the number of replicas of a script, and its further lines
pub record Head : Type 0 where
  pub rule : GenerationsRule
  pub replicas : ℕ
  pub behind : List NumberedLine

-- the first line that says something names the rule, the second the number of replicas
abbrev pub head_spelled : ℕ → List NumberedLine → Result Head ℕ
head_spelled end lines =
    first_line end (past_skipped lines) >>= λ first. ok_or (rule_spelled (words first.0.text)) first.0.number >>= λ rule.
    first_line end (past_skipped first.1) >>= λ second. ok_or (replicas_spelled (words second.0.text)) second.0.number >>= λ replicas.
    Ok (record { rule = rule; replicas = replicas; behind = second.1 })

-- the head of a text, or the line of its fault: the first or second that says something, or the one behind the last
abbrev pub head_of : List ℕ → Result Head ℕ
head_of text = head_spelled (length (lines text) + 1) (lines_from 1 text)

-- the head, and the commands of the lines behind it
abbrev pub script_of : List ℕ → Result ScriptValue ℕ
script_of text =
    head_of text >>= λ head. commands_spelled None head.behind >>= λ commands.
    Ok (record { rule = head.rule; replicas = head.replicas; commands = commands })
