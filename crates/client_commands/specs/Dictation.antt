-- The lines of a client, one by one: what each comes to.
use Rattle.std.specs.Prelude.{ℕ, ◌+◌, if◌then◌else◌, List, [], ◌∷◌, ◌++◌, codes, Option, Some, None, min}
use Rattle.std.specs.Str.{bytes_eq}
use Rattle.std.specs.Str.Lines.{strip_carriage_return}
use Rattle.text_scan.specs.Words.{words}
use Rattle.command_words.specs.Quotes.{client_words}
use Rattle.genedit_script.specs.Script.{NumberedLine, PatternBlock, is_spoken, opening_spelled}
use Rattle.client_commands.specs.declared.command.ClientCommand.{ClientCommand}
use Rattle.client_commands.specs.declared.command.ClientCommand.TheVariants.{Pattern}
use Rattle.client_commands.specs.declared.dictation.Heard.{Heard}
use Rattle.client_commands.specs.declared.dictation.Heard.TheVariants.{Nothing, Command, Faulty}
use Rattle.client_commands.specs.Commands.{client_command_spelled}

-- ---- lines with their numbers

-- the command, or the fault of a line that is none
abbrev pub command_or_fault : Option ClientCommand → ℕ → Heard
command_or_fault (Some command) number = Command command
command_or_fault None number = Faulty number

-- what a line of a block comes to, and the block that is open behind it; one that is just `end` closes it
abbrev pub inside_heard : PatternBlock → List ℕ → Heard × Option PatternBlock
inside_heard block text =
    if bytes_eq text (codes "end") then (Command (Pattern block.name block.text), None)
    else (Nothing, Some (record { line = block.line; name = block.name; text = (block.text ++ text) ++ 10 ∷ [] }))

-- what a line outside of a block comes to, and the block that is open behind it
abbrev pub outside_heard : NumberedLine → Heard × Option PatternBlock
outside_heard line =
    if is_spoken (words line.text) then elim (opening_spelled (words line.text)) [
      | Some name ↦ (Nothing, Some (record { line = line.number; name = name; text = [] }))
      | None ↦ (command_or_fault (client_command_spelled (client_words line.text)) line.number, None)
    ] else (Nothing, None)

-- what a line comes to, which stands in a block or in none, and the block that is open behind it
abbrev pub line_heard : Option PatternBlock → NumberedLine → Heard × Option PatternBlock
line_heard (Some block) line = inside_heard block line.text
line_heard None line = outside_heard line

-- the fault of the end of all lines: that of the block which they leave open
abbrev pub end_heard : Option PatternBlock → List Heard
end_heard None = []
end_heard (Some block) = Faulty block.line ∷ []

-- what some lines come to, one by one, and their end; they begin in a block or in none
abbrev pub lines_heard : Option PatternBlock → List NumberedLine → List Heard
lines_heard block [] = end_heard block
lines_heard block (line ∷ lines) = let heard = line_heard block line in heard.0 ∷ lines_heard heard.1 lines

-- ---- lines that are counted as they come

-- how many lines came, and the block that is open
pub record DictationValue : Type 0 where
  pub lines : ℕ
  pub block : Option PatternBlock

-- the number of the line behind so many; none is above 2^64 - 1
abbrev pub next_number : ℕ → ℕ
next_number lines = min (lines + 1) 18446744073709551615

-- a line as it came, with its number and without the carriage return at its end
abbrev pub next_line : ℕ → List ℕ → NumberedLine
next_line lines text = record { number = next_number lines; text = strip_carriage_return text }

-- what the next line comes to, and how all stands behind it
abbrev pub heard_by : DictationValue → List ℕ → Heard × DictationValue
heard_by dictation text =
    let heard = line_heard dictation.block (next_line dictation.lines text) in
    (heard.0, record { lines = next_number dictation.lines; block = heard.1 })

-- what some lines come to, each heard behind the one before, and their end
abbrev pub all_heard_by : DictationValue → List (List ℕ) → List Heard
all_heard_by dictation [] = end_heard dictation.block
all_heard_by dictation (text ∷ texts) = let heard = heard_by dictation text in heard.0 ∷ all_heard_by heard.1 texts
