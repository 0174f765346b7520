-- The faulty lines of a script, all of them: behind a faulty line the next ones are read as what they are due to be.
use Rattle.std.specs.Prelude.{ℕ, ◌+◌, Bool, true, false, not, ◌||◌, List, [], ◌∷◌, length, codes, if◌then◌else◌}
use Rattle.std.specs.List.{list_any}
use Rattle.std.specs.Option.{is_none}
use Rattle.std.specs.Str.{bytes_eq}
use Rattle.std.specs.Str.Lines.{lines}
use Rattle.text_scan.specs.Words.{words}
use Rattle.genedit_script.specs.Script.{NumberedLine, lines_from, is_spoken, rule_spelled, replicas_spelled, opening_spelled, command_spelled}
use Rattle.script_faults.specs.declared.due.Closing.{Closing}
use Rattle.script_faults.specs.declared.due.Closing.TheVariants.{Exact, Blank}
use Rattle.script_faults.specs.declared.due.Due.{Due}
use Rattle.script_faults.specs.declared.due.Due.TheVariants.{Rule, Replicas, Command, End}
use Rattle.script_faults.specs.declared.note.Note.{Note}
use Rattle.script_faults.specs.declared.note.Note.TheVariants.{Fault, Warning}
use Rattle.script_faults.specs.declared.note.Place.{Place}

-- ---- blocks

abbrev pub begins_with : List ℕ → List (List ℕ) → Bool
begins_with name [] = false
begins_with name (word ∷ words) = bytes_eq word name

-- these are one word
abbrev pub are_only : List ℕ → List (List ℕ) → Bool
are_only name (word ∷ []) = bytes_eq word name
are_only name _ = false

-- the line closes a block: it is exactly `end`; or, where no line is, its one word is
abbrev pub closes : Closing → List ℕ → Bool
closes Exact line = bytes_eq line (codes "end")
closes Blank line = are_only (codes "end") (words line)

-- some line is exactly `end`
abbrev pub has_end : List NumberedLine → Bool
has_end lines = list_any (λ (line : NumberedLine). closes Exact line.text) lines

-- what closes a block, which has its `end` or not
abbrev pub closing_of : Bool → Closing
closing_of closed = if closed then Exact else Blank

-- ---- what a line is due to be

-- the line is skipped
abbrev pub is_passed : Due → List ℕ → Bool
is_passed (End closing) line = false
is_passed Rule line = not (is_spoken (words line))
is_passed Replicas line = not (is_spoken (words line))
is_passed Command line = not (is_spoken (words line))

-- a line that is not what it is due to be: no `rule TEXT`, no `replicas N`, no command and no `pattern NAME` of a block that has its `end`
abbrev pub is_faulty : Due → List ℕ → List NumberedLine → Bool
is_faulty Rule line behind = is_none (rule_spelled (words line))
is_faulty Replicas line behind = is_none (replicas_spelled (words line))
is_faulty Command line behind =
    if begins_with (codes "pattern") (words line) then is_none (opening_spelled (words line)) || not (has_end behind)
    else is_none (command_spelled (words line))
is_faulty (End closing) line behind = false

-- what is due behind a line that opens no block
abbrev pub due_behind_words : Due → List (List ℕ) → Due
due_behind_words Rule words = if begins_with (codes "replicas") words then Command else Replicas
due_behind_words Replicas words = if begins_with (codes "rule") words then Replicas else Command
due_behind_words Command words = Command
due_behind_words (End closing) words = End closing

-- what is due behind a line: behind one that opens a block, even wrongly, the block, which has its `end` or not
abbrev pub due_after : Due → List ℕ → Bool → Due
due_after (End closing) line closed = if closes closing line then Command else End closing
due_after Rule line closed = if begins_with (codes "pattern") (words line) then End (closing_of closed) else due_behind_words Rule (words line)
due_after Replicas line closed = if begins_with (codes "pattern") (words line) then End (closing_of closed) else due_behind_words Replicas (words line)
due_after Command line closed = if begins_with (codes "pattern") (words line) then End (closing_of closed) else Command

abbrev pub due_behind : Due → List ℕ → List NumberedLine → Due
due_behind due line behind = due_after due line (has_end behind)

-- the line opens a block, even wrongly
abbrev pub opens : Due → List ℕ → Bool
opens (End closing) line = false
opens Rule line = begins_with (codes "pattern") (words line)
opens Replicas line = begins_with (codes "pattern") (words line)
opens Command line = begins_with (codes "pattern") (words line)

-- ---- the faulty lines

-- the line behind the last, where the rule or the number of replicas is still due
abbrev pub faulty_end : Due → ℕ → List ℕ
faulty_end Rule end = end ∷ []
faulty_end Replicas end = end ∷ []
faulty_end Command end = []
faulty_end (End closing) end = []

-- a line's number, if it is faulty
abbrev pub if_faulty : Bool → ℕ → List ℕ
if_faulty true number = number ∷ []
if_faulty false number = []

abbrev pub onto_faulty : Bool → ℕ → List ℕ → List ℕ
onto_faulty true number numbers = number ∷ numbers
onto_faulty false number numbers = numbers

-- the numbers of the faulty ones of some lines
abbrev pub faulty_from : Due → ℕ → List NumberedLine → List ℕ
faulty_from due end [] = faulty_end due end
faulty_from due end (line ∷ behind) =
    if is_passed due line.text then faulty_from due end behind
    else onto_faulty (is_faulty due line.text behind) line.number (faulty_from (due_behind due line.text behind) end behind)

-- the numbers of the faulty lines of a text
abbrev pub faulty_lines : List ℕ → List ℕ
faulty_lines text = faulty_from Rule (length (lines text) + 1) (lines_from 1 text)

-- ---- the commands

abbrev pub is_command : Due → Bool
is_command Command = true
is_command Rule = false
is_command Replicas = false
is_command (End closing) = false

-- the numbers of those of some lines that are due to be commands, `pattern` among them
abbrev pub command_lines_from : Due → List NumberedLine → List ℕ
command_lines_from due [] = []
command_lines_from due (line ∷ behind) =
    if is_passed due line.text then command_lines_from due behind
    else onto_faulty (is_command due) line.number (command_lines_from (due_behind due line.text behind) behind)

-- the numbers of the lines of a script's commands
abbrev pub command_lines : List ℕ → List ℕ
command_lines text = command_lines_from Rule (lines_from 1 text)

-- ---- what is told

abbrev pub place_of : Note → Place
place_of (Fault place reason) = place
place_of (Warning place warning) = place

abbrev pub is_fault : Note → Bool
is_fault (Fault place reason) = true
is_fault (Warning place warning) = false

-- the lines of the faults among notes
abbrev pub fault_lines : List Note → List ℕ
fault_lines [] = []
fault_lines (Fault place reason ∷ notes) = place.line ∷ fault_lines notes
fault_lines (Warning place warning ∷ notes) = fault_lines notes
