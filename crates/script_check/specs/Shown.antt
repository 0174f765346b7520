-- The line of a script that is shown at a place, and the carets under it.
use Rattle.std.specs.Prelude.{◌≡◌, ◌≤◌, ℕ, ◌-◌, ◌==◌, nat_le, ◌&&◌, min, max, List, [], ◌∷◌, ◌++◌, map, take, replicate, if◌then◌else◌}
use Rattle.genedit_script.specs.Script.{NumberedLine, lines_from}
use Rattle.script_faults.specs.declared.note.Place.{Place}

-- the text of the one with this number among some lines; where there is none it is empty
abbrev pub text_numbered : ℕ → List NumberedLine → List ℕ
text_numbered number [] = []
text_numbered number (line ∷ lines) = if line.number == number then line.text else text_numbered number lines

-- the text of a script's line; they are counted from 1
abbrev pub line_text : List ℕ → ℕ → List ℕ
line_text script number = text_numbered number (lines_from 1 script)

-- printing ASCII is shown as it is, each other byte as `?`
abbrev pub shown_byte : ℕ → ℕ
shown_byte byte = if nat_le 32 byte && nat_le byte 126 then byte else 63

-- of a line, its first 100 bytes
abbrev pub shown_line : List ℕ → List ℕ
shown_line line = map shown_byte (take 100 line)

-- how many bytes before a place are shown
abbrev pub indent : Place → ℕ
indent place = min (place.column - 1) 100

-- carets under those bytes of a place that are shown, or else under the one behind them
abbrev pub carets : Place → List ℕ
carets place = replicate (indent place) 32 ++ replicate (max (min place.width (100 - indent place)) 1) 94

-- From this line on, the texts by their numbers in what is left of a script are those in the script.
abbrev pub IsLeftOf : List ℕ → ℕ → List ℕ → Type 0
IsLeftOf script from rest = (number : ℕ) → from ≤ number → text_numbered number (lines_from from rest) ≡ line_text script number
