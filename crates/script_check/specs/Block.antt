-- Where the refusal of a command is told: at the command, or in the block of a pattern.
use Rattle.std.specs.Prelude.{ℕ, ◌+◌, ◌-◌, ◌==◌, nat_le, max, Bool, ◌||◌, List, [], ◌∷◌, length, codes, Option, Some, None, if◌then◌else◌}
use Rattle.std.specs.List.{list_all}
use Rattle.std.specs.Option.{unwrap_or}
use Rattle.std.specs.Str.{bytes_eq}
use Rattle.text_scan.specs.Bytes.{is_space_or_tab}
use Rattle.multistate_rle.specs.RleFault.{text_fault_number}
use Rattle.multistate_rle.specs.declared.fault.RleFault.TheVariants as texts
use Rattle.genedit_script.specs.Script.{NumberedLine, opens_comment}
use Rattle.script_faults.specs.declared.note.Place.{Place}

-- the lines behind the one with this number
abbrev pub lines_behind : ℕ → List NumberedLine → List NumberedLine
lines_behind number [] = []
lines_behind number (line ∷ lines) = if nat_le line.number number then lines_behind number lines else line ∷ lines

-- the place of a byte of these lines, each of which has a line feed behind it
abbrev pub byte_among : ℕ → List NumberedLine → Option Place
byte_among at [] = None
byte_among at (line ∷ lines) =
    if nat_le at (length line.text) then Some (record { line = line.number; column = at + 1; width = 1 })
    else byte_among (at - (length line.text + 1)) lines

-- a comment, or blank
abbrev pub stands_in_front : List ℕ → Bool
stands_in_front text = opens_comment text || list_all is_space_or_tab text

-- the line that should be the header of a pattern: the first that does not stand in front of one, unless it is the block's end
abbrev pub header_among : List NumberedLine → Option Place
header_among [] = None
header_among (line ∷ lines) =
    if stands_in_front line.text then header_among lines
    else if bytes_eq line.text (codes "end") then None
    else Some (record { line = line.number; column = 1; width = max (length line.text) 1 })

-- the place in a block of a refusal with this number and, where it tells one, at this byte
abbrev pub told_in_block : ℕ → Option ℕ → List NumberedLine → Option Place
told_in_block number (Some at) block = byte_among at block
told_in_block number None block = if number == text_fault_number texts.Header then header_among block else None

-- a command's own refusal is told in its block, or else at the command
abbrev pub fault_place : List NumberedLine → Place → ℕ → Option ℕ → Place
fault_place lines command number at = unwrap_or (told_in_block number at (lines_behind command.line lines)) command
