-- The numbers by which people draw who draw apart: a text of lines `65 ann`.
use Rattle.std.specs.Prelude.{◌≡◌, ⊤, ℕ, ◌+◌, ◌==◌, ◌||◌, ◌&&◌, not, max, nat_le, Bool, true, if◌then◌else◌, List, [], ◌∷◌, ◌++◌, length, map, find, slice_get, ◌-◌, codes, decimal, Option, Some, None, option_map, Result, Ok, Err, Vec}
use Rattle.std.specs.List.{list_any}
use Rattle.std.specs.Option.{option_map_or}
use Rattle.std.specs.Str.{bytes_eq}
use Rattle.std.specs.declared.alloc.Global.{Global}
use Rattle.text_scan.specs.Bytes.{◌>=>◌, decimal_number, is_space_or_tab}
use Rattle.text_scan.specs.Bytes as bytes
use Rattle.text_scan.specs.Words.{words}
use Rattle.genedit_documents.specs.declared.numbers.Numbering.{Numbering}
use Rattle.genedit_documents.specs.declared.numbers.NumbersFault.{NumbersFault}
use Rattle.genedit_documents.specs.declared.numbers.NumbersFault.TheVariants as fault
use Rattle.genedit_documents.specs.declared.numbers.Numbered.{Numbered}
use Rattle.genedit_documents.specs.declared.numbers.Numbered.TheVariants as numbered

-- a number, and who draws by it
abbrev pub pair_of : Numbering → ℕ × List ℕ
pair_of numbering = (numbering.number, numbering.name.items)

-- ---- what a text tells

abbrev pub from_first : ℕ → Option ℕ
from_first n = if nat_le 65 n then Some n else None

-- a number from 65 to 65535: those before it are seats of boards that are served
abbrev pub own_number : List ℕ → Option ℕ
own_number digits = decimal_number 65535 digits >=> from_first

-- by the first word of a line and those behind it, which are one name
abbrev pub told_behind : List ℕ → List (List ℕ) → Option (ℕ × List ℕ)
told_behind digits [] = None
told_behind digits (name ∷ []) = option_map (λ n. (n, name)) (own_number digits)
told_behind digits (name ∷ word ∷ more) = None

-- by the words of a line: nothing where it has none, else a number and a name, or neither
abbrev pub told_by : List (List ℕ) → Option (Option (ℕ × List ℕ))
told_by [] = Some None
told_by (digits ∷ behind) = option_map (λ told. Some told) (told_behind digits behind)

-- what a line tells in front of what those behind it do
abbrev pub in_front : List ℕ → Option (Option (ℕ × List ℕ)) → Result (List (ℕ × List ℕ)) (List ℕ) → Result (List (ℕ × List ℕ)) (List ℕ)
in_front line None rest = Err line
in_front line (Some None) rest = rest
in_front line (Some (Some told)) (Ok more) = Ok (told ∷ more)
in_front line (Some (Some told)) (Err wrong) = Err wrong

-- what lines tell, in their order, or the first that tells neither
abbrev pub numbers_told : List (List ℕ) → Result (List (ℕ × List ℕ)) (List ℕ)
numbers_told [] = Ok []
numbers_told (line ∷ lines) = in_front line (told_by (words line)) (numbers_told lines)

abbrev pub AreTold : List (List ℕ) → Result (Vec Numbering Global) NumbersFault → Type 0
AreTold lines (Ok told) = numbers_told lines ≡ Ok (map pair_of told.items)
AreTold lines (Err (fault.Line line)) = numbers_told lines ≡ Err line.items
AreTold lines (Err fault.Memory) = ⊤

abbrev pub IsTold : List ℕ → Result (Option Numbering) NumbersFault → Type 0
IsTold line (Ok told) = told_by (words line) ≡ Some (option_map pair_of told)
IsTold line (Err (fault.Line wrong)) = (wrong.items ≡ line) × (told_by (words line) ≡ None)
IsTold line (Err fault.Memory) = ⊤

-- ---- by which number somebody draws

-- it is told of a name
abbrev pub is_of : List ℕ → Numbering → Bool
is_of name told = bytes_eq told.name.items name

-- just one of the two is so: the number is told, or the name
abbrev pub is_other : ℕ → List ℕ → Numbering → Bool
is_other number name told = if told.number == number then not (is_of name told) else is_of name told

-- another number is told of a name, or its number of another
abbrev pub is_at_odds : List Numbering → ℕ → List ℕ → Bool
is_at_odds told number name = list_any (is_other number name) told

-- the greatest number that is told; 0 where none is
abbrev pub greatest : List Numbering → ℕ
greatest [] = 0
greatest (first ∷ told) = max first.number (greatest told)

-- one more than the greatest that is told, and 65 at least
abbrev pub next_of : ℕ → Numbered
next_of most = if most == 65535 then numbered.Full else numbered.Next (max most 64 + 1)

-- the one that is told of a name, where that is its own; else the next
abbrev pub number_by : List Numbering → List ℕ → Option Numbering → Numbered
number_by told name (Some own) = if is_at_odds told own.number name then numbered.AtOdds else numbered.Told own.number
number_by told name None = next_of (greatest told)

abbrev pub number_of : List Numbering → List ℕ → Numbered
number_of told name = number_by told name (find (is_of name) told)

-- ---- texts

-- a text has no byte, or ends with a line feed
abbrev pub ends_line : List ℕ → Bool
ends_line text = option_map_or (λ byte. byte == 10) (slice_get text (length text - 1)) true

-- a line more at the end of a text
abbrev pub number_text : List ℕ → ℕ → List ℕ → List ℕ
number_text text number name = text ++ ((if ends_line text then [] else codes "\n") ++ (decimal number ++ (codes " " ++ (name ++ codes "\n"))))

-- a blank, or a line's end
abbrev pub parts_words : ℕ → Bool
parts_words byte = is_space_or_tab byte || bytes.ends_line byte

-- a name is one word
abbrev pub is_name : List ℕ → Bool
is_name name = not (length name == 0) && not (list_any parts_words name)
