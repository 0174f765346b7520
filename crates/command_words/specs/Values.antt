-- What single words say.
use Rattle.std.specs.Prelude.{ℕ, zero, suc, Bool, ◌&&◌, nat_le, if◌then◌else◌, List, [], ◌∷◌, length, codes, Option, Some, None, option_map, unwrap_or}
use Rattle.std.specs.Char.{is_ascii_alphanumeric, is_ascii_digit}
use Rattle.std.specs.List.{list_all}
use Rattle.std.specs.Option.{option_map_or}
use Rattle.std.specs.Result.{is_ok}
use Rattle.std.specs.Str.{bytes_eq}
use Rattle.generations_rule.specs.RuleText.{parsed}
use Rattle.text_scan.specs.Bytes.{◌>=>◌, decimal_number}
use Rattle.text_scan.specs.Words.{signed_number}
use Rattle.pattern_cells.specs.declared.cell.Cell.{Cell}
use Rattle.command_words.specs.Quotes.{name_in_quotes}

-- a number of 32 bits
abbrev pub number_spelled : List ℕ → Option ℕ
number_spelled word = decimal_number 4294967295 word

-- the word, if it is the text of a rule
abbrev pub rule_text_spelled : List ℕ → Option (List ℕ)
rule_text_spelled word = if is_ok (parsed word) then Some word else None

-- a number of replicas
abbrev pub replicas_spelled : List ℕ → Option ℕ
replicas_spelled word = decimal_number 64 word

-- a state
abbrev pub state_spelled : List ℕ → Option ℕ
state_spelled word = decimal_number 255 word

-- a number, unless it is 0
abbrev pub positive : ℕ → Option ℕ
positive zero = None
positive (suc n) = Some (suc n)

-- the longest period that is looked for
abbrev pub most_spelled : List ℕ → Option ℕ
most_spelled word = decimal_number 65535 word >=> positive

-- 1 to 16 ASCII letters and digits
abbrev pub is_pattern_name : List ℕ → Bool
is_pattern_name word = nat_le 1 (length word) && nat_le (length word) 16 && list_all is_ascii_alphanumeric word

-- the word, if it is a name
abbrev pub name_spelled : List ℕ → Option (List ℕ)
name_spelled word = if is_pattern_name word then Some word else None

-- the name of a file: the word, or what stands between its quotes
abbrev pub file_spelled : List ℕ → List ℕ
file_spelled word = unwrap_or (name_in_quotes word) word

-- the word, unless it is digits alone
abbrev pub no_number_spelled : List ℕ → Option (List ℕ)
no_number_spelled word = if list_all is_ascii_digit word then None else Some word

-- the name of a file that is written: digits alone are one only in quotes
abbrev pub new_name_spelled : List ℕ → Option (List ℕ)
new_name_spelled word = option_map_or Some (name_in_quotes word) (no_number_spelled word)

-- the file that is written, and none for `-`, which is standard output
abbrev pub new_file_spelled : List ℕ → Option (Option (List ℕ))
new_file_spelled word = if bytes_eq word (codes "-") then Some None else option_map Some (new_name_spelled word)

-- a coordinate and a state
abbrev pub cell_spelled : List ℕ → List ℕ → List ℕ → Option Cell
cell_spelled x y state = signed_number x >=> λ x. signed_number y >=> λ y. state_spelled state >=> λ state. Some (record { x = x; y = y; state = state })

-- each three words are a cell
abbrev pub cells_spelled : List (List ℕ) → Option (List Cell)
cells_spelled [] = Some []
cells_spelled (x ∷ y ∷ state ∷ words) = cell_spelled x y state >=> λ cell. option_map (λ cells. cell ∷ cells) (cells_spelled words)
cells_spelled (x ∷ y ∷ []) = None
cells_spelled (x ∷ []) = None
