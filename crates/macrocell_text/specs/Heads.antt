-- What a line tells that begins with `#`: the rule, or the generation.
use Rattle.std.specs.Prelude.{ℕ, ◌+◌, ◌-◌, List, [], ◌∷◌, codes, length, if◌then◌else◌, Option, Some, None}
use Rattle.std.specs.List.{before_first}
use Rattle.text_scan.specs.Bytes.{behind_all, decimal_number, is_space_or_tab, past_prefix, ◌>=>◌}
use Rattle.macrocell_text.specs.declared.head.RulePlace.{RulePlace}
use Rattle.macrocell_text.specs.Numbers.{ends_word}

-- what stands behind a word with which a line begins, without the blanks in front
abbrev pub value_behind : List ℕ → List ℕ → Option (List ℕ)
value_behind word line = behind_all word line >=> λ rest. if ends_word rest then Some (past_prefix is_space_or_tab rest) else None

-- the first word of a text that begins with it
abbrev pub first_word : List ℕ → List ℕ
first_word text = before_first is_space_or_tab text

-- a rule's text at a place, unless it is empty
abbrev pub rule_at : ℕ → List ℕ → Option RulePlace
rule_at place [] = None
rule_at place (byte ∷ rule) = Some (record { place = place; length = length (byte ∷ rule) })

-- the rule's text behind `#R` of a line that begins at a place
abbrev pub rule_in_line : ℕ → List ℕ → Option RulePlace
rule_in_line start line = value_behind (codes "#R") line >=> λ rest. rule_at (start + (length line - length rest)) (first_word rest)

-- the generation behind `#G`, a number of 64 bits
abbrev pub generation_in_line : List ℕ → Option ℕ
generation_in_line line = value_behind (codes "#G") line >=> λ rest. decimal_number 18446744073709551615 (first_word rest)
