-- How a text spells a rule: where in it the digits of the rule's parts stand. Each form has a reader of its own; two states need
-- not be written.
use Rattle.std.specs.Prelude.{ℕ, Bool, not, ◌||◌, ◌&&◌, List, [], ◌∷◌, nat_le, ◌==◌, length, codes, if◌then◌else◌, Option, Some, None}
use Rattle.std.specs.Char.{eq_ignore_ascii_case, to_ascii_lowercase}
use Rattle.std.specs.List.{list_any}
use Rattle.std.specs.Option.{option_or, unwrap_or}
use Rattle.generations_rule.specs.Rule.{GenerationsRule}
use Rattle.generations_rule.specs.RuleText.{slash, is_slash, is_misfit, set_of}
use Rattle.text_scan.specs.Bytes.{is_decimal_digit, front, past_prefix, ◌>=>◌, text_behind, decimal_number}
use Rattle.header_rules.specs.declared.notation.Notation.{Notation}
use Rattle.header_rules.specs.declared.notation.Notation.TheVariants.{Totalistic, Hensel}

-- ---- how counts are written

-- the letters behind a count that tell where the neighbours are
abbrev pub is_hensel_letter : ℕ → Bool
is_hensel_letter byte = list_any (λ letter. letter == to_ascii_lowercase byte) (codes "aceijknqrtwyz")

-- the digit of a count
abbrev pub is_count : ℕ → Bool
is_count byte = nat_le 48 byte && nat_le byte 56

-- what may stand in a part: digits, or counts with Hensel's letters or `-` and those that are not meant
abbrev pub writes : Notation → ℕ → Bool
writes Totalistic byte = is_decimal_digit byte
writes Hensel byte = is_count byte || byte == 45 || is_hensel_letter byte

-- what may stand between parts: a slash, or in Hensel's notation an underscore
abbrev pub parts_at : Notation → ℕ → Bool
parts_at Totalistic byte = is_slash byte
parts_at Hensel byte = is_slash byte || byte == 95

-- ---- readers

-- what stands behind a letter, capital or small, if the text begins with it
abbrev pub behind_letter : ℕ → List ℕ → Option (List ℕ)
behind_letter letter [] = None
behind_letter letter (byte ∷ rest) = if eq_ignore_ascii_case byte letter then Some rest else None

-- what stands behind the slash, if the text begins with it
abbrev pub behind_slash : Notation → List ℕ → Option (List ℕ)
behind_slash notation [] = None
behind_slash notation (byte ∷ rest) = if parts_at notation byte then Some rest else None

-- the text without the slash with which it begins, if it does
abbrev pub past_slash : Notation → List ℕ → List ℕ
past_slash notation text = unwrap_or (behind_slash notation text) text

-- the digits in front of a text, and what stands behind them
abbrev pub part_in_front : Notation → List ℕ → List ℕ × List ℕ
part_in_front notation text = (front (writes notation) text, past_prefix (writes notation) text)

-- a letter and the digits behind it, and what stands behind those
abbrev pub part_of_letter : Notation → ℕ → List ℕ → Option (List ℕ × List ℕ)
part_of_letter notation letter text = behind_letter letter text >=> λ rest. Some (part_in_front notation rest)

-- what stands behind the letter of the states
abbrev pub behind_states_letter : List ℕ → Option (List ℕ)
behind_states_letter text = option_or (behind_letter 67 text) (behind_letter 71 text)

-- ---- forms

-- the digits of the counts, and what stands behind them
pub record CountsRead : Type 0 where
  pub survival : List ℕ
  pub birth : List ℕ
  pub rest : List ℕ

-- the digits of a rule's parts
pub record RuleParts : Type 0 where
  pub survival : List ℕ
  pub birth : List ℕ
  pub states : List ℕ

abbrev pub two_states : List ℕ
two_states = codes "2"

-- `B3/S23`
abbrev pub births_first : Notation → List ℕ → Option CountsRead
births_first notation text =
    part_of_letter notation 66 text >=> λ birth. part_of_letter notation 83 (past_slash notation birth.1) >=> λ survival.
    Some (record { survival = survival.0; birth = birth.0; rest = survival.1 })

-- `S23/B3`
abbrev pub survivals_first : Notation → List ℕ → Option CountsRead
survivals_first notation text =
    part_of_letter notation 83 text >=> λ survival. part_of_letter notation 66 (past_slash notation survival.1) >=> λ birth.
    Some (record { survival = survival.0; birth = birth.0; rest = birth.1 })

-- `23/3`
abbrev pub no_letters : Notation → List ℕ → Option CountsRead
no_letters notation text =
    behind_slash notation (past_prefix (writes notation) text) >=> λ rest.
    Some (record { survival = front (writes notation) text; birth = front (writes notation) rest; rest = past_prefix (writes notation) rest })

-- `/4` or nothing
abbrev pub states_of_slash : List ℕ → Option (List ℕ)
states_of_slash [] = Some two_states
states_of_slash (byte ∷ rest) = text_behind slash (byte ∷ rest)

-- `/C4`, `/G4`, `C4`, `G4`, `/4` or nothing
abbrev pub states_behind : Notation → List ℕ → Option (List ℕ)
states_behind notation rest = option_or (behind_states_letter (past_slash notation rest)) (states_of_slash rest)

-- the parts, where counts are read and then the states
abbrev pub with_states : CountsRead → Option (List ℕ) → Option RuleParts
with_states counts states = states >=> λ states. Some (record { survival = counts.survival; birth = counts.birth; states = states })

-- counts, and nothing behind them
abbrev pub at_end : CountsRead → Option CountsRead
at_end counts = if length counts.rest == 0 then Some counts else None

-- `C4/B2/S345`
abbrev pub states_first : Notation → List ℕ → Option RuleParts
states_first notation text =
    behind_states_letter text >=> λ rest. births_first notation (past_slash notation (past_prefix is_decimal_digit rest)) >=> λ counts.
    at_end counts >=> λ counts. with_states counts (Some (front is_decimal_digit rest))

-- `B2/S345/C4` or `S345/B2/C4`
abbrev pub states_last : Notation → List ℕ → Option RuleParts
states_last notation text =
    option_or (births_first notation text) (survivals_first notation text) >=> λ counts. with_states counts (states_behind notation counts.rest)

-- with the letters B and S
abbrev pub lettered : Notation → List ℕ → Option RuleParts
lettered notation text = option_or (states_last notation text) (states_first notation text)

-- `23/3` or `345/2/4`
abbrev pub unlettered : Notation → List ℕ → Option RuleParts
unlettered notation text = no_letters notation text >=> λ counts. with_states counts (states_of_slash counts.rest)

-- the parts of a rule that a text spells
abbrev pub parts_spelled : Notation → List ℕ → Option RuleParts
parts_spelled notation text = option_or (lettered notation text) (unlettered notation text)

-- ---- rules

-- every byte of a part is the digit of a count, from the least on
abbrev pub are_counts : ℕ → List ℕ → Bool
are_counts least part = not (list_any (is_misfit least 8) part)

abbrev pub at_least : ℕ → ℕ → Option ℕ
at_least least n = if nat_le least n then Some n else None

-- one to three digits with a value from 2 to 256
abbrev pub states_spelled : List ℕ → Option ℕ
states_spelled digits = if nat_le (length digits) 3 then decimal_number 256 digits >=> at_least 2 else None

-- the rule with these parts, if survival counts are 0 to 8, birth counts 1 to 8, and states 2 to 256
abbrev pub rule_of_parts : RuleParts → Option GenerationsRule
rule_of_parts parts =
    states_spelled parts.states >=> λ states.
    if are_counts 0 parts.survival && are_counts 1 parts.birth
    then Some (record { survival = set_of parts.survival; birth = set_of parts.birth; states = states })
    else None
