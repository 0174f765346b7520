-- Rules of other families than Golly's Generations over eight neighbours, told by the form of their texts. Golly's help has
-- them: "Algorithm: QuickLife", "Generations", "Larger than Life", "JvN" and "RuleLoader", and "Bounded Grids".
use Rattle.std.specs.Prelude.{ℕ, Bool, true, false, ◌||◌, ◌&&◌, List, [], ◌∷◌, ◌-◌, ◌==◌, length, take, drop, codes, Option, Some, None}
use Rattle.std.specs.List.{list_any, before_first}
use Rattle.std.specs.Option.{option_or, is_some}
use Rattle.std.specs.Result.{result_ok}
use Rattle.std.specs.Str.{str_eq_ignore_ascii_case}
use Rattle.generations_rule.specs.Refusal.{when, first_of}
use Rattle.generations_rule.specs.Rule.{GenerationsRule}
use Rattle.generations_rule.specs.RuleText.{parsed}
use Rattle.text_scan.specs.Bytes.{is_decimal_digit, ◌>=>◌}
use Rattle.header_rules.specs.declared.notation.Notation.TheVariants.{Totalistic, Hensel}
use Rattle.header_rules.specs.declared.family.OtherFamily.{OtherFamily}
use Rattle.header_rules.specs.declared.family.OtherFamily.TheVariants as family
use Rattle.header_rules.specs.Spellings.{RuleParts, is_hensel_letter, is_count, behind_letter, lettered, parts_spelled, are_counts, states_spelled, rule_of_parts}
use Rattle.header_rules.specs.Names.{beside, rule_named}

-- ---- this family

-- the rule that a text spells by its parts or by its name
abbrev pub rule_written : List ℕ → Option GenerationsRule
rule_written text = option_or (parts_spelled Totalistic text >=> rule_of_parts) (rule_named text)

-- the rule that a text spells, as `S/B/C` or otherwise
abbrev pub rule_in_family : List ℕ → Option GenerationsRule
rule_in_family text = option_or (result_ok (parsed text)) (rule_written text)

-- ---- forms of other families

-- something was read, and it passes
abbrev pub is_read : {A : Type 0} → (A → Bool) → Option A → Bool
is_read test None = false
is_read test (Some x) = test x

-- the counts are 0 to 8 and the states 2 to 256
abbrev pub is_fit : RuleParts → Bool
is_fit parts = are_counts 0 parts.survival && are_counts 0 parts.birth && is_some (states_spelled parts.states)

-- and 0 is among the births
abbrev pub is_born_on_none : RuleParts → Bool
is_born_on_none parts = is_fit parts && list_any (λ byte. byte == 48) parts.birth

-- `B03/S23`
abbrev pub has_birth_on_none : List ℕ → Bool
has_birth_on_none text = is_read is_born_on_none (lettered Totalistic text)

-- the text begins with these letters, capital or small
abbrev pub begins_with : List ℕ → List ℕ → Bool
begins_with letters text = str_eq_ignore_ascii_case (take (length letters) text) letters

-- the text ends with these letters, capital or small
abbrev pub ends_with : List ℕ → List ℕ → Bool
ends_with letters text = str_eq_ignore_ascii_case (drop (length text - length letters) text) letters

-- `B3/S23V`, von Neumann's four neighbours, and `B2/S34H`, the six of hexagons: a letter behind what is a spelling for eight
abbrev pub has_other_neighbours : List ℕ → Bool
has_other_neighbours text =
    (ends_with (codes "V") text || ends_with (codes "H") text) && is_read is_fit (parts_spelled Totalistic (take (length text - 1) text))

-- a part that does not begin with a letter
abbrev pub begins_with_count : List ℕ → Bool
begins_with_count [] = true
begins_with_count (byte ∷ rest) = is_count byte

-- letters stand behind some counts
abbrev pub has_letters : RuleParts → Bool
has_letters parts =
    begins_with_count parts.survival && begins_with_count parts.birth && is_some (states_spelled parts.states)
    && (list_any is_hensel_letter parts.survival || list_any is_hensel_letter parts.birth)

-- `B2e3/S23`, `B3/S2-i34q`, `B3_S23-a4ei6`
abbrev pub is_non_totalistic : List ℕ → Bool
is_non_totalistic text = is_read has_letters (parts_spelled Hensel text)

abbrev pub begins_with_digit : List ℕ → Bool
begins_with_digit [] = false
begins_with_digit (byte ∷ rest) = is_decimal_digit byte

-- `W110`, and `R5` of `R5,C0,M1,S34..58,B34..45,NM`
abbrev pub is_letter_with_number : ℕ → List ℕ → Bool
is_letter_with_number letter text = is_read begins_with_digit (behind_letter letter text)

-- ---- names in other families

-- those of Golly's list of named rules, its help, its algorithm JvN and its folder Rules; and StateInvestigator, of other collections
unfoldable pub other_names : List (List ℕ × OtherFamily)
other_names =
    (codes "AntiLife", family.BirthOnNone)
    ∷ (codes "Just Friends", family.NonTotalistic)
    ∷ (codes "Wolfram 22", family.Wolfram)
    ∷ (codes "Wolfram 30", family.Wolfram)
    ∷ (codes "Wolfram 110", family.Wolfram)
    ∷ (codes "WireWorld", family.Table)
    ∷ (codes "JvN29", family.Table)
    ∷ (codes "JvN-29", family.Table)
    ∷ (codes "Nobili32", family.Table)
    ∷ (codes "Hutton32", family.Table)
    ∷ (codes "Banks-I", family.Table)
    ∷ (codes "Banks-II", family.Table)
    ∷ (codes "Banks-III", family.Table)
    ∷ (codes "Banks-IV", family.Table)
    ∷ (codes "Byl-Loop", family.Table)
    ∷ (codes "Chou-Reggia-1", family.Table)
    ∷ (codes "Chou-Reggia-2", family.Table)
    ∷ (codes "Codd", family.Table)
    ∷ (codes "Codd2", family.Table)
    ∷ (codes "Devore", family.Table)
    ∷ (codes "Ed-rep", family.Table)
    ∷ (codes "Evoloop", family.Table)
    ∷ (codes "Evoloop-finite", family.Table)
    ∷ (codes "HPP", family.Table)
    ∷ (codes "Langtons-Ant", family.Table)
    ∷ (codes "Langtons-Loops", family.Table)
    ∷ (codes "LifeOnTheEdge", family.Table)
    ∷ (codes "LifeOnTheSlope", family.Table)
    ∷ (codes "Perrier", family.Table)
    ∷ (codes "SDSR-Loop", family.Table)
    ∷ (codes "StateInvestigator", family.Table)
    ∷ (codes "Tempesti", family.Table)
    ∷ []

-- kinds of rules in that folder, whose names begin or end alike
unfoldable pub table_fronts : List (List ℕ)
table_fronts = codes "AbsoluteTurmite_" ∷ codes "LangtonsAnt_" ∷ codes "TriTurmite_" ∷ codes "Turmite_" ∷ codes "Worm-" ∷ []

unfoldable pub table_ends : List (List ℕ)
table_ends = codes "History" ∷ codes "-emulated" ∷ codes "_emulated" ∷ []

abbrev pub is_table_name : List ℕ → Bool
is_table_name text = list_any (λ front. begins_with front text) table_fronts || list_any (λ end. ends_with end text) table_ends

-- ---- families

abbrev pub is_colon : ℕ → Bool
is_colon byte = byte == 58

-- the text in front of a bounded grid, `:T100,200`
abbrev pub unbounded : List ℕ → List ℕ
unbounded text = before_first is_colon text

-- by a spelling that is one of this family but for births, a letter behind it or letters within
abbrev pub family_by_spelling : List ℕ → Option OtherFamily
family_by_spelling text =
    first_of (
    when (has_birth_on_none text) family.BirthOnNone
    ∷ when (has_other_neighbours text) family.Neighbours
    ∷ when (is_non_totalistic text) family.NonTotalistic
    ∷ [])

-- by what a text begins with
abbrev pub family_by_front : List ℕ → Option OtherFamily
family_by_front text =
    first_of (
    when (begins_with (codes "MAP") text) family.Map
    ∷ when (is_letter_with_number 82 text) family.LargerThanLife
    ∷ when (is_letter_with_number 87 text) family.Wolfram
    ∷ [])

-- by a name
abbrev pub family_by_name : List ℕ → Option OtherFamily
family_by_name text = first_of (beside other_names text ∷ when (is_table_name text) family.Table ∷ [])

-- the family of a text that spells no rule of this one: where it does so without its grid, it is a rule of this family that is
-- bounded; else the grid is passed over
abbrev pub other_family : List ℕ → Option OtherFamily
other_family text =
    first_of (
    when (is_some (rule_in_family (unbounded text))) family.Bounded
    ∷ family_by_spelling (unbounded text)
    ∷ family_by_front (unbounded text)
    ∷ family_by_name (unbounded text)
    ∷ [])
