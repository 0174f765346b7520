-- Rule texts `S/B/C`: survival counts, birth counts, number of states; as `345/2/4`, Star Wars.
use Rattle.std.specs.Prelude.{◌≡◌, ℕ, ◌+◌, ◌≤◌, Bool, ◌&&◌, not, List, [], ◌∷◌, ◌++◌, map, length, nat_le, ◌==◌, filter, count_by, Option, Result, decimal, IfOk, position, option_map, Ok}
use Rattle.std.specs.List.{list_any, before_first, after_first}
use Rattle.std.specs.Str.Parse.{digits_value}
use Rattle.generations_rule.specs.Rule.{GenerationsRule, IsRule, has}
use Rattle.generations_rule.specs.Refusal.{when, first_of, unless}
use Rattle.generations_rule.specs.declared.fault.RuleFault.{RuleFault}
use Rattle.generations_rule.specs.declared.fault.RuleFault.TheVariants.{Slashes, Digit, States}

abbrev pub slash : ℕ
slash = 47

abbrev pub is_slash : ℕ → Bool
is_slash byte = byte == slash

-- the numbers of live neighbours that there can be
abbrev pub counts : List ℕ
counts = 0 ∷ 1 ∷ 2 ∷ 3 ∷ 4 ∷ 5 ∷ 6 ∷ 7 ∷ 8 ∷ []

-- a digit as it is printed
abbrev pub glyph : ℕ → ℕ
glyph n = 48 + n

-- ---- printing

-- each count of the set once, ascending
unfoldable pub text_of_set : List Bool → List ℕ
text_of_set set = map glyph (filter (has set) counts)

-- the printed form
abbrev pub text_of : GenerationsRule → List ℕ
text_of r = text_of_set r.survival ++ slash ∷ [] ++ text_of_set r.birth ++ slash ∷ [] ++ decimal r.states

-- ---- reading

-- what stands before the first slash, between the two, and behind the second
abbrev pub survival_part : List ℕ → List ℕ
survival_part text = before_first is_slash text

abbrev pub birth_part : List ℕ → List ℕ
birth_part text = before_first is_slash (after_first is_slash text)

abbrev pub states_part : List ℕ → List ℕ
states_part text = after_first is_slash (after_first is_slash text)

-- the set of the digits that stand in a part, in any order and any number of times
abbrev pub set_of : List ℕ → List Bool
set_of part = map (λ n. list_any (λ byte. byte == glyph n) part) counts

-- the rule that the parts name
abbrev pub rule_of_text : List ℕ → GenerationsRule
rule_of_text text = record {
  survival = set_of (survival_part text);
  birth = set_of (birth_part text);
  states = digits_value 10 (states_part text);
}

-- the byte is no digit from the least to the greatest
abbrev pub is_misfit : ℕ → ℕ → ℕ → Bool
is_misfit least greatest byte = not (nat_le (glyph least) byte && nat_le byte (glyph greatest))

-- the first such byte of a part that begins at this place of the text
abbrev pub misfit_at : ℕ → ℕ → ℕ → List ℕ → Option RuleFault
misfit_at start least greatest part = option_map (λ i. Digit (start + i)) (position (is_misfit least greatest) part)

-- one to three digits with a value from 2 to 256
abbrev pub is_number_of_states : List ℕ → Bool
is_number_of_states part =
    nat_le 1 (length part) && nat_le (length part) 3 && nat_le 2 (digits_value 10 part) && nat_le (digits_value 10 part) 256

-- What is wrong with a text: there are not exactly two slashes; the first byte from the left may not
-- stand in its part; the third part names no number of states. The first of these is answered.
abbrev pub fault_of_text : List ℕ → Option RuleFault
fault_of_text text =
    first_of (
    when (not (count_by is_slash text == 2)) Slashes
    ∷ misfit_at 0 0 8 (survival_part text)
    ∷ misfit_at (length (survival_part text) + 1) 1 8 (birth_part text)
    ∷ misfit_at (length (survival_part text) + length (birth_part text) + 2) 0 9 (states_part text)
    ∷ when (not (is_number_of_states (states_part text))) States
    ∷ [])

-- the rule of a text, or what is wrong with the text
abbrev pub parsed : List ℕ → Result GenerationsRule RuleFault
parsed text = unless (fault_of_text text) (rule_of_text text)

-- ---- laws

-- what is accepted is a rule
abbrev pub AcceptsOnlyRules : Type 0
AcceptsOnlyRules = (text : List ℕ) → IfOk (parsed text) (λ r. IsRule r)

-- a rule's printed form is read as that rule
abbrev pub ReadsBack : Type 0
ReadsBack = (r : GenerationsRule) → IsRule r → parsed (text_of r) ≡ Ok r

-- the printed form is short
abbrev pub HasShortText : Type 0
HasShortText = (r : GenerationsRule) → IsRule r → length (text_of r) ≤ 22
