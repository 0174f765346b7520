-- The RLE text of cells, with the rule as Golly spells it.
use Rattle.std.specs.Prelude.{ℕ, Bool, ◌+◌, List, ◌++◌, drop, take, ◌==◌}
use Rattle.std.specs.List.{position_or_len}
use Rattle.generations_rule.specs.Rule.{GenerationsRule}
use Rattle.pattern_cells.specs.declared.cell.Cell.{Cell}
use Rattle.multistate_rle.specs.Bounds.{bounds_of, in_box}
use Rattle.multistate_rle.specs.Tokens.{tokens_from}
use Rattle.multistate_rle.specs.Writing.{body, head_lines}

-- the text that is written of cells, sorted and nonzero, at a generation, but for the rule's name in its header
unfoldable pub text_named : List ℕ → GenerationsRule → ℕ → List Cell → List ℕ
text_named name r g cells = head_lines name g (bounds_of cells) ++ body (r.states == 2) (tokens_from 0 0 (in_box (bounds_of cells) cells))

-- ---- a name for another

-- the letter with which the header says `rule`, and which does not stand before
abbrev pub is_rule_letter : ℕ → Bool
is_rule_letter byte = byte == 114

-- where the name of the rule stands in a written text
abbrev pub name_place : List ℕ → ℕ
name_place text = position_or_len is_rule_letter text + 7

-- the text with another name, in the place of one of so many bytes
abbrev pub renamed : ℕ → List ℕ → List ℕ → List ℕ
renamed count name text = take (name_place text) text ++ name ++ drop (name_place text + count) text
