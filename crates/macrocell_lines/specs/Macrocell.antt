-- The one macrocell of a map and a generation.
use Rattle.std.specs.Prelude.{◌≡◌, ℕ, Bool, List, [], ◌++◌, ◌==◌, codes, decimal, flat_map, if◌then◌else◌}
use Rattle.generations_rule.specs.Place.{Place}
use Rattle.generations_rule.specs.Rule.{GenerationsRule}
use Rattle.generations_rule.specs.RuleText.{text_of, text_of_set}
use Rattle.macrocell_lines.specs.Squares.{StateSquare}
use Rattle.macrocell_lines.specs.Lines.{line_text, lines_of}
use Rattle.macrocell_lines.specs.Roots.{IsRootLevel, root_of}

-- A rule of two states is spelled `B3/S23`, by which Golly knows one of Life's kind; any other `S/B/C`.
abbrev pub rule_name : GenerationsRule → List ℕ
rule_name r = if r.states == 2 then codes "B" ++ text_of_set r.birth ++ codes "/S" ++ text_of_set r.survival else text_of r

-- the line of the generation, unless it is 0
abbrev pub generation_text : ℕ → List ℕ
generation_text g = if g == 0 then [] else codes "#G " ++ decimal g ++ codes "\n"

-- the first line, and those of the rule and the generation
unfoldable pub head_text : GenerationsRule → ℕ → List ℕ
head_text r g = codes "[M2] (pazgrot)\n#R " ++ rule_name r ++ codes "\n" ++ generation_text g

-- the text of a square: the head, and a line for each distinct square that it is made of
abbrev pub macrocell_text : GenerationsRule → ℕ → StateSquare → List ℕ
macrocell_text r g q = head_text r g ++ flat_map line_text (lines_of (r.states == 2) q)

-- the least level of a root: of two states it has four squares that are told by their states
abbrev pub least_level : Bool → ℕ
least_level of_two = if of_two then 4 else 1

-- the macrocell of a rule, a generation and a map of states
pub record IsMacrocell (r : GenerationsRule) (g : ℕ) (f : Place → ℕ) (text : List ℕ) : Type 0 where
  pub level : ℕ
  pub root : IsRootLevel (least_level (r.states == 2)) f level
  pub is : text ≡ macrocell_text r g (root_of f level)

-- a rule, a generation and a map of states have one macrocell
abbrev pub HasOneMacrocell : Type 0
HasOneMacrocell = (r : GenerationsRule) (g : ℕ) (f : Place → ℕ) (a b : List ℕ) → IsMacrocell r g f a → IsMacrocell r g f b → a ≡ b
