-- What is written of a rule, a generation and a map is read as these.
use Rattle.std.specs.Prelude.{◌≡◌, ℕ, ◌^◌, ◌≤◌, ◌<◌, ◌==◌, List, codes, length, take, drop, Some, option_map, Ok}
use Rattle.generations_rule.specs.Place.{Place}
use Rattle.generations_rule.specs.Rule.{GenerationsRule, IsRule}
use Rattle.generation_engine.specs.Universe.{EngineValue, IsEngine, states_of}
use Rattle.macrocell_lines.specs.Lines.{lines_of}
use Rattle.macrocell_lines.specs.Macrocell.{IsMacrocell, rule_name}
use Rattle.macrocell_lines.specs.Roots.{root_of}
use Rattle.macrocell_text.specs.declared.head.RulePlace.{RulePlace}
use Rattle.macrocell_text.specs.Macrocells.{MacrocellTold}
use Rattle.macrocell_text.specs.Maps.{map_of_squares}
use Rattle.macrocell_text.specs.Texts.{macrocell_read}

-- What can be told of a rule, a generation and a map whose root has a level: the rule has at most 256 states and the map those alone,
-- the generation has 64 bits, a root has at most level 63, and the number of a line has 32 bits.
pub record IsTellable (r : GenerationsRule) (g : ℕ) (f : Place → ℕ) (level : ℕ) : Type 0 where
  pub few_states : r.states ≤ 256
  pub states : (c : Place) → f c < r.states
  pub generation : g < 2 ^ 64
  pub low : level ≤ 63
  pub few_lines : length (lines_of (r.states == 2) (root_of f level)) < 2 ^ 32

-- the bytes of a rule's text at its place
abbrev pub text_at : List ℕ → RulePlace → List ℕ
text_at text p = take p.length (drop p.place text)

-- where the writer tells a rule: behind the first line and `#R `
abbrev pub written_place : GenerationsRule → RulePlace
written_place r = record { place = length (codes "[M2] (pazgrot)\n#R "); length = length (rule_name r) }

-- what a text tells is a rule's name, a generation and a map
pub record IsTold (text : List ℕ) (r : GenerationsRule) (g : ℕ) (f : Place → ℕ) (told : MacrocellTold) : Type 0 where
  pub place : told.rule ≡ Some (written_place r)
  pub rule : option_map (text_at text) told.rule ≡ Some (rule_name r)
  pub generation : told.generation ≡ g
  pub map : (c : Place) → map_of_squares told.squares c ≡ f c

pub record IsReadBack (text : List ℕ) (r : GenerationsRule) (g : ℕ) (f : Place → ℕ) : Type 0 where
  pub told : MacrocellTold
  pub read : macrocell_read text ≡ Ok told
  pub is : IsTold text r g f told

-- the macrocell of a rule, a generation and a map is read as these
abbrev pub ReadsMacrocellBack : Type 0
ReadsMacrocellBack = (r : GenerationsRule) (g : ℕ) (f : Place → ℕ) (text : List ℕ) → (is : IsMacrocell r g f text) → IsTellable r g f is.level → IsReadBack text r g f

-- what is written of a universe under its rule is read as its map, where its lines are fewer than 2^32: the rest of what can be told is so of every universe
abbrev pub ReadsUniverseBack : Type 0
ReadsUniverseBack = (e : EngineValue) (g : ℕ) (text : List ℕ) → IsEngine e → IsRule e.rule → g < 2 ^ 64 → (is : IsMacrocell e.rule g (states_of e) text) →
    length (lines_of (e.rule.states == 2) (root_of (states_of e) is.level)) < 2 ^ 32 → IsReadBack text e.rule g (states_of e)

-- one text is the macrocell of one rule's name, one generation and one map
abbrev pub HasOneMap : Type 0
HasOneMap = (r s : GenerationsRule) (g h : ℕ) (e f : Place → ℕ) (text : List ℕ) →
    (a : IsMacrocell r g e text) → IsTellable r g e a.level → (b : IsMacrocell s h f text) → IsTellable s h f b.level →
    (rule_name r ≡ rule_name s) × ((g ≡ h) × ((c : Place) → e c ≡ f c))

-- rules of one name are one
abbrev pub HasOneRule : Type 0
HasOneRule = (r s : GenerationsRule) → IsRule r → IsRule s → rule_name r ≡ rule_name s → r ≡ s
