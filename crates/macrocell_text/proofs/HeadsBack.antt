-- The first lines of a macrocell are read back: the rule and the generation.
use Rattle.std.proofs.Common.{◌≡◌, ℕ, ◌+◌, ◌-◌, ◌<◌, ◌≤◌, ◌^◌, Bool, true, false, List, [], ◌∷◌, ◌++◌, refl, sym, ◌∙◌, ap, arith, length, append_assoc}
use Rattle.std.specs.Prelude.{Some, None, ◌==◌, codes, decimal, if◌then◌else◌, unwrap_or}
use Rattle.std.specs.List.{list_all}
use Rattle.std.specs.Option.{option_or}
use Rattle.std.proofs.lemmas.Bool.{and_parts, eqb-true}
use Rattle.text_scan.specs.Bytes.{is_space_or_tab, past_prefix}
use Rattle.multistate_rle.specs.HeaderLine.{text_lines}
use Rattle.multistate_rle.proofs.HeadLaws.{digits_pass, number_back, printed}
use Rattle.generations_rule.specs.Rule.{GenerationsRule}
use Rattle.macrocell_lines.specs.Macrocell.{generation_text, rule_name}
use Rattle.macrocell_text.specs.Heads.{generation_in_line, rule_at, rule_in_line}
use Rattle.macrocell_text.specs.Texts.{Reading, nothing_told, with_comment, with_lines}
use Rattle.macrocell_text.specs.WrittenTexts.{written_place}
use Rattle.macrocell_text.proofs.LineKinds.{is_in_line, is_in_word, is_not, line_parted, next_told, whole_word}
use Rattle.macrocell_text.proofs.RuleNames.{digit_in_line, digit_in_word, name_in_line, name_in_word, some_name}

-- ---- the line of the rule

-- the blank in front of a word
no_blank_front : (word : List ℕ) → list_all is_in_word word ≡ true → past_prefix is_space_or_tab (32 ∷ word) ≡ word
no_blank_front [] all = refl
no_blank_front (c ∷ word) all = rw (is_not (is_space_or_tab c) (and_parts (is_in_word c) _ all).0) refl

rule_told : (place : ℕ) (word : List ℕ) → 0 < length word → rule_at place word ≡ Some (record { place = place; length = length word })
rule_told place [] some = absurd (omega (arith, some))
rule_told place (c ∷ word) some = refl

rule_in : (word : List ℕ) → list_all is_in_word word ≡ true → 0 < length word → rule_in_line 15 (codes "#R " ++ word) ≡ Some (record { place = 18; length = length word })
rule_in word all some =
    let place : 15 + (length (codes "#R " ++ word) - length word) ≡ 18 = omega arith in
    rw (no_blank_front word all, whole_word word all, place) (rule_told 18 word some)

-- ---- the line of the generation

generation_in : (g : ℕ) → g < 2 ^ 64 → generation_in_line (codes "#G " ++ decimal g) ≡ Some g
generation_in g small =
    let is = printed g small in
    let all = digits_pass is_in_word digit_in_word (decimal g) is.digits in
    rw (no_blank_front (decimal g) all, whole_word (decimal g) all) (number_back 18446744073709551615 g (decimal g) is (omega (arith, small)))

-- ---- both

-- the lines of the head tell the rule's place and the generation
pub record IsHeadRead (r : GenerationsRule) (g : ℕ) (rest : List ℕ) : Type 0 where
  pub after : Reading
  pub read : with_lines (nothing_told (codes "[M2] (pazgrot)")) (text_lines (codes "#R " ++ (rule_name r ++ 10 ∷ (generation_text g ++ rest)))) ≡ with_lines after (text_lines rest)
  pub rule : after.rule ≡ Some (written_place r)
  pub generation : after.generation ≡ g
  pub leaves : after.leaves ≡ None
  pub squares : after.squares ≡ []

-- the line of a generation behind other lines, unless it is 0
record IsGenerationRead (g : ℕ) (r : Reading) (text rest : List ℕ) : Type 0 where
  after : Reading
  read : with_lines r (text_lines (text ++ rest)) ≡ with_lines after (text_lines rest)
  rule : after.rule ≡ r.rule
  generation : after.generation ≡ g
  leaves : after.leaves ≡ r.leaves
  squares : after.squares ≡ r.squares

generation_read : (g : ℕ) (r : Reading) (rest : List ℕ) → g < 2 ^ 64 → r.generation ≡ 0 → (none : Bool) → (g == 0) ≡ none → IsGenerationRead g r (if none then [] else codes "#G " ++ decimal g ++ codes "\n") rest
generation_read g r rest small is true e = record { after = r; read = refl; rule = refl; generation = is ∙ sym (eqb-true g 0 e); leaves = refl; squares = refl }
generation_read g r rest small is false e =
    let line : List ℕ = codes "#G " ++ decimal g in
    let whole : list_all is_in_line line ≡ true = digits_pass is_in_line digit_in_line (decimal g) (printed g small).digits in
    let told : Reading = with_comment r line in
    record {
      after = record told { start = told.start + (length line + 1) };
      read = ap (λ t. with_lines r (text_lines (codes "#G " ++ t))) (append_assoc (decimal g) (codes "\n") rest) ∙ ap (λ ls. with_lines r ls) (line_parted line rest whole) ∙ next_told r told line (text_lines rest) refl;
      rule = refl;
      generation = ap (λ o. unwrap_or o r.generation) (generation_in g small);
      leaves = refl;
      squares = refl;
    }

pub head_read : (r : GenerationsRule) (g : ℕ) (rest : List ℕ) → r.states ≤ 256 → g < 2 ^ 64 → IsHeadRead r g rest
head_read r g rest few small =
    let line : List ℕ = codes "#R " ++ rule_name r in
    let nothing : Reading = nothing_told (codes "[M2] (pazgrot)") in
    let told : Reading = with_comment nothing line in
    let behind : Reading = record told { start = told.start + (length line + 1) } in
    let next = generation_read g behind rest small refl (g == 0) refl in
    record {
      after = next.after;
      read = ap (λ ls. with_lines nothing ls) (line_parted line (generation_text g ++ rest) (name_in_line r few)) ∙ next_told nothing told line (text_lines (generation_text g ++ rest)) refl ∙ next.read;
      rule = next.rule ∙ ap (λ o. option_or o None) (rule_in (rule_name r) (name_in_word r few) (some_name r));
      generation = next.generation;
      leaves = next.leaves;
      squares = next.squares;
    }
