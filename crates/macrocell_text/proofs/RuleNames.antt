-- The names of rules in macrocells: the bytes that they have, and that two rules have two.
use Rattle.std.proofs.Common.{◌≡◌, ℕ, ◌<◌, ◌≤◌, Bool, true, false, List, [], ◌∷◌, ◌++◌, refl, sym, ◌∙◌, ap, arith, length, drop, length-append, append_assoc}
use Rattle.std.specs.Prelude.{Result, Ok, ◌==◌, ◌||◌, nat_le, not, codes, decimal, filter, map, if◌then◌else◌}
use Rattle.std.specs.List.{after_first, before_first, list_all, list_any}
use Rattle.std.proofs.lemmas.Bool.{and_from, and_parts, eqb-true, ne_eqb}
use Rattle.std.proofs.lemmas.Bool.Decides.{nat_tests}
use Rattle.text_scan.specs.Bytes.{is_decimal_digit}
use Rattle.multistate_rle.proofs.HeadLaws.{both_pass, digit_is_no, digits_pass, printed}
use Rattle.generations_rule.specs.Rule.{GenerationsRule, IsRule, has}
use Rattle.generations_rule.specs.RuleText.{counts, glyph, is_slash, parsed, slash, text_of, text_of_set}
use Rattle.generations_rule.specs.declared.fault.RuleFault.{RuleFault}
use Rattle.generations_rule.proofs.PartLemmas.{before_slash, behind_slash}
use Rattle.generations_rule.proofs.TextLaws.{reads_back}
use Rattle.macrocell_lines.specs.Macrocell.{rule_name}
use Rattle.macrocell_text.specs.WrittenTexts.{HasOneRule}
use Rattle.macrocell_text.proofs.LineKinds.{is_in_line, is_in_word}

-- ---- bytes

glyphs_pass : (p : ℕ → Bool) → ((c : ℕ) → is_decimal_digit c ≡ true → p c ≡ true) → (test : ℕ → Bool) (ns : List ℕ) → list_all (λ n. is_decimal_digit (glyph n)) ns ≡ true → list_all p (map glyph (filter test ns)) ≡ true
glyphs_pass p each test [] all = refl
glyphs_pass p each test (n ∷ ns) all =
    let parts = and_parts (is_decimal_digit (glyph n)) _ all in
    by (test n) (each (glyph n) parts.0) (glyphs_pass p each test ns parts.1)
  where
    by : (b : Bool) → p (glyph n) ≡ true → list_all p (map glyph (filter test ns)) ≡ true → list_all p (map glyph (if b then n ∷ filter test ns else filter test ns)) ≡ true
    by true one rest = rw one rest
    by false one rest = rest

set_passes : (p : ℕ → Bool) → ((c : ℕ) → is_decimal_digit c ≡ true → p c ≡ true) → (set : List Bool) → list_all p (text_of_set set) ≡ true
unfolding text_of_set
set_passes p each set = glyphs_pass p each (has set) counts refl

-- the parts of a name
text_parts : (s b n : List ℕ) → s ++ slash ∷ [] ++ b ++ slash ∷ [] ++ n ≡ s ++ (47 ∷ (b ++ (47 ∷ n)))
text_parts s b n = simp append_assoc

life_parts : (b s : List ℕ) → codes "B" ++ b ++ codes "/S" ++ s ≡ 66 ∷ (b ++ (47 ∷ (83 ∷ s)))
life_parts b s = simp append_assoc

module _ (p : ℕ → Bool) (each : (c : ℕ) → is_decimal_digit c ≡ true → p c ≡ true) (slash : p 47 ≡ true) (r : GenerationsRule) (few : r.states ≤ 256) where
  -- of more than two states
  text_passes : list_all p (text_of r) ≡ true
  text_passes =
      ap (list_all p) (text_parts (text_of_set r.survival) (text_of_set r.birth) (decimal r.states))
      ∙ both_pass p (text_of_set r.survival) (47 ∷ (text_of_set r.birth ++ (47 ∷ decimal r.states))) (set_passes p each r.survival)
      (and_from _ _ slash (both_pass p (text_of_set r.birth) (47 ∷ decimal r.states) (set_passes p each r.birth) (and_from _ _ slash (digits_pass p each (decimal r.states) (printed r.states (omega (arith, few))).digits))))

  -- of two
  two_states_pass : p 66 ≡ true → p 83 ≡ true → list_all p (codes "B" ++ text_of_set r.birth ++ codes "/S" ++ text_of_set r.survival) ≡ true
  two_states_pass b s =
      ap (list_all p) (life_parts (text_of_set r.birth) (text_of_set r.survival))
      ∙ and_from _ _ b (both_pass p (text_of_set r.birth) (47 ∷ (83 ∷ text_of_set r.survival)) (set_passes p each r.birth) (and_from _ _ slash (and_from _ _ s (set_passes p each r.survival))))

  name_passes : p 66 ≡ true → p 83 ≡ true → list_all p (rule_name r) ≡ true
  name_passes b s = by (r.states == 2)
    where
      by : (two : Bool) → list_all p (if two then codes "B" ++ text_of_set r.birth ++ codes "/S" ++ text_of_set r.survival else text_of r) ≡ true
      by true = two_states_pass b s
      by false = text_passes

pub digit_in_line : (c : ℕ) → is_decimal_digit c ≡ true → is_in_line c ≡ true
digit_in_line c digit = rw (digit_is_no c digit 10 (omega arith), digit_is_no c digit 13 (omega arith)) refl

pub digit_in_word : (c : ℕ) → is_decimal_digit c ≡ true → is_in_word c ≡ true
digit_in_word c digit = rw (digit_is_no c digit 32 (omega arith), digit_is_no c digit 9 (omega arith)) refl

pub name_in_line : (r : GenerationsRule) → r.states ≤ 256 → list_all is_in_line (rule_name r) ≡ true
name_in_line r few = name_passes is_in_line digit_in_line refl r few refl refl

pub name_in_word : (r : GenerationsRule) → r.states ≤ 256 → list_all is_in_word (rule_name r) ≡ true
name_in_word r few = name_passes is_in_word digit_in_word refl r few refl refl

-- it has a byte at least
pub some_name : (r : GenerationsRule) → 0 < length (rule_name r)
some_name r = by (r.states == 2)
  where
    by : (two : Bool) → 0 < length (if two then codes "B" ++ text_of_set r.birth ++ codes "/S" ++ text_of_set r.survival else text_of r)
    by true = omega (arith, ap length (life_parts (text_of_set r.birth) (text_of_set r.survival)))
    by false = omega (arith, ap length (text_parts (text_of_set r.survival) (text_of_set r.birth) (decimal r.states)), length-append (text_of_set r.survival) (47 ∷ (text_of_set r.birth ++ 47 ∷ decimal r.states)))

-- ---- two rules have two names

ok_is : {r s : GenerationsRule} → (let z : Result GenerationsRule RuleFault = Ok r in z ≡ Ok s) → r ≡ s
ok_is z = cc

text_tells : (r s : GenerationsRule) → IsRule r → IsRule s → text_of r ≡ text_of s → r ≡ s
text_tells r s hr hs e = ok_is (sym (reads_back r hr) ∙ ap parsed e ∙ reads_back s hs)

no_slash : (xs : List ℕ) → list_all (λ c. not (is_slash c)) xs ≡ true → list_any is_slash xs ≡ false
no_slash [] all = refl
no_slash (c ∷ xs) all = by (is_slash c) (list_any is_slash xs) (no_slash xs (and_parts (not (is_slash c)) _ all).1) (and_parts (not (is_slash c)) _ all).0
  where
    by : (a b : Bool) → b ≡ false → not a ≡ true → (a || b) ≡ false
    by true b rest first = absurd (cc)
    by false b rest first = rest

set_no_slash : (set : List Bool) → list_any is_slash (text_of_set set) ≡ false
set_no_slash set = no_slash (text_of_set set) (set_passes (λ c. not (is_slash c)) (λ c digit. rw (digit_is_no c digit 47 (omega arith)) refl) set)

-- of two states
two_tell : (r s : GenerationsRule) → IsRule r → IsRule s → r.states ≡ 2 → s.states ≡ 2 →
    codes "B" ++ text_of_set r.birth ++ codes "/S" ++ text_of_set r.survival ≡ codes "B" ++ text_of_set s.birth ++ codes "/S" ++ text_of_set s.survival → r ≡ s
two_tell r s hr hs nr ns e =
    let parts : text_of_set r.birth ++ 47 ∷ (83 ∷ text_of_set r.survival) ≡ text_of_set s.birth ++ 47 ∷ (83 ∷ text_of_set s.survival) =
    ap (λ t. drop 1 t) (sym (life_parts (text_of_set r.birth) (text_of_set r.survival)) ∙ e ∙ life_parts (text_of_set s.birth) (text_of_set s.survival)) in
    let birth : text_of_set r.birth ≡ text_of_set s.birth =
    sym (before_slash (text_of_set r.birth) (83 ∷ text_of_set r.survival) (set_no_slash r.birth)) ∙ ap (before_first is_slash) parts ∙ before_slash (text_of_set s.birth) (83 ∷ text_of_set s.survival) (set_no_slash s.birth) in
    let behind : 83 ∷ text_of_set r.survival ≡ 83 ∷ text_of_set s.survival =
    sym (behind_slash (text_of_set r.birth) (83 ∷ text_of_set r.survival) (set_no_slash r.birth)) ∙ ap (after_first is_slash) parts ∙ behind_slash (text_of_set s.birth) (83 ∷ text_of_set s.survival) (set_no_slash s.birth) in
    let survival : text_of_set r.survival ≡ text_of_set s.survival = ap (λ t. drop 1 t) behind in
    let states : r.states ≡ s.states = nr ∙ sym ns in
    text_tells r s hr hs (λ i. survival i ++ slash ∷ [] ++ birth i ++ slash ∷ [] ++ decimal (states i))

-- a rule of more states has no `B` in its name
no_b : (c : ℕ) → is_decimal_digit c ≡ true → not (c == 66) ≡ true
no_b c digit =
    let parts = and_parts (nat_le 48 c) (nat_le c 57) digit in
    let high : c ≤ 57 = grind (arith, nat_tests, parts.1) in
    rw (ne_eqb c 66 (omega (arith, high))) refl

other_name : (r : GenerationsRule) (rest : List ℕ) → IsRule r → 66 ∷ rest ≡ text_of r → ⊥
other_name r rest hr e =
    let most = hr.most in
    let all : list_all (λ c. not (c == 66)) (66 ∷ rest) ≡ true = ap (list_all (λ c. not (c == 66))) e ∙ text_passes (λ c. not (c == 66)) no_b refl r most in
    cc

pub has_one_rule : HasOneRule
has_one_rule r s hr hs e = by (r.states == 2) (s.states == 2) refl refl e
  where
    by : (x y : Bool) → (r.states == 2) ≡ x → (s.states == 2) ≡ y →
        (if x then codes "B" ++ text_of_set r.birth ++ codes "/S" ++ text_of_set r.survival else text_of r) ≡ (if y then codes "B" ++ text_of_set s.birth ++ codes "/S" ++ text_of_set s.survival else text_of s) → r ≡ s
    by true true f g e = two_tell r s hr hs (eqb-true r.states 2 f) (eqb-true s.states 2 g) e
    by true false f g e = absurd (other_name s (text_of_set r.birth ++ (47 ∷ (83 ∷ text_of_set r.survival))) hs (sym (life_parts (text_of_set r.birth) (text_of_set r.survival)) ∙ e))
    by false true f g e = absurd (other_name r (text_of_set s.birth ++ (47 ∷ (83 ∷ text_of_set s.survival))) hr (sym (life_parts (text_of_set s.birth) (text_of_set s.survival)) ∙ sym e))
    by false false f g e = text_tells r s hr hs e
