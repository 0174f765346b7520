-- A script's lines by their numbers.
use Rattle.std.proofs.Common.{◌≡◌, ◌∙◌, ◌+◌, ◌<◌, ◌≤◌, ◌⊎◌, ℕ, List, [], ◌∷◌, ap, refl, sym, subst, inl, inr, arith, get_or, length}
use Rattle.std.specs.Prelude.{◌==◌, suc, false, true}
use Rattle.std.specs.Str.Lines.{lines}
use Rattle.std.proofs.lemmas.Bool.{eq-eqb, le-leb, lt-leb, ne_eqb}
use Rattle.genedit_script.specs.Script.{NumberedLine, lines_from, numbered_lines}
use Rattle.script_check.specs.Block.{lines_behind}
use Rattle.script_check.specs.Shown.{IsLeftOf, line_text, text_numbered}

-- a line with another number is passed, one with this number is found
passes : (number : ℕ) (line : NumberedLine) (behind : List NumberedLine) → (line.number == number) ≡ false → text_numbered number (line ∷ behind) ≡ text_numbered number behind
passes number line behind other = rw other refl

finds : (number : ℕ) (line : NumberedLine) (behind : List NumberedLine) → (line.number == number) ≡ true → text_numbered number (line ∷ behind) ≡ line.text
finds number line behind same = rw same refl

-- no line before the first is numbered
before_all : (number n : ℕ) (texts : List (List ℕ)) → number < n → text_numbered number (numbered_lines n texts) ≡ []
before_all number n [] less = refl
before_all number n (text ∷ texts) less =
    passes number (record { number = n; text = text }) (numbered_lines (n + 1) texts) (ne_eqb n number (omega (arith, less)))
    ∙ before_all number (n + 1) texts (omega (arith, less))

first_number : (n : ℕ) (texts : List (List ℕ)) (line : NumberedLine) (behind : List NumberedLine) → numbered_lines n texts ≡ line ∷ behind → line.number ≡ n
first_number n [] line behind is = absurd (cc)
first_number n (text ∷ texts) line behind is = sym (ap (λ (all : List NumberedLine). (get_or all 0 line).number) is)

as_many : (n : ℕ) (texts : List (List ℕ)) → length (numbered_lines n texts) ≡ length texts
as_many n [] = refl
as_many n (text ∷ texts) = ap suc (as_many (n + 1) texts)

no_line_0 : (script : List ℕ) (number : ℕ) → number ≡ 0 → [] ≡ line_text script number
no_line_0 script number is = subst (λ (n : ℕ). [] ≡ line_text script n) (sym is) (sym (before_all 0 1 (lines script) (omega arith)))

-- lines that are left have begun at a number, or at the first line, before which there is none
abbrev pub HasBegun : ℕ → ℕ → Type 0
HasBegun number from = (from ≤ number) ⊎ ((from ≡ 1) × (number ≡ 0))

module _ (rest : List ℕ) (from : ℕ) (line : NumberedLine) (next : ℕ) (behind : List ℕ) (is : lines_from from rest ≡ line ∷ lines_from next behind) where
  pub counted : line.number ≡ from
  counted = first_number from (lines rest) line (lines_from next behind) is

  pub further : next + length (lines behind) ≡ from + length (lines rest) → next ≡ from + 1
  further all =
      let size : length (lines rest) ≡ suc (length (numbered_lines next (lines behind))) = sym (as_many from (lines rest)) ∙ ap length is in
      let more = as_many next (lines behind) in
      omega (arith, size, more, all)

  module _ (script : List ℕ) (left : IsLeftOf script from rest) where
    -- the lines behind the first are left too
    pub still_left : next ≡ from + 1 → IsLeftOf script next behind
    still_left f number at_least =
        sym (passes number line (lines_from next behind) (ne_eqb line.number number (let c = counted in omega (arith, c, f, at_least))))
        ∙ sym (ap (text_numbered number) is)
        ∙ left number (omega (arith, f, at_least))

    -- the first is the one
    pub is_first : (number : ℕ) → line.number ≡ number → line.text ≡ line_text script number
    is_first number there =
        sym (finds number line (lines_from next behind) (eq-eqb line.number number there))
        ∙ sym (ap (text_numbered number) is)
        ∙ left number (let c = counted in omega (arith, c, there))

  -- or there is none
  pub is_none : (script : List ℕ) (number : ℕ) → HasBegun number from → number ≤ from → (line.number ≡ number → ⊥) → [] ≡ line_text script number
  is_none script number (inl at_least) at_most other = absurd (other (let c = counted in omega (arith, c, at_least, at_most)))
  is_none script number (inr first) at_most other = no_line_0 script number first.1

-- no line is left
pub none_left : (script rest : List ℕ) (from number : ℕ) → IsLeftOf script from rest → lines_from from rest ≡ [] → HasBegun number from → [] ≡ line_text script number
none_left script rest from number left is (inl at_least) = sym (ap (text_numbered number) is) ∙ left number at_least
none_left script rest from number left is (inr first) = no_line_0 script number first.1

-- ---- the lines behind one

pub behind_goes_on : (number : ℕ) (line : NumberedLine) (lines : List NumberedLine) → line.number ≤ number → lines_behind number (line ∷ lines) ≡ lines_behind number lines
behind_goes_on number line lines at_most = rw (le-leb line.number number at_most) refl

pub all_behind : (number n : ℕ) (texts : List (List ℕ)) → number < n → lines_behind number (numbered_lines n texts) ≡ numbered_lines n texts
all_behind number n [] less = refl
all_behind number n (text ∷ texts) less = rw (lt-leb n number less) refl

-- a line further, where the next is not behind it
pub one_passed : (number from next : ℕ) (rest behind : List ℕ) (line : NumberedLine) (first : List NumberedLine) → lines_from from rest ≡ line ∷ lines_from next behind → from ≤ number
    → lines_behind number (lines_from from rest) ≡ lines_behind number first → lines_behind number (lines_from next behind) ≡ lines_behind number first
one_passed number from next rest behind line first is at_most so_far =
    sym (behind_goes_on number line (lines_from next behind) (subst (λ (k : ℕ). k ≤ number) (sym (counted rest from line next behind is)) at_most))
    ∙ sym (ap (lines_behind number) is)
    ∙ so_far
