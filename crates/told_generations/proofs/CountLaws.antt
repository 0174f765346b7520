-- Counts that are printed one after another.
use Rattle.std.proofs.Common.{◌≡◌, ℕ, ◌+◌, ◌≤◌, List, [], ◌∷◌, ◌++◌, map, sym, ◌∙◌, ap, subst, append_assoc, arith}
use Rattle.std.specs.List.{range_with_len}
use Rattle.std.proofs.lemmas.List.{append-nil}
use Rattle.std.proofs.lemmas.List.FromFn.{map-range_with_len_more}
use mathlib.Core.List.{IsPrefix}
use Rattle.generations_rule.specs.Place.{Place}
use Rattle.generations_rule.specs.Rule.{GenerationsRule}
use Rattle.command_words.specs.declared.ranges.GenerationRange.{GenerationRange}
use Rattle.command_words.specs.Ranges.{generation_at, last_of, steps_of}
use Rattle.export.specs.declared.asking.Count.{Count}
use Rattle.export.specs.Asking.{CountsAt}
use Rattle.export.specs.Export.{last_generation}
use Rattle.told_generations.specs.Counts.{AreCountLines, PrintsCount, PrintsEachCount, counted_line}
use Rattle.told_generations.specs.Counts.AreCountLines.{none, more}

-- the first so many generations of a range
abbrev pub first_of : GenerationRange → ℕ → List ℕ
first_of range n = map (generation_at range) (range_with_len 0 n)

-- what is put behind a text part by part
pub four_parts : (old a b c d : List ℕ) → (((old ++ a) ++ b) ++ c) ++ d ≡ old ++ (((a ++ b) ++ c) ++ d)
four_parts old a b c d = simp append_assoc

module _ (r : GenerationsRule) (f : Place → ℕ) where
  -- a line more
  one_more : {gs text : List ℕ} (g : ℕ) (count : Count) → AreCountLines r f gs text → CountsAt r f g count → AreCountLines r f (gs ++ g ∷ []) (text ++ counted_line g count)
  one_more g count none counts = subst (λ (text : List ℕ). AreCountLines r f (g ∷ []) text) (append-nil (counted_line g count)) (more count counts none)
  one_more g count (more {g = h} {gs = gs} {text = text} first is rest) counts =
      subst (λ (all : List ℕ). AreCountLines r f (h ∷ (gs ++ g ∷ [])) all) (sym (append_assoc (counted_line h first) text (counted_line g count)))
      (more first is (one_more g count rest counts))

  -- lines of the first so many are printed
  pub record PrintsFirst (range : GenerationRange) (n : ℕ) (out out' : List ℕ) : Type 0 where
    pub text : List ℕ
    pub lines : AreCountLines r f (first_of range n) text
    pub printed : out' ≡ out ++ text

  pub first_none : (range : GenerationRange) (out : List ℕ) → PrintsFirst range 0 out out
  first_none range out = record { text = []; lines = none; printed = sym (append-nil out) }

  pub first_more : (range : GenerationRange) (n : ℕ) (out mid out' : List ℕ) → PrintsFirst range n out mid → PrintsCount r f (generation_at range n) mid out' → PrintsFirst range (n + 1) out out'
  first_more range n out mid out' before line =
      let told = counted_line (generation_at range n) line.count in
      record {
        text = before.text ++ told;
        lines = subst (λ (gs : List ℕ). AreCountLines r f gs (before.text ++ told)) (sym (map-range_with_len_more (generation_at range) 0 n n (omega arith))) (one_more (generation_at range n) line.count before.lines line.counts);
        printed = line.printed ∙ ap (λ (text : List ℕ). text ++ told) before.printed ∙ append_assoc out before.text told;
      }

  pub first_part : (range : GenerationRange) (n : ℕ) (out mid out' : List ℕ) → PrintsFirst range n out mid → IsPrefix mid out' → IsPrefix out out'
  first_part range n out mid out' before part =
      (before.text ++ part.0, sym (append_assoc out before.text part.0) ∙ ap (λ (text : List ℕ). text ++ part.0) (sym before.printed) ∙ part.1)

  pub first_all : (range : GenerationRange) (out out' : List ℕ) → last_of range ≤ last_generation → PrintsFirst range (steps_of range + 1) out out' → PrintsEachCount r f range out out'
  first_all range out out' within all = record { within = within; text = all.text; lines = all.lines; printed = all.printed }
