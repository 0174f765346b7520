-- The sets that the parts of a rule text name.
use Rattle.std.proofs.Common.{◌≡◌, ℕ, zero, suc, ◌+◌, ◌≤◌, Bool, true, false, List, [], ◌∷◌, ◌++◌, refl, sym, ◌∙◌, ap, arith, take, map, length, get_or, cond, ◌<◌}
use Rattle.std.specs.Prelude.{◌||◌, slice_set, filter}
use Rattle.std.proofs.lemmas.List.Folds.{list_any-append}
use Rattle.std.proofs.lemmas.List.{take_more, map-append}
use Rattle.std.proofs.lemmas.List.Elements.{filter_more}
use Rattle.generations_rule.specs.Rule.{has}
use Rattle.generations_rule.specs.RuleText.{set_of, text_of_set, glyph, counts}

or-false : (b : Bool) → (b || false) ≡ b
or-false true = refl
or-false false = refl

or-true : (b : Bool) → (b || true) ≡ true
or-true true = refl
or-true false = refl

-- one more digit, one more count
pub set_push : (part : List ℕ) (n : ℕ) → n ≤ 8 → set_of (part ++ glyph n ∷ []) ≡ slice_set (set_of part) n true
set_push part zero h = simp (list_any-append, or-false, or-true)
set_push part (suc zero) h = simp (list_any-append, or-false, or-true)
set_push part (suc (suc zero)) h = simp (list_any-append, or-false, or-true)
set_push part (suc (suc (suc zero))) h = simp (list_any-append, or-false, or-true)
set_push part (suc (suc (suc (suc zero)))) h = simp (list_any-append, or-false, or-true)
set_push part (suc (suc (suc (suc (suc zero))))) h = simp (list_any-append, or-false, or-true)
set_push part (suc (suc (suc (suc (suc (suc zero)))))) h = simp (list_any-append, or-false, or-true)
set_push part (suc (suc (suc (suc (suc (suc (suc zero))))))) h = simp (list_any-append, or-false, or-true)
set_push part (suc (suc (suc (suc (suc (suc (suc (suc zero)))))))) h = simp (list_any-append, or-false, or-true)
set_push part (suc (suc (suc (suc (suc (suc (suc (suc (suc n))))))))) h = absurd (omega arith)

-- the same, at a step of a loop over the digits
pub set_more : (part : List ℕ) (at n : ℕ) (set : List Bool) → at < length part → n ≤ 8 → get_or part at 0 ≡ glyph n →
    set ≡ set_of (take at part) → slice_set set n true ≡ set_of (take (at + 1) part)
set_more part at n set within small is so_far =
    ap (λ s. slice_set s n true) so_far ∙ sym (set_push (take at part) n small)
    ∙ ap set_of (sym (take_more part at 0 within ∙ ap (λ digit. take at part ++ digit ∷ []) is))

-- the counts stand in their order
count_at : (n : ℕ) → n < 9 → get_or counts n 0 ≡ n
count_at zero h = refl
count_at (suc zero) h = refl
count_at (suc (suc zero)) h = refl
count_at (suc (suc (suc zero))) h = refl
count_at (suc (suc (suc (suc zero)))) h = refl
count_at (suc (suc (suc (suc (suc zero))))) h = refl
count_at (suc (suc (suc (suc (suc (suc zero)))))) h = refl
count_at (suc (suc (suc (suc (suc (suc (suc zero))))))) h = refl
count_at (suc (suc (suc (suc (suc (suc (suc (suc zero)))))))) h = refl
count_at (suc (suc (suc (suc (suc (suc (suc (suc (suc n))))))))) h = absurd (omega arith)

-- the text of a set as far as a count
unfoldable pub text_below : List Bool → ℕ → List ℕ
text_below set n = map glyph (filter (has set) (take n counts))

pub text_more : (set : List Bool) (n : ℕ) → n < 9 → text_below set (n + 1) ≡ text_below set n ++ map glyph (cond (has set n) (n ∷ []) [])
unfolding text_below
text_more set n h =
    ap (map glyph) (filter_more (has set) counts n 0 h ∙ ap (λ m. filter (has set) (take n counts) ++ cond (has set m) (m ∷ []) []) (count_at n h))
    ∙ map-append glyph (filter (has set) (take n counts)) (cond (has set n) (n ∷ []) [])

pub text_none : (set : List Bool) → text_below set 0 ≡ []
unfolding text_below
text_none set = refl

pub text_whole : (set : List Bool) → text_of_set set ≡ text_below set 9
unfolding text_of_set text_below
text_whole set = refl
