-- Drawings that are dropped one after another, the oldest first.
use Rattle.std.proofs.Common.{◌≡◌, ℕ, ◌+◌, ◌<◌, ◌≤◌, List, [], ◌∷◌, ◌++◌, length, drop, sym, ap, subst, ◌∙◌, inl, inr, arith}
use Rattle.std.proofs.Math.Seq.{drop-append_seam}
use Rattle.std.proofs.lemmas.Bool.{cases_lt}
use Rattle.std.proofs.lemmas.List.{drop-append-le, drop-drop}
use Rattle.drawing_history.specs.declared.drawn.Drawn.{Drawn}
use Rattle.drawing_history.specs.Drawings.{IsLastOf, IsWithinLimits, KeepsNewest, cells_of, most_cells}

-- as many of the first are left out as had to be
pub record DropsOnly (all kept : List Drawn) : Type 0 where
  pub left_out : ℕ
  pub others : kept ≡ drop left_out all
  pub needed : (fewer : ℕ) → fewer < left_out → ¬ IsWithinLimits (drop fewer all)

-- one more had to be
pub first_dropped : (all kept new : List Drawn) → DropsOnly all kept → ¬ IsWithinLimits kept → new ≡ drop 1 kept → DropsOnly all new
first_dropped all kept new drops beyond is = record {
  left_out = drops.left_out + 1;
  others = is ∙ ap (drop 1) drops.others ∙ drop-drop 1 drops.left_out all;
  needed = λ fewer l within. elim (cases_lt fewer drops.left_out) [
    | inl before ↦ drops.needed fewer before within
    | inr behind ↦ (let here : fewer ≡ drops.left_out = omega (arith, l, behind) in beyond (subst IsWithinLimits (ap (λ n. drop n all) here ∙ sym drops.others) within))
  ];
}

-- a drawing alone is within the limits
alone : (last : Drawn) → cells_of last ≤ most_cells → IsWithinLimits (last ∷ [])
alone last few = record { count = omega arith; cells = omega (arith, few) }

-- so the last one is never dropped
pub keeps_last : (old new : List Drawn) (last : Drawn) → cells_of last ≤ most_cells → KeepsNewest (old ++ last ∷ []) new → IsLastOf new last
keeps_last old new last few keeps = elim (cases_lt (length old) keeps.left_out) [
  | inl more ↦ absurd (keeps.needed (length old) more (subst IsWithinLimits (sym (drop-append_seam old (last ∷ []))) (alone last few)))
  | inr enough ↦ (drop keeps.left_out old, keeps.others ∙ drop-append-le keeps.left_out old (last ∷ []) enough)
]
