-- What sorted cells tell, without those in front that stand before a place.
use Rattle.std.proofs.Common.{◌≡◌, inl, inr, true, false, List, [], ◌∷◌, refl, sym, ◌∙◌, ap, one-add}
use Rattle.std.specs.Prelude.{None, unwrap_or}
use Rattle.std.proofs.lemmas.Bool.{and_parts, cases_Bool, false≢true}
use Rattle.generations_rule.specs.Place.{Place, is_before, is_place}
use Rattle.pattern_cells.specs.declared.cell.Cell.{Cell}
use Rattle.pattern_cells.specs.Cells.{place_of, is_sorted}
use Rattle.edit_stamps.specs.Edit.{listed}
use Rattle.edit_stamps.proofs.PlaceOrder.{Before, Same, Behind, compared, before_is_other, before_trans, one_place, not_before_itself}
use Rattle.edit_stamps.proofs.SortedCells.{sorted_tail, listed_there}
use Rattle.cell_pictures.specs.Shown.{state_at}
use Rattle.cell_pictures.specs.Reader.{first_state, from_place}

pub from_sorted : (p : Place) (cells : List Cell) → is_sorted cells ≡ true → is_sorted (from_place p cells) ≡ true
from_sorted p [] sorted = refl
from_sorted p (a ∷ cells) sorted = elim (cases_Bool (is_before (place_of a) p)) [
  | inl passed ↦ rw (passed, one-add) ((from_sorted p cells (sorted_tail a cells sorted)))
  | inr stays ↦ rw stays sorted
]

-- a cell before a place stands at none that is not before it
other : (a p c : Place) → is_before a p ≡ true → is_before c p ≡ false → is_place a c ≡ false
other a p c before behind = elim (cases_Bool (is_place a c)) [
  | inl same ↦ absurd (false≢true (sym behind ∙ ap (λ d. is_before d p) (sym (one_place a c same)) ∙ before))
  | inr different ↦ different
]

from_tells : (p : Place) (cells : List Cell) (c : Place) → is_before c p ≡ false → listed (from_place p cells) c ≡ listed cells c
from_tells p [] c behind = refl
from_tells p (a ∷ cells) c behind = elim (cases_Bool (is_before (place_of a) p)) [
  | inl passed ↦ rw (passed, one-add) ((from_tells p cells c behind ∙ sym (listed_there a cells c (other (place_of a) p c passed behind))))
  | inr stays ↦ rw stays refl
]

-- at a place and behind it, those from the place on tell what all do
pub from_states : (p : Place) (cells : List Cell) (c : Place) → is_before c p ≡ false → state_at (from_place p cells) c ≡ state_at cells c
from_states p cells c behind = ap (λ o. unwrap_or o 0) (from_tells p cells c behind)

-- behind a cell that stands behind a place none stands there
none_behind : (p : Place) (a : Cell) (cells : List Cell) → is_sorted (a ∷ cells) ≡ true → is_before p (place_of a) ≡ true → listed cells p ≡ None
none_behind p a [] sorted before = refl
none_behind p a (b ∷ cells) sorted before =
    let parts = and_parts (is_before (place_of a) (place_of b)) (is_sorted (b ∷ cells)) sorted in
    let later = before_trans p (place_of a) (place_of b) before parts.0 in
    listed_there b cells p (before_is_other p (place_of b) later) ∙ none_behind p b cells parts.1 later

-- the first cell of those from a place on stands not before it
pub first_is : (p : Place) (cells : List Cell) → is_sorted cells ≡ true → first_state p (from_place p cells) ≡ state_at cells p
first_is p [] sorted = refl
first_is p (a ∷ cells) sorted = elim (compared (place_of a) p) [
  | Before before ↦
      rw (before, one-add) ((first_is p cells (sorted_tail a cells sorted)
      ∙ ap (λ o. unwrap_or o 0) (sym (listed_there a cells p (other (place_of a) p p before (not_before_itself p))))))
  | Same stays same ↦ rw (stays, same) refl
  | Behind stays different behind ↦
      let none : listed cells p ≡ None = none_behind p a cells sorted behind in
      rw (stays, different, none) refl
]
