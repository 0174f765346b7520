-- Whether an edit is in a set, by the place of its stamp.
use Rattle.std.proofs.Common.{◌≡◌, inl, inr, ℕ, false, List, sym, subst, ◌∙◌}
use Rattle.std.specs.Prelude.{Some, None, Contains, slice_index_or}
use Rattle.std.proofs.lemmas.Bool.{cases_Bool}
use Rattle.edit_stamps.specs.Edit.{PlaneEdit, is_edit}
use Rattle.documents.specs.Documents.{has_edit}
use Rattle.documents.specs.Results.{IsAt, IsPlaceFor}
use Rattle.documents.specs.Sets.{IsAscending, edit_at}
use Rattle.documents.proofs.Counts.{has_is_held, held_is_had}
use Rattle.documents.proofs.Places.{found_at, none_at_place}
use Rattle.documents.proofs.SetLaws.{held_is_read, read_is_held}
use Rattle.documents.proofs.Walks.{one_edit, two_edits}

-- the edit that stands at the place of a stamp is this one, or it is not in the set
pub has_where : (xs : List PlaneEdit) (e y : PlaneEdit) (place : ℕ) → IsAscending xs → IsAt xs e.stamp place → y ≡ slice_index_or xs place y → is_edit y e ≡ has_edit xs e
has_where xs e y place up is at =
    let read : edit_at xs e.stamp ≡ Some y = found_at xs e.stamp place y up is at in
    elim (cases_Bool (is_edit y e)) [
      | inl same ↦ same ∙ sym (held_is_had xs e (subst (λ (f : PlaneEdit). Contains xs f) (one_edit y e same) (read_is_held xs e.stamp y read)))
      | inr other ↦ elim (cases_Bool (has_edit xs e)) [
        | inl had ↦ (
            let here : edit_at xs e.stamp ≡ Some e = held_is_read xs e up (has_is_held xs e had) in
            let is : y ≡ e = cc in
            absurd (two_edits y e other is)
            )
        | inr none ↦ other ∙ sym none
      ]
    ]

-- where the stamp has no edit it is not in the set
pub has_nowhere : (xs : List PlaneEdit) (e : PlaneEdit) (place : ℕ) → IsAscending xs → IsPlaceFor xs e.stamp place → false ≡ has_edit xs e
has_nowhere xs e place up is = elim (cases_Bool (has_edit xs e)) [
  | inl had ↦ (
      let here : edit_at xs e.stamp ≡ Some e = held_is_read xs e up (has_is_held xs e had) in
      let none : edit_at xs e.stamp ≡ None = none_at_place xs e.stamp place is in
      absurd (cc)
      )
  | inr none ↦ sym none
]
