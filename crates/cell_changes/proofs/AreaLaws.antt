-- The areas of edits.
use Rattle.std.proofs.Common.{◌≡◌, true, false, List, [], ◌∷◌, inl, inr, refl, sym, ap, ◌∙◌}
use Rattle.std.specs.Prelude.{Contains, Option, None, Some, filter_map}
use Rattle.std.proofs.lemmas.Bool.{cases_Bool}
use Rattle.generations_rule.specs.Place.{Place}
use Rattle.edit_stamps.specs.declared.rect.Rect.{Rect}
use Rattle.edit_stamps.specs.Edit.{PlaneEdit, is_covered}
use Rattle.edit_stamps.specs.Plane.{is_in}
use Rattle.stamped_tree.specs.Sought.{is_in_some}
use Rattle.cell_changes.proofs.Lists.{contains_none, contains_cases}

pub some_area : (edits : List PlaneEdit) (e : PlaneEdit) (c : Place) → Contains edits e → is_covered e.area c ≡ true → is_in_some (filter_map (λ e. e.area) edits) c ≡ true
some_area [] e c h k = absurd (contains_none e h)
some_area (d ∷ edits) e c h k = elim (contains_cases d e edits h) [
  | inl is ↦ first d.area refl (ap (λ (z : PlaneEdit). is_covered z.area c) (sym is) ∙ k)
  | inr below ↦ others d.area refl (some_area edits e c below k)
]
  where
    first : (o : Option Rect) → d.area ≡ o → is_covered d.area c ≡ true → is_in_some (filter_map (λ e. e.area) (d ∷ edits)) c ≡ true
    first None l t = absurd (not_covered (rw l at t))
      where
        not_covered : false ≡ true → ⊥
        not_covered z = cc
    first (Some area) l t = rw (l, rw l at t) refl

    others : (o : Option Rect) → d.area ≡ o → is_in_some (filter_map (λ e. e.area) edits) c ≡ true → is_in_some (filter_map (λ e. e.area) (d ∷ edits)) c ≡ true
    others None l t = rw l t
    others (Some area) l t = elim (cases_Bool (is_in area c)) [ inl here ↦ rw (l, here) refl | inr there ↦ rw (l, there) t ]
