-- Sets that agree: no edit is taken as another replica's.
use Rattle.std.proofs.Common.{◌≡◌, ◌∙◌, ℕ, Bool, true, false, List, [], ◌∷◌, Option, Some, None, not, if◌then◌else◌, refl, ap}
use Rattle.std.specs.Prelude.{Contains}
use Rattle.std.specs.Option.{option_map_or}
use Rattle.edit_stamps.specs.Edit.{PlaneEdit, is_edit}
use Rattle.edit_stamps.specs.Stamp.{counter_in, stamp_of}
use Rattle.documents.specs.Renumber.{is_another, renumbered, renumbered_by}
use Rattle.documents.specs.Sets.{Agree, IsAscending, edit_at}
use Rattle.documents.proofs.SetLaws.{has_behind, has_first, held_is_read}
use Rattle.documents.proofs.Walks.{two_edits}

is_same : (f e : PlaneEdit) → f ≡ e → is_edit f e ≡ true
is_same f e same = go (is_edit f e) refl
  where
    go : (b : Bool) → is_edit f e ≡ b → is_edit f e ≡ true
    go true is = is
    go false is = absurd (two_edits f e is same)

not_another : (a : List PlaneEdit) (e : PlaneEdit) → ((f : PlaneEdit) → edit_at a e.stamp ≡ Some f → f ≡ e) → is_another a e ≡ false
not_another a e same = go (edit_at a e.stamp) same
  where
    go : (o : Option PlaneEdit) → ((f : PlaneEdit) → o ≡ Some f → f ≡ e) → option_map_or (λ f. not (is_edit f e)) o false ≡ false
    go None h = refl
    go (Some f) h = ap not (is_same f e (h f refl))

kept : (number : ℕ) (a : List PlaneEdit) (e : PlaneEdit) → is_another a e ≡ false → renumbered_by number a e ≡ e
kept number a e none = ap (λ (b : Bool). if b then record e { stamp = stamp_of (counter_in e.stamp) number } else e) none

all_kept : (number : ℕ) (a edits : List PlaneEdit) → ((e : PlaneEdit) → Contains edits e → (f : PlaneEdit) → edit_at a e.stamp ≡ Some f → f ≡ e) → renumbered number a edits ≡ edits
all_kept number a [] same = refl
all_kept number a (e ∷ edits) same =
    ap (λ (x : PlaneEdit). x ∷ renumbered number a edits) (kept number a e (not_another a e (same e (has_first e edits))))
    ∙ ap (λ (xs : List PlaneEdit). e ∷ xs) (all_kept number a edits (λ g has. same g (has_behind e edits g has)))

pub renumbers_none : (number : ℕ) (a b : List PlaneEdit) → IsAscending b → Agree a b → renumbered number a b ≡ b
renumbers_none number a b ascending agree = all_kept number a b (λ e has f in_a. agree e.stamp f e in_a (held_is_read b e ascending has))
