-- What noting edits gives: which edits there are then, and that none is there twice.
use Rattle.std.proofs.Common.{◌≡◌, ◌∙◌, Bool, true, false, List, [], ◌∷◌, ◌++◌, inl, inr, refl, sym, ap, subst, append_assoc}
use Rattle.std.specs.Prelude.{◌↔◌, ◌||◌, if◌then◌else◌}
use Rattle.std.specs.List.{list_any, Contains, IsDistinct}
use Rattle.std.proofs.lemmas.List.{append-nil}
use Rattle.std.proofs.lemmas.List.Elements.{Contains-append_left, Contains-append_right, Contains-append_cases}
use Rattle.std.proofs.lemmas.Map.Keys.{IsDistinct-push}
use Rattle.std.proofs.lemmas.Map.Views.{Contains-from_any, list_any-from_Contains}
use Rattle.edit_stamps.specs.Edit.{PlaneEdit, is_edit}
use Rattle.edit_stamps.specs.OneEdit.{edits_equiv, tells_edits}
use Rattle.edit_journal.specs.Journal.{noted}

told : (a b : PlaneEdit) → is_edit a b ≡ true → a ≡ b
told a b h = (tells_edits a b).0 h

itself : (a : PlaneEdit) → is_edit a a ≡ true
itself a = (tells_edits a a).1 refl

-- the test for being in a list finds the edit itself
pub contains_told : (edits : List PlaneEdit) (e : PlaneEdit) → list_any (is_edit e) edits ≡ true → Contains edits e
contains_told edits e h = Contains-from_any told e edits h

pub told_contains : (edits : List PlaneEdit) (e : PlaneEdit) → Contains edits e → list_any (is_edit e) edits ≡ true
told_contains edits e h = list_any-from_Contains edits_equiv e edits h

-- ---- which edits there are

or_alone : (b : Bool) → (b || false) ≡ true → b ≡ true
or_alone true h = refl
or_alone false h = h

left_out : (H E : List PlaneEdit) (x e : PlaneEdit) → Contains H x → Contains (H ++ x ∷ E) e → Contains (H ++ E) e
left_out H E x e has h = elim (Contains-append_cases H (x ∷ E) e h) [
  | inl in_journal ↦ Contains-append_left H E e in_journal
  | inr listed ↦
      elim (Contains-append_cases (x ∷ []) E e listed) [
        | inl alone ↦ Contains-append_left H E e (subst (λ (y : PlaneEdit). Contains H y) (sym (told e x (or_alone (is_edit e x) (told_contains (x ∷ []) e alone)))) has)
        | inr later ↦ Contains-append_right H E e later
      ]
]

put_in : (H E : List PlaneEdit) (x e : PlaneEdit) → Contains (H ++ E) e → Contains (H ++ x ∷ E) e
put_in H E x e h = elim (Contains-append_cases H E e h) [
  | inl in_journal ↦ Contains-append_left H (x ∷ E) e in_journal
  | inr later ↦ Contains-append_right H (x ∷ E) e (Contains-append_right (x ∷ []) E e later)
]

one_noted : (b : Bool) (H E : List PlaneEdit) (x e : PlaneEdit) → b ≡ list_any (is_edit x) H →
    Contains ((if b then H else H ++ x ∷ []) ++ E) e ↔ Contains (H ++ x ∷ E) e
one_noted true H E x e is = (put_in H E x e, left_out H E x e (contains_told H x (sym is)))
one_noted false H E x e is =
    (λ h. subst (λ (l : List PlaneEdit). Contains l e) (append_assoc H (x ∷ []) E) h, λ h. subst (λ (l : List PlaneEdit). Contains l e) (sym (append_assoc H (x ∷ []) E)) h)

-- the edits of the journal and those that were given, and no others
pub noted_members : (H E : List PlaneEdit) (e : PlaneEdit) → Contains (noted H E) e ↔ Contains (H ++ E) e
noted_members H [] e = (λ h. subst (λ (l : List PlaneEdit). Contains l e) (sym (append-nil H)) h, λ h. subst (λ (l : List PlaneEdit). Contains l e) (append-nil H) h)
noted_members H (x ∷ E) e =
    let found = list_any (is_edit x) H in
    let more = noted_members (if found then H else H ++ x ∷ []) E e in
    let one = one_noted found H E x e refl in
    (λ h. one.0 (more.0 h), λ h. more.1 (one.1 h))

-- ---- each once

distinct_more : (b : Bool) (H : List PlaneEdit) (x : PlaneEdit) → b ≡ list_any (is_edit x) H → IsDistinct is_edit H → IsDistinct is_edit (if b then H else H ++ x ∷ [])
distinct_more true H x is h = h
distinct_more false H x is h = IsDistinct-push edits_equiv H x h (sym is)

-- noting puts no edit twice
pub noted_distinct : (H E : List PlaneEdit) → IsDistinct is_edit H → IsDistinct is_edit (noted H E)
noted_distinct H [] h = h
noted_distinct H (x ∷ E) h =
    noted_distinct (if list_any (is_edit x) H then H else H ++ x ∷ []) E (distinct_more (list_any (is_edit x) H) H x refl h)

-- ---- noting in turn, and again

-- lists are noted one after the other
pub noted_in_turn : (H E F : List PlaneEdit) → noted H (E ++ F) ≡ noted (noted H E) F
noted_in_turn H [] F = refl
noted_in_turn H (x ∷ E) F = noted_in_turn (if list_any (is_edit x) H then H else H ++ x ∷ []) E F

-- an edit that is not there goes behind
pub noted_new : (H : List PlaneEdit) (x : PlaneEdit) → list_any (is_edit x) H ≡ false → noted H (x ∷ []) ≡ H ++ x ∷ []
noted_new H x absent = ap (λ b. if b then H else H ++ x ∷ []) absent

-- what is there already changes nothing
pub noted_all : (H E : List PlaneEdit) → ((e : PlaneEdit) → Contains E e → Contains H e) → noted H E ≡ H
noted_all H [] h = refl
noted_all H (x ∷ E) h =
    ap (λ b. noted (if b then H else H ++ x ∷ []) E) (told_contains H x (h x (Contains-append_left (x ∷ []) E x (contains_told (x ∷ []) x (ap (λ b. b || false) (itself x))))))
    ∙ noted_all H E (λ e later. h e (Contains-append_right (x ∷ []) E e later))

-- what is noted again changes nothing
pub noted_again : (H E : List PlaneEdit) → noted (noted H E) E ≡ noted H E
noted_again H E = noted_all (noted H E) E (λ e given. (noted_members H E e).1 (Contains-append_right H E e given))
