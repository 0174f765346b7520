-- Unions of sets of edits.
use Rattle.std.proofs.Common.{◌≡◌, ◌⊎◌, inl, inr, ◌<◌, ℕ, true, List, [], ◌∷◌, ◌++◌, refl, sym, ap, subst, ◌∙◌, arith}
use Rattle.std.specs.Prelude.{◌==◌, nat_lt, Option, Some, None, Contains, if◌then◌else◌}
use Rattle.std.specs.Option.{option_or}
use Rattle.std.proofs.lemmas.Bool.{cases_Bool, cases_order, eqb-true, eq-eqb, ltb-true, lt-ltb}
use Rattle.std.proofs.lemmas.List.Elements.{Contains-append_left, Contains-append_right, Contains-append_cases}
use Rattle.edit_stamps.specs.Edit.{PlaneEdit, greatest}
use Rattle.edit_stamps.proofs.WriteLaws.{depends_on_members, joins_lists}
use Rattle.stamped_writes.specs.Write.{AreSame, joined}
use Rattle.documents.specs.Sets.{Agree, AreAbove, IsAscending, IsPartOf, IsUnion, edit_at}
use Rattle.documents.specs.Laws.{HasOneUnion}
use Rattle.documents.proofs.SetLaws.{read_behind, none_below, above_weaker, set_has_one_list, read_is_held, held_is_read}

-- ---- one edit put in its place

pub add : PlaneEdit → List PlaneEdit → List PlaneEdit
add e [] = e ∷ []
add e (x ∷ xs) = if nat_lt e.stamp x.stamp then e ∷ x ∷ xs else (if e.stamp == x.stamp then x ∷ xs else x ∷ add e xs)

-- the second set's edits put among the first's
pub union_of : List PlaneEdit → List PlaneEdit → List PlaneEdit
union_of a [] = a
union_of a (e ∷ b) = add e (union_of a b)

add_lower : (e x : PlaneEdit) (xs : List PlaneEdit) → e.stamp < x.stamp → add e (x ∷ xs) ≡ e ∷ x ∷ xs
unfolding add
add_lower e x xs less = rw (lt-ltb e.stamp x.stamp less) refl

add_same : (e x : PlaneEdit) (xs : List PlaneEdit) → e.stamp ≡ x.stamp → add e (x ∷ xs) ≡ x ∷ xs
unfolding add
add_same e x xs same = elim (cases_Bool (nat_lt e.stamp x.stamp)) [
  | inl less ↦ absurd (omega (arith, same, ltb-true e.stamp x.stamp less))
  | inr above ↦ rw (above, eq-eqb e.stamp x.stamp same) refl
]

pub add_higher : (e x : PlaneEdit) (xs : List PlaneEdit) → x.stamp < e.stamp → add e (x ∷ xs) ≡ x ∷ add e xs
unfolding add
add_higher e x xs more = elim (cases_Bool (nat_lt e.stamp x.stamp)) [
  | inl less ↦ absurd (omega (arith, more, ltb-true e.stamp x.stamp less))
  | inr above ↦ elim (cases_Bool (e.stamp == x.stamp)) [
    | inl same ↦ absurd (omega (arith, more, eqb-true e.stamp x.stamp same))
    | inr other ↦ rw (above, other) refl
  ]
]

pub add_front : (e : PlaneEdit) (xs : List PlaneEdit) → AreAbove e.stamp xs → add e xs ≡ e ∷ xs
unfolding add
add_front e [] above = refl
add_front e (x ∷ xs) above = add_lower e x xs above.0

above_add : (n : ℕ) (e : PlaneEdit) (xs : List PlaneEdit) → n < e.stamp → AreAbove n xs → AreAbove n (add e xs)
unfolding add
above_add n e [] less above = (less, tt)
above_add n e (x ∷ xs) less above = elim (cases_order e.stamp x.stamp) [
  | inl same ↦ subst (AreAbove n) (sym (add_same e x xs same)) above
  | inr o ↦ elim o [
    | inl lower ↦ subst (AreAbove n) (sym (add_lower e x xs lower)) (less, above)
    | inr higher ↦ subst (AreAbove n) (sym (add_higher e x xs higher)) (above.0, above_add n e xs less above.1)
  ]
]

pub ascending_add : (e : PlaneEdit) (xs : List PlaneEdit) → IsAscending xs → IsAscending (add e xs)
unfolding add
ascending_add e [] up = (tt, tt)
ascending_add e (x ∷ xs) up = elim (cases_order e.stamp x.stamp) [
  | inl same ↦ subst IsAscending (sym (add_same e x xs same)) up
  | inr o ↦ elim o [
    | inl lower ↦ subst IsAscending (sym (add_lower e x xs lower)) ((lower, above_weaker e.stamp x.stamp xs (omega (arith, lower)) up.0), up)
    | inr higher ↦ subst IsAscending (sym (add_higher e x xs higher)) (above_add x.stamp e xs higher up.0, ascending_add e xs up.1)
  ]
]

-- what is read after one edit was put in its place
pub read_add : (e : PlaneEdit) (xs : List PlaneEdit) (stamp : ℕ) → IsAscending xs → edit_at (add e xs) stamp ≡ option_or (edit_at xs stamp) (edit_at (e ∷ []) stamp)
unfolding add
read_add e [] stamp up = refl
read_add e (x ∷ xs) stamp up = elim (cases_order e.stamp x.stamp) [
  | inl same ↦ ap (λ (l : List PlaneEdit). edit_at l stamp) (add_same e x xs same) ∙ elim (cases_Bool (x.stamp == stamp)) [
    | inl here ↦ rw here refl
    | inr there ↦ (let gone : edit_at (e ∷ []) stamp ≡ None = read_behind e [] stamp (λ is. (let no : x.stamp ≡ stamp = omega (arith, same, is) in let yes : (x.stamp == stamp) ≡ true = eq-eqb x.stamp stamp no in cc)) in none_else (edit_at (x ∷ xs) stamp) (edit_at (e ∷ []) stamp) gone)
  ]
  | inr o ↦ elim o [
    | inl lower ↦ ap (λ (l : List PlaneEdit). edit_at l stamp) (add_lower e x xs lower) ∙ elim (cases_Bool (e.stamp == stamp)) [
      | inl here ↦ (let none : edit_at (x ∷ xs) stamp ≡ None = none_below e.stamp (x ∷ xs) stamp (lower, above_weaker e.stamp x.stamp xs (omega (arith, lower)) up.0) (omega (arith, eqb-true e.stamp stamp here)) in
          rw (here, none) refl)
      | inr there ↦ rw there (none_else (edit_at (x ∷ xs) stamp) None refl)
    ]
    | inr higher ↦ ap (λ (l : List PlaneEdit). edit_at l stamp) (add_higher e x xs higher) ∙ elim (cases_Bool (x.stamp == stamp)) [
      | inl here ↦ rw here refl
      | inr there ↦ rw there (read_add e xs stamp up.1)
    ]
  ]
]
  where
    none_else : (o p : Option PlaneEdit) → p ≡ None → o ≡ option_or o p
    none_else None p none = sym none
    none_else (Some f) p none = refl

-- ---- the union

pub ascending_union : (a b : List PlaneEdit) → IsAscending a → IsAscending (union_of a b)
unfolding union_of
ascending_union a [] up = up
ascending_union a (e ∷ b) up = ascending_add e (union_of a b) (ascending_union a b up)

or_or : (o p q : Option PlaneEdit) → option_or (option_or o p) q ≡ option_or o (option_or p q)
or_or None p q = refl
or_or (Some e) p q = refl

-- an edit behind others that have none of its stamp reads as before them
before : (e : PlaneEdit) (b : List PlaneEdit) (stamp : ℕ) → AreAbove e.stamp b → option_or (edit_at b stamp) (edit_at (e ∷ []) stamp) ≡ edit_at (e ∷ b) stamp
before e b stamp above = elim (cases_Bool (e.stamp == stamp)) [
  | inl here ↦ (let none : edit_at b stamp ≡ None = none_below e.stamp b stamp above (omega (arith, eqb-true e.stamp stamp here)) in rw (here, none) refl)
  | inr there ↦ rw there (alone (edit_at b stamp))
]
  where
    alone : (o : Option PlaneEdit) → option_or o None ≡ o
    alone None = refl
    alone (Some f) = refl

pub union_is : (a b : List PlaneEdit) → IsAscending a → IsAscending b → IsUnion a b (union_of a b)
unfolding union_of
union_is a [] up also stamp = alone (edit_at a stamp)
  where
    alone : (o : Option PlaneEdit) → o ≡ option_or o None
    alone None = refl
    alone (Some f) = refl
union_is a (e ∷ b) up also stamp =
    read_add e (union_of a b) stamp (ascending_union a b up)
    ∙ ap (λ (o : Option PlaneEdit). option_or o (edit_at (e ∷ []) stamp)) (union_is a b up also.1 stamp)
    ∙ or_or (edit_at a stamp) (edit_at b stamp) (edit_at (e ∷ []) stamp)
    ∙ ap (λ (o : Option PlaneEdit). option_or (edit_at a stamp) o) (before e b stamp also.0)

above_union : (n : ℕ) (a b : List PlaneEdit) → AreAbove n a → AreAbove n b → AreAbove n (union_of a b)
unfolding union_of
above_union n a [] above also = above
above_union n a (e ∷ b) above also = above_add n e (union_of a b) also.0 (above_union n a b above also.1)

-- an edit that stands before both sets stands first in their union
pub union_left : (x : PlaneEdit) (a b : List PlaneEdit) → AreAbove x.stamp b → union_of (x ∷ a) b ≡ x ∷ union_of a b
unfolding union_of
union_left x a [] above = refl
union_left x a (e ∷ b) above = ap (add e) (union_left x a b above.1) ∙ add_higher e x (union_of a b) above.0

pub union_right : (y : PlaneEdit) (a b : List PlaneEdit) → AreAbove y.stamp a → AreAbove y.stamp b → union_of a (y ∷ b) ≡ y ∷ union_of a b
unfolding union_of
union_right y a b above also = add_front y (union_of a b) (above_union y.stamp a b above also)

pub union_both : (x y : PlaneEdit) (a b : List PlaneEdit) → y.stamp ≡ x.stamp → AreAbove x.stamp b → union_of (x ∷ a) (y ∷ b) ≡ x ∷ union_of a b
unfolding union_of
union_both x y a b same above = ap (add y) (union_left x a b above) ∙ add_same y x (union_of a b) same

pub union_none : union_of [] [] ≡ []
unfolding union_of
union_none = refl

-- ---- laws

pub one_union : (a b c d : List PlaneEdit) → IsAscending c → IsAscending d → IsUnion a b c → IsUnion a b d → c ≡ d
one_union a b c d up also is too = set_has_one_list c d up also (λ stamp. is stamp ∙ sym (too stamp))

swapped : (o p : Option PlaneEdit) → ((e f : PlaneEdit) → o ≡ Some e → p ≡ Some f → e ≡ f) → option_or o p ≡ option_or p o
swapped None None same = refl
swapped None (Some f) same = refl
swapped (Some e) None same = refl
swapped (Some e) (Some f) same = ap Some (same e f refl refl)

pub commutative : (a b c : List PlaneEdit) → Agree a b → IsUnion a b c → IsUnion b a c
commutative a b c agree is stamp = is stamp ∙ swapped (edit_at a stamp) (edit_at b stamp) (agree stamp)

pub associative : (a b c ab bc x y : List PlaneEdit) → IsAscending x → IsAscending y → IsUnion a b ab → IsUnion ab c x → IsUnion b c bc → IsUnion a bc y → x ≡ y
associative a b c ab bc x y up also first all second whole = set_has_one_list x y up also (λ stamp.
    all stamp
    ∙ ap (λ (o : Option PlaneEdit). option_or o (edit_at c stamp)) (first stamp)
    ∙ or_or (edit_at a stamp) (edit_at b stamp) (edit_at c stamp)
    ∙ ap (λ (o : Option PlaneEdit). option_or (edit_at a stamp) o) (sym (second stamp))
    ∙ sym (whole stamp))

pub idempotent : (a : List PlaneEdit) → IsUnion a a a
idempotent a stamp = twice (edit_at a stamp)
  where
    twice : (o : Option PlaneEdit) → o ≡ option_or o o
    twice None = refl
    twice (Some e) = refl

first_stays : (o p : Option PlaneEdit) (e : PlaneEdit) → o ≡ Some e → option_or o p ≡ Some e
first_stays None p e is = absurd (cc)
first_stays (Some f) p e is = is

pub left : (a b c : List PlaneEdit) → IsUnion a b c → IsPartOf a c
left a b c is stamp e read = is stamp ∙ first_stays (edit_at a stamp) (edit_at b stamp) e read

pub right : (a b c : List PlaneEdit) → Agree a b → IsUnion a b c → IsPartOf b c
right a b c agree is = left b a c (commutative a b c agree is)

-- what is read of a union is read of one of the two
pub either : (o p : Option PlaneEdit) (e : PlaneEdit) → option_or o p ≡ Some e → (o ≡ Some e) ⊎ (p ≡ Some e)
either None p e is = inr is
either (Some f) p e is = inl is

pub least : (a b c d : List PlaneEdit) → IsUnion a b c → IsPartOf a d → IsPartOf b d → IsPartOf c d
least a b c d is in_a in_b stamp e read = elim (either (edit_at a stamp) (edit_at b stamp) e (sym (is stamp) ∙ read)) [
  | inl here ↦ in_a stamp e here
  | inr there ↦ in_b stamp e there
]

pub antisymmetric : (a b : List PlaneEdit) → IsAscending a → IsAscending b → IsPartOf a b → IsPartOf b a → a ≡ b
antisymmetric a b up also there back = set_has_one_list a b up also (λ stamp. same (edit_at a stamp) (edit_at b stamp) (there stamp) (back stamp))
  where
    same : (o p : Option PlaneEdit) → ((e : PlaneEdit) → o ≡ Some e → p ≡ Some e) → ((e : PlaneEdit) → p ≡ Some e → o ≡ Some e) → o ≡ p
    same None None there back = refl
    same None (Some e) there back = back e refl
    same (Some e) p there back = sym (there e refl)

-- the edits of a union are those of the two
pub held_by_either : (a b c : List PlaneEdit) (e : PlaneEdit) → IsAscending c → IsUnion a b c → Contains c e → Contains a e ⊎ Contains b e
held_by_either a b c e up is has = elim (either (edit_at a e.stamp) (edit_at b e.stamp) e (sym (is e.stamp) ∙ held_is_read c e up has)) [
  | inl here ↦ inl (read_is_held a e.stamp e here)
  | inr there ↦ inr (read_is_held b e.stamp e there)
]

pub join_of_maps : (a b c : List PlaneEdit) → IsAscending a → IsAscending b → IsAscending c → Agree a b → IsUnion a b c → AreSame (greatest c) (joined (greatest a) (greatest b))
join_of_maps a b c up also all agree is place = depends_on_members c (a ++ b) (λ e. (out e, back e)) place ∙ joins_lists a b place
  where
    out : (e : PlaneEdit) → Contains c e → Contains (a ++ b) e
    out e has = elim (held_by_either a b c e all is has) [ inl here ↦ Contains-append_left a b e here | inr there ↦ Contains-append_right a b e there ]

    back : (e : PlaneEdit) → Contains (a ++ b) e → Contains c e
    back e has = elim (Contains-append_cases a b e has) [
      | inl here ↦ read_is_held c e.stamp e (left a b c is e.stamp e (held_is_read a e up here))
      | inr there ↦ read_is_held c e.stamp e (right a b c agree is e.stamp e (held_is_read b e also there))
    ]

pub has_one_union : (a b : List PlaneEdit) → IsAscending a → IsAscending b → HasOneUnion a b
has_one_union a b up also =
    let one : IsAscending (union_of a b) = ascending_union a b up in
    record { union = union_of a b; ascending = one; is = union_is a b up also; one = λ other above too. one_union a b other (union_of a b) above one too (union_is a b up also) }
