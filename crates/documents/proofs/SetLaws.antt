-- Edits by their stamps, in lists whose stamps ascend.
use Rattle.std.proofs.Common.{◌≡◌, ◌≢◌, ◌⊎◌, inl, inr, ◌<◌, ◌≤◌, ℕ, zero, suc, List, [], ◌∷◌, ◌++◌, refl, sym, ap, subst, ◌∙◌, arith}
use Rattle.std.specs.Prelude.{◌==◌, Some, None, Contains}
use Rattle.std.proofs.lemmas.Bool.{cases_Bool, cases_order, eqb-true, eq-eqb}
use Rattle.edit_stamps.specs.Edit.{PlaneEdit}
use Rattle.documents.specs.Sets.{AreAbove, AreOneSet, IsAscending, edit_at}

-- ---- reads

-- the first edit is read at its stamp
pub read_first : (x : PlaneEdit) (xs : List PlaneEdit) (stamp : ℕ) → x.stamp ≡ stamp → edit_at (x ∷ xs) stamp ≡ Some x
read_first x xs stamp e = rw (eq-eqb x.stamp stamp e) refl

-- and nowhere else
pub read_behind : (x : PlaneEdit) (xs : List PlaneEdit) (stamp : ℕ) → x.stamp ≢ stamp → edit_at (x ∷ xs) stamp ≡ edit_at xs stamp
read_behind x xs stamp differ = elim (cases_Bool (x.stamp == stamp)) [
  | inl same ↦ absurd (differ (eqb-true x.stamp stamp same))
  | inr other ↦ rw other refl
]

pub stamp_read : (xs : List PlaneEdit) (stamp : ℕ) (e : PlaneEdit) → edit_at xs stamp ≡ Some e → e.stamp ≡ stamp
stamp_read [] stamp e read = absurd (cc)
stamp_read (x ∷ xs) stamp e read = elim (cases_Bool (x.stamp == stamp)) [
  | inl same ↦ (let is : x ≡ e = (let first : edit_at (x ∷ xs) stamp ≡ Some x = rw same refl in cc) in ap (λ (f : PlaneEdit). f.stamp) (sym is) ∙ eqb-true x.stamp stamp same)
  | inr other ↦ stamp_read xs stamp e (sym (rw other refl) ∙ read)
]

-- no edit is read below those that are above
pub none_below : (n : ℕ) (xs : List PlaneEdit) (stamp : ℕ) → AreAbove n xs → stamp ≤ n → edit_at xs stamp ≡ None
none_below n [] stamp above most = refl
none_below n (x ∷ xs) stamp above most = read_behind x xs stamp (λ e. omega (arith, e, above.0, most)) ∙ none_below n xs stamp above.1 most

pub above_weaker : (m n : ℕ) (xs : List PlaneEdit) → m ≤ n → AreAbove n xs → AreAbove m xs
above_weaker m n [] less above = tt
above_weaker m n (x ∷ xs) less above = (omega (arith, less, above.0), above_weaker m n xs less above.1)

-- ---- a set has one list

-- the list behind the first edit, where that is the same
behind_same : (x : PlaneEdit) (xs ys : List PlaneEdit) → AreAbove x.stamp xs → AreAbove x.stamp ys → AreOneSet (x ∷ xs) (x ∷ ys) → AreOneSet xs ys
behind_same x xs ys above also same stamp = elim (cases_Bool (x.stamp == stamp)) [
  | inl here ↦ (let least : stamp ≤ x.stamp = omega (arith, eqb-true x.stamp stamp here) in none_below x.stamp xs stamp above least ∙ sym (none_below x.stamp ys stamp also least))
  | inr there ↦ (let a : edit_at (x ∷ xs) stamp ≡ edit_at xs stamp = rw there refl in let b : edit_at (x ∷ ys) stamp ≡ edit_at ys stamp = rw there refl in sym a ∙ same stamp ∙ b)
]

-- two lists that read the same begin with the same edit
same_first : (x y : PlaneEdit) (xs ys : List PlaneEdit) → AreAbove x.stamp xs → AreAbove y.stamp ys → AreOneSet (x ∷ xs) (y ∷ ys) → x ≡ y
same_first x y xs ys above also same = elim (cases_order x.stamp y.stamp) [
  | inl e ↦ (let a : edit_at (x ∷ xs) y.stamp ≡ Some x = read_first x xs y.stamp e in let b : edit_at (y ∷ ys) y.stamp ≡ Some y = read_first y ys y.stamp refl in let c = same y.stamp in cc)
  | inr o ↦ elim o [
    | inl less ↦ (let a : edit_at (x ∷ xs) x.stamp ≡ Some x = read_first x xs x.stamp refl in
        let b : edit_at (y ∷ ys) x.stamp ≡ None = none_below x.stamp (y ∷ ys) x.stamp (less, above_weaker x.stamp y.stamp ys (omega (arith, less)) also) (omega arith) in let c = same x.stamp in absurd (cc))
    | inr more ↦ (let a : edit_at (y ∷ ys) y.stamp ≡ Some y = read_first y ys y.stamp refl in
        let b : edit_at (x ∷ xs) y.stamp ≡ None = none_below y.stamp (x ∷ xs) y.stamp (more, above_weaker y.stamp x.stamp xs (omega (arith, more)) above) (omega arith) in let c = same y.stamp in absurd (cc))
  ]
]

pub set_has_one_list : (a b : List PlaneEdit) → IsAscending a → IsAscending b → AreOneSet a b → a ≡ b
set_has_one_list [] [] up also same = refl
set_has_one_list [] (y ∷ ys) up also same = (let r : edit_at (y ∷ ys) y.stamp ≡ Some y = read_first y ys y.stamp refl in let e = same y.stamp in absurd (cc))
set_has_one_list (x ∷ xs) [] up also same = (let r : edit_at (x ∷ xs) x.stamp ≡ Some x = read_first x xs x.stamp refl in let e = same x.stamp in absurd (cc))
set_has_one_list (x ∷ xs) (y ∷ ys) up also same =
    let head : x ≡ y = same_first x y xs ys up.0 also.0 same in
    let above : AreAbove x.stamp ys = subst (λ (e : PlaneEdit). AreAbove e.stamp ys) (sym head) also.0 in
    let now : AreOneSet (x ∷ xs) (x ∷ ys) = subst (λ (e : PlaneEdit). AreOneSet (x ∷ xs) (e ∷ ys)) (sym head) same in
    let tail : xs ≡ ys = set_has_one_list xs ys up.1 also.1 (behind_same x xs ys up.0 above now) in
    λ i. head i ∷ tail i

-- ---- membership

pub has_first : (x : PlaneEdit) (xs : List PlaneEdit) → Contains (x ∷ xs) x
has_first x xs = (0, omega arith, refl)

pub has_behind : (x : PlaneEdit) (xs : List PlaneEdit) (e : PlaneEdit) → Contains xs e → Contains (x ∷ xs) e
has_behind x xs e has = (suc has.0, omega (arith, has.1), has.2)

pub none_held : (e : PlaneEdit) → Contains [] e → ⊥
none_held e has = omega (arith, has.1)

pub held_cases : (x : PlaneEdit) (xs : List PlaneEdit) (e : PlaneEdit) → Contains (x ∷ xs) e → (x ≡ e) ⊎ Contains xs e
held_cases x xs e (zero, inside, is) = inl is
held_cases x xs e (suc k, inside, is) = inr (k, omega (arith, inside), is)

pub above_held : (n : ℕ) (xs : List PlaneEdit) (e : PlaneEdit) → AreAbove n xs → Contains xs e → n < e.stamp
above_held n [] e above has = absurd (none_held e has)
above_held n (x ∷ xs) e above has = elim (held_cases x xs e has) [
  | inl is ↦ subst (λ (f : PlaneEdit). n < f.stamp) is above.0
  | inr there ↦ above_held n xs e above.1 there
]

-- what is read is in the list
pub read_is_held : (xs : List PlaneEdit) (stamp : ℕ) (e : PlaneEdit) → edit_at xs stamp ≡ Some e → Contains xs e
read_is_held [] stamp e read = absurd (cc)
read_is_held (x ∷ xs) stamp e read = elim (cases_Bool (x.stamp == stamp)) [
  | inl same ↦ (let is : x ≡ e = (let first : edit_at (x ∷ xs) stamp ≡ Some x = rw same refl in cc) in subst (λ (f : PlaneEdit). Contains (x ∷ xs) f) is (has_first x xs))
  | inr other ↦ has_behind x xs e (read_is_held xs stamp e (sym (rw other refl) ∙ read))
]

-- what is in the list of a set is read
pub held_is_read : (xs : List PlaneEdit) (e : PlaneEdit) → IsAscending xs → Contains xs e → edit_at xs e.stamp ≡ Some e
held_is_read [] e up has = absurd (none_held e has)
held_is_read (x ∷ xs) e up has = elim (held_cases x xs e has) [
  | inl is ↦ read_first x xs e.stamp (ap (λ (f : PlaneEdit). f.stamp) is) ∙ ap Some is
  | inr there ↦ read_behind x xs e.stamp (λ same. omega (arith, same, above_held x.stamp xs e up.0 there)) ∙ held_is_read xs e up.1 there
]

-- ---- one more behind

pub above_push : (n : ℕ) (xs : List PlaneEdit) (e : PlaneEdit) → AreAbove n xs → n < e.stamp → AreAbove n (xs ++ e ∷ [])
above_push n [] e above less = (less, tt)
above_push n (x ∷ xs) e above less = (above.0, above_push n xs e above.1 less)

pub ascending_push : (xs : List PlaneEdit) (e : PlaneEdit) → IsAscending xs → ((f : PlaneEdit) → Contains xs f → f.stamp < e.stamp) → IsAscending (xs ++ e ∷ [])
ascending_push [] e up below = (tt, tt)
ascending_push (x ∷ xs) e up below = (above_push x.stamp xs e up.0 (below x (has_first x xs)), ascending_push xs e up.1 (λ f has. below f (has_behind x xs f has)))
