-- How many edits of one set are not in another.
use Rattle.std.proofs.Common.{◌≡◌, ◌≢◌, inl, inr, ◌≤◌, ◌+◌, ℕ, Bool, true, false, List, [], ◌∷◌, refl, sym, ap, subst, ◌∙◌, arith, cond}
use Rattle.std.specs.Prelude.{◌==◌, ◌||◌, ◌↔◌, not, Some, Contains, IsTrue}
use Rattle.std.proofs.lemmas.Bool.{cases_Bool, eqb-true, eq-eqb}
use Rattle.std.proofs.lemmas.List.Sums.{sum_by-cons}
use Rattle.edit_stamps.specs.Edit.{PlaneEdit, is_edit}
use Rattle.edit_stamps.specs.OneEdit.{tells_edits}
use Rattle.documents.specs.declared.walk.Next.{Next}
use Rattle.documents.specs.declared.walk.Next.TheVariants.{Left, Right, Both}
use Rattle.documents.specs.Sets.{AreAbove, IsAscending, IsPartOf, edit_at}
use Rattle.documents.specs.Documents.{count_of_new, has_edit}
use Rattle.documents.specs.Walk.{IsNext, is_new_next}
use Rattle.documents.proofs.SetLaws.{has_behind, has_first, held_cases, held_is_read, none_held, read_is_held, stamp_read}
use Rattle.documents.proofs.Walks.{above_by_first, one_edit}

-- ---- one list's edits in another

differ_by_stamp : (e f : PlaneEdit) → e.stamp ≢ f.stamp → is_edit e f ≡ false
differ_by_stamp e f differ = elim (cases_Bool (is_edit e f)) [
  | inl same ↦ absurd (differ (ap (λ (g : PlaneEdit). g.stamp) (one_edit e f same)))
  | inr other ↦ other
]

none_above_has : (n : ℕ) (xs : List PlaneEdit) (e : PlaneEdit) → AreAbove n xs → e.stamp ≤ n → has_edit xs e ≡ false
none_above_has n [] e above most = refl
none_above_has n (x ∷ xs) e above most = rw (differ_by_stamp x e (λ same. omega (arith, same, most, above.0)), none_above_has n xs e above.1 most) refl

-- ---- the count

count_one : (a : List PlaneEdit) (e : PlaneEdit) (b : List PlaneEdit) → count_of_new a (e ∷ b) ≡ cond (not (has_edit a e)) 1 0 + count_of_new a b
count_one a e b = sum_by-cons (λ (f : PlaneEdit). cond (not (has_edit a f)) 1 0) e b

count_left : (x : PlaneEdit) (a b : List PlaneEdit) → AreAbove x.stamp b → count_of_new (x ∷ a) b ≡ count_of_new a b
count_left x a [] above = refl
count_left x a (e ∷ b) above =
    let other : is_edit x e ≡ false = differ_by_stamp x e (λ same. omega (arith, same, above.0)) in
    let same : has_edit (x ∷ a) e ≡ has_edit a e = rw other refl in
    count_one (x ∷ a) e b ∙ ap (λ (t : Bool). cond (not t) 1 0 + count_of_new (x ∷ a) b) same ∙ ap (λ (n : ℕ). cond (not (has_edit a e)) 1 0 + n) (count_left x a b above.1) ∙ sym (count_one a e b)

count_right : (a : List PlaneEdit) (y : PlaneEdit) (b : List PlaneEdit) → AreAbove y.stamp a → count_of_new a (y ∷ b) ≡ 1 + count_of_new a b
count_right a y b above =
    count_one a y b ∙ ap (λ (t : Bool). cond (not t) 1 0 + count_of_new a b) (none_above_has y.stamp a y above (omega arith))

count_both : (x y : PlaneEdit) (a b : List PlaneEdit) → x.stamp ≡ y.stamp → AreAbove x.stamp a → AreAbove x.stamp b → count_of_new (x ∷ a) (y ∷ b) ≡ cond (not (is_edit x y)) 1 0 + count_of_new a b
count_both x y a b same above also =
    let none : has_edit a y ≡ false = none_above_has x.stamp a y above (omega (arith, same)) in
    let is : has_edit (x ∷ a) y ≡ is_edit x y = alone (is_edit x y) (has_edit a y) none in
    count_one (x ∷ a) y b ∙ ap (λ (t : Bool). cond (not t) 1 0 + count_of_new (x ∷ a) b) is ∙ ap (λ (n : ℕ). cond (not (is_edit x y)) 1 0 + n) (count_left x a b also)
  where
    alone : (s t : Bool) → t ≡ false → (s || t) ≡ s
    alone true t none = refl
    alone false t none = none

-- ---- the walk

pub record IsCounted (a b : List PlaneEdit) (n : ℕ) (l r : List PlaneEdit) : Type 0 where
  pub whole : n + count_of_new l r ≡ count_of_new a b
  pub left_up : IsAscending l
  pub right_up : IsAscending r

moved : (a b : List PlaneEdit) (n : ℕ) (l r more rest : List PlaneEdit) → l ≡ more → r ≡ rest → IsCounted a b n l r → IsCounted a b n more rest
moved a b n l r more rest e f w = subst (λ (m : List PlaneEdit). IsCounted a b n more m) f (subst (λ (m : List PlaneEdit). IsCounted a b n m r) e w)

pub counted_on : (a b : List PlaneEdit) (n : ℕ) (l r more rest : List PlaneEdit) (next : Next) → IsCounted a b n l r → IsNext l r next more rest → IsCounted a b (n + cond (is_new_next next) 1 0) more rest
counted_on a b n l r more rest (Left x) w is =
    let now : IsCounted a b n (x.now ∷ more) rest = moved a b n l r (x.now ∷ more) rest is.0 is.1 w in
    record { whole = omega (arith, now.whole, count_left x.now more rest (above_by_first x.now.stamp rest is.2 now.right_up)); left_up = now.left_up.1; right_up = now.right_up }
counted_on a b n l r more rest (Right y) w is =
    let now : IsCounted a b n more (y.now ∷ rest) = moved a b n l r more (y.now ∷ rest) is.0 is.1 w in
    record { whole = omega (arith, now.whole, count_right more y.now rest (above_by_first y.now.stamp more is.2 now.left_up)); left_up = now.left_up; right_up = now.right_up.1 }
counted_on a b n l r more rest (Both x y) w is =
    let now : IsCounted a b n (x.now ∷ more) (y.now ∷ rest) = moved a b n l r (x.now ∷ more) (y.now ∷ rest) is.0 is.1 w in
    let above : AreAbove x.now.stamp rest = subst (λ (s : ℕ). AreAbove s rest) (sym is.2) now.right_up.0 in
    record { whole = omega (arith, now.whole, count_both x.now y.now more rest is.2 now.left_up.0 above); left_up = now.left_up.1; right_up = now.right_up.1 }

pub all_counted : (a b : List PlaneEdit) (n : ℕ) (l r : List PlaneEdit) → IsCounted a b n l r → l ≡ [] → r ≡ [] → n ≡ count_of_new a b
all_counted a b n l r w none also = (let ends : IsCounted a b n [] [] = moved a b n l r [] [] none also w in omega (arith, ends.whole))

-- ---- none is new where one set is part of the other

pub has_is_held : (xs : List PlaneEdit) (e : PlaneEdit) → has_edit xs e ≡ true → Contains xs e
has_is_held [] e has = absurd (cc)
has_is_held (x ∷ xs) e has = elim (cases_Bool (is_edit x e)) [
  | inl same ↦ subst (λ (f : PlaneEdit). Contains (x ∷ xs) f) (one_edit x e same) (has_first x xs)
  | inr other ↦ has_behind x xs e (has_is_held xs e (sym (rw other refl) ∙ has))
]

pub held_is_had : (xs : List PlaneEdit) (e : PlaneEdit) → Contains xs e → has_edit xs e ≡ true
held_is_had [] e has = absurd (none_held e has)
held_is_had (x ∷ xs) e has = elim (held_cases x xs e has) [
  | inl is ↦ (let same : is_edit x e ≡ true = (tells_edits x e).1 is in rw same refl)
  | inr there ↦ (let behind : has_edit xs e ≡ true = held_is_had xs e there in elim (cases_Bool (is_edit x e)) [ inl same ↦ rw same refl | inr other ↦ rw (other, behind) refl ])
]

none_new_each : (a b : List PlaneEdit) → count_of_new a b ≡ 0 → (e : PlaneEdit) → Contains b e → Contains a e
none_new_each a [] none e has = absurd (none_held e has)
none_new_each a (x ∷ b) none e has = elim (cases_Bool (has_edit a x)) [
  | inl had ↦ elim (held_cases x b e has) [
    | inl is ↦ subst (Contains a) is (has_is_held a x had)
    | inr there ↦ none_new_each a b (omega (arith, none, count_one a x b)) e there
  ]
  | inr lacks ↦ (let one : count_of_new a (x ∷ b) ≡ 1 + count_of_new a b = count_one a x b ∙ ap (λ (t : Bool). cond (not t) 1 0 + count_of_new a b) lacks in absurd (omega (arith, none, one)))
]

each_none_new : (a b : List PlaneEdit) → ((e : PlaneEdit) → Contains b e → Contains a e) → count_of_new a b ≡ 0
each_none_new a [] each = refl
each_none_new a (x ∷ b) each =
    let one : count_of_new a (x ∷ b) ≡ 0 + count_of_new a b = count_one a x b ∙ ap (λ (t : Bool). cond (not t) 1 0 + count_of_new a b) (held_is_had a x (each x (has_first x b))) in
    omega (arith, one, each_none_new a b (λ e has. each e (has_behind x b e has)))

pub none_new_is_part : (a b : List PlaneEdit) → IsAscending a → IsAscending b → (count_of_new a b ≡ 0) ↔ IsPartOf b a
none_new_is_part a b up also = (
  (λ none stamp e read. subst (λ (s : ℕ). edit_at a s ≡ Some e) (stamp_read b stamp e read) (held_is_read a e up (none_new_each a b none e (read_is_held b stamp e read)))),
  (λ part. each_none_new a b (λ e has. read_is_held a e.stamp e (part e.stamp e (held_is_read b e also has)))),
)

-- the same, as code asks it: of sets that it reads as x and y
pub part_told : (a b x y : List PlaneEdit) (n : ℕ) {l r : List PlaneEdit} → IsAscending l → IsAscending r → x ≡ l → y ≡ r → l ≡ a → r ≡ b → n ≡ count_of_new x y → IsTrue (n == 0) ↔ IsPartOf b a
part_told a b x y n {l} {r} up also e f g h counted =
    let same : n ≡ count_of_new a b = counted ∙ ap (λ (m : List PlaneEdit). count_of_new m y) (e ∙ g) ∙ ap (count_of_new a) (f ∙ h) in
    let told = none_new_is_part a b (subst IsAscending g up) (subst IsAscending h also) in (
      (λ none. told.0 (sym same ∙ eqb-true n 0 none)),
      (λ part. eq-eqb n 0 (same ∙ told.1 part)),
    )
