-- Sorted edits, each once.
use Rattle.std.proofs.Common.{◌≡◌, ◌≢◌, inl, inr, ◌<◌, ◌≤◌, ◌-◌, ℕ, zero, suc, Bool, true, List, [], ◌∷◌, length, refl, sym, ap, subst, ◌∙◌, arith}
use Rattle.std.specs.Prelude.{◌==◌, ◌↔◌, Some, Contains, slice_get}
use Rattle.std.specs.List.{dedup, dedup_from}
use Rattle.std.specs.List.Sorted.{IsNonDecreasingBy, IsPermutation}
use Rattle.std.proofs.lemmas.Bool.{cases_Bool, eqb-true, eq-eqb}
use Rattle.std.proofs.lemmas.List.Sorted.{Contains-permutation, IsPermutation-sym}
use Rattle.edit_stamps.specs.Edit.{PlaneEdit, is_edit}
use Rattle.documents.specs.Sets.{AreAbove, ClashesWithin, HasNoTwo, HasTwoAt, HaveSameEdits, IsAscending}
use Rattle.documents.specs.Results.{IsAnotherNext, IsSetOf}
use Rattle.documents.proofs.SetLaws.{above_held, has_behind, has_first, held_cases, none_held}
use Rattle.documents.proofs.Walks.{one_edit, two_edits}

-- ---- the last of an ascending list

held_at : (ys : List PlaneEdit) (i : ℕ) (y : PlaneEdit) → slice_get ys i ≡ Some y → Contains ys y
held_at [] i y at = absurd (cc)
held_at (b ∷ ys) zero y at = (let same : b ≡ y = cc in subst (λ (e : PlaneEdit). Contains (b ∷ ys) e) same (has_first b ys))
held_at (b ∷ ys) (suc i) y at = has_behind b ys y (held_at ys i y at)

last_at_greatest : (xs : List PlaneEdit) (k : ℕ) (x f : PlaneEdit) → IsAscending xs → suc k ≡ length xs → slice_get xs k ≡ Some x → Contains xs f → f.stamp ≤ x.stamp
last_at_greatest [] k x f up end at has = absurd (none_held f has)
last_at_greatest (a ∷ xs) zero x f up end at has = elim (held_cases a xs f has) [
  | inl is ↦ (let same : a ≡ x = cc in omega (arith, ap (λ (e : PlaneEdit). e.stamp) is, ap (λ (e : PlaneEdit). e.stamp) same))
  | inr there ↦ absurd (omega (arith, end, there.1))
]
last_at_greatest (a ∷ xs) (suc k) x f up end at has =
    let behind : suc k ≡ length xs = omega (arith, end) in
    elim (held_cases a xs f has) [
      | inl is ↦ (let inside : k < length xs = omega (arith, behind) in
          omega (arith, ap (λ (e : PlaneEdit). e.stamp) is, above_held a.stamp xs x up.0 (held_at xs k x at)))
      | inr there ↦ last_at_greatest xs k x f up.1 behind at there
    ]

pub last_greatest : (xs : List PlaneEdit) (x f : PlaneEdit) → IsAscending xs → slice_get xs (length xs - 1) ≡ Some x → Contains xs f → f.stamp ≤ x.stamp
last_greatest xs x f up at has = last_at_greatest xs (length xs - 1) x f up (omega (arith, has.1)) at has

-- ---- lists whose stamps do not fall

pub IsRising : List PlaneEdit → Type 0
IsRising [] = Unit {0}
IsRising (x ∷ xs) = ((e : PlaneEdit) → Contains xs e → x.stamp ≤ e.stamp) × IsRising xs

rising_rest : (y : PlaneEdit) (xs : List PlaneEdit) → IsNonDecreasingBy (λ (e : PlaneEdit). e.stamp) (y ∷ xs) → IsNonDecreasingBy (λ (e : PlaneEdit). e.stamp) xs
rising_rest y xs rising i j d less inside = rising (suc i) (suc j) d (omega (arith, less)) (omega (arith, inside))

rising_first : (y : PlaneEdit) (xs : List PlaneEdit) (e : PlaneEdit) → IsNonDecreasingBy (λ (e : PlaneEdit). e.stamp) (y ∷ xs) → Contains (y ∷ xs) e → y.stamp ≤ e.stamp
rising_first y xs e rising has = subst (λ (f : PlaneEdit). y.stamp ≤ f.stamp) has.2 (rising 0 has.0 e (omega arith) has.1)

rises : (xs : List PlaneEdit) → IsNonDecreasingBy (λ (e : PlaneEdit). e.stamp) xs → IsRising xs
unfolding IsRising
rises [] rising = tt
rises (x ∷ xs) rising = ((λ e has. rising_first x xs e rising (has_behind x xs e has)), rises xs (rising_rest x xs rising))

least_first : (x : PlaneEdit) (xs : List PlaneEdit) (e : PlaneEdit) → IsRising (x ∷ xs) → Contains (x ∷ xs) e → x.stamp ≤ e.stamp
unfolding IsRising
least_first x xs e rising has = elim (held_cases x xs e has) [
  | inl is ↦ omega (arith, ap (λ (f : PlaneEdit). f.stamp) is)
  | inr there ↦ rising.0 e there
]

rising_behind : (x : PlaneEdit) (xs : List PlaneEdit) → IsRising (x ∷ xs) → IsRising xs
unfolding IsRising
rising_behind x xs rising = rising.1

-- ---- the first clash

-- the front of a list was passed over, where no two edits differ at one stamp
pub record IsLeft (sorted left : List PlaneEdit) : Type 0 where
  pub rising : IsRising left
  pub there : (stamp : ℕ) → HasTwoAt sorted stamp → HasTwoAt left stamp
  pub here : (stamp : ℕ) → HasTwoAt left stamp → HasTwoAt sorted stamp

pub all_left : (sorted left : List PlaneEdit) → IsNonDecreasingBy (λ (e : PlaneEdit). e.stamp) sorted → left ≡ sorted → IsLeft sorted left
all_left sorted left rising all = subst (IsLeft sorted) (sym all) (record { rising = rises sorted rising; there = λ stamp two. two; here = λ stamp two. two })

two_behind : (x : PlaneEdit) (xs : List PlaneEdit) (stamp : ℕ) → HasTwoAt xs stamp → HasTwoAt (x ∷ xs) stamp
two_behind x xs stamp two = record {
  one = two.one;
  other = two.other;
  has_one = has_behind x xs two.one two.has_one;
  has_other = has_behind x xs two.other two.has_other;
  stamp_of_one = two.stamp_of_one;
  stamp_of_other = two.stamp_of_other;
  differ = two.differ;
}

-- an edit stands again behind itself where one of its stamp does, and no other is next
again_behind : (x : PlaneEdit) (xs : List PlaneEdit) (e : PlaneEdit) → IsRising (x ∷ xs) → (IsAnotherNext x xs → ⊥) → Contains xs e → e.stamp ≡ x.stamp → Contains xs x
again_behind x [] e rising none has at = absurd (none_held e has)
again_behind x (y ∷ ys) e rising none has at =
    let most : y.stamp ≤ e.stamp = least_first y ys e (rising_behind x (y ∷ ys) rising) has in
    let least : x.stamp ≤ y.stamp = least_first x (y ∷ ys) y rising (has_behind x (y ∷ ys) y (has_first y ys)) in
    let same : y.stamp ≡ x.stamp = omega (arith, most, least, at) in
    elim (cases_Bool (is_edit y x)) [
      | inl is ↦ subst (λ (f : PlaneEdit). Contains (y ∷ ys) f) (one_edit y x is) (has_first y ys)
      | inr differ ↦ absurd (none (same, two_edits y x differ))
    ]

two_left : (x : PlaneEdit) (xs : List PlaneEdit) (stamp : ℕ) → IsRising (x ∷ xs) → (IsAnotherNext x xs → ⊥) → HasTwoAt (x ∷ xs) stamp → HasTwoAt xs stamp
two_left x xs stamp rising none two = record {
  one = two.one;
  other = two.other;
  has_one = stays two.one two.other two.has_one two.has_other two.stamp_of_one two.stamp_of_other two.differ;
  has_other = stays two.other two.one two.has_other two.has_one two.stamp_of_other two.stamp_of_one (λ same. two.differ (sym same));
  stamp_of_one = two.stamp_of_one;
  stamp_of_other = two.stamp_of_other;
  differ = two.differ;
}
  where
    stays : (e f : PlaneEdit) → Contains (x ∷ xs) e → Contains (x ∷ xs) f → e.stamp ≡ stamp → f.stamp ≡ stamp → e ≢ f → Contains xs e
    stays e f has other at too differ = elim (held_cases x xs e has) [
      | inr there ↦ there
      | inl is ↦ elim (held_cases x xs f other) [
        | inl also ↦ absurd (differ (sym is ∙ also))
        | inr there ↦ subst (Contains xs) is (again_behind x xs f rising none there (too ∙ sym at ∙ ap (λ (g : PlaneEdit). g.stamp) (sym is)))
      ]
    ]

pub left_on : (sorted left behind : List PlaneEdit) (x : PlaneEdit) → IsLeft sorted left → left ≡ x ∷ behind → (IsAnotherNext x behind → ⊥) → IsLeft sorted behind
left_on sorted left behind x l is none =
    let now : IsLeft sorted (x ∷ behind) = subst (IsLeft sorted) is l in
    record {
      rising = rising_behind x behind now.rising;
      there = λ stamp two. two_left x behind stamp now.rising none (now.there stamp two);
      here = λ stamp two. now.here stamp (two_behind x behind stamp two);
    }

two_first : (x : PlaneEdit) (behind : List PlaneEdit) → IsAnotherNext x behind → HasTwoAt (x ∷ behind) x.stamp
two_first x [] another = absurd another
two_first x (y ∷ behind) another = record {
  one = x;
  other = y;
  has_one = has_first x (y ∷ behind);
  has_other = has_behind x (y ∷ behind) y (has_first y behind);
  stamp_of_one = refl;
  stamp_of_other = another.0;
  differ = λ same. another.1 (sym same);
}

-- what is seen of the next edit tells whether it is another of the stamp
pub another_next : (x y : PlaneEdit) (behind : List PlaneEdit) → Some y ≡ slice_get behind 0 → y.stamp ≡ x.stamp → y ≢ x → IsAnotherNext x behind
another_next x y [] first same differ = absurd (cc)
another_next x y (z ∷ behind) first same differ =
    let is : z ≡ y = cc in (ap (λ (e : PlaneEdit). e.stamp) is ∙ same, (λ (again : z ≡ x). differ (sym is ∙ again)))

pub same_next : (x y : PlaneEdit) (behind : List PlaneEdit) → Some y ≡ slice_get behind 0 → y ≡ x → IsAnotherNext x behind → ⊥
same_next x y [] first same another = another
same_next x y (z ∷ behind) first same another = (let is : z ≡ y = cc in another.1 (is ∙ same))

pub clash_found : (sorted left behind : List PlaneEdit) (x : PlaneEdit) (stamp : ℕ) → IsLeft sorted left → left ≡ x ∷ behind → IsAnotherNext x behind → stamp ≡ x.stamp → ClashesWithin sorted stamp
clash_found sorted left behind x stamp l is another at =
    let now : IsLeft sorted (x ∷ behind) = subst (IsLeft sorted) is l in
    subst (ClashesWithin sorted) (sym at) (record {
      here = now.here x.stamp (two_first x behind another);
      least = λ less below two. (let there : HasTwoAt (x ∷ behind) less = now.there less two in omega (arith, below, there.stamp_of_one, least_first x behind there.one now.rising there.has_one));
    })

pub none_left : (sorted left : List PlaneEdit) → IsLeft sorted left → left ≡ [] → HasNoTwo sorted
none_left sorted left l none stamp two = (let there : HasTwoAt [] stamp = subst (λ (m : List PlaneEdit). HasTwoAt m stamp) none (l.there stamp two) in none_held there.one there.has_one)

-- ---- each stamp once

abbrev pub same_stamp : PlaneEdit → PlaneEdit → Bool
same_stamp e f = e.stamp == f.stamp

record IsFrom (k : PlaneEdit) (xs set : List PlaneEdit) : Type 0 where
  up : IsAscending set
  same : HaveSameEdits set (k ∷ xs)
  above : (n : ℕ) → n < k.stamp → AreAbove n set

none_behind : (x : PlaneEdit) (xs : List PlaneEdit) → HasNoTwo (x ∷ xs) → HasNoTwo xs
none_behind x xs none stamp two = none stamp (two_behind x xs stamp two)

-- the edits of a list without the second, which is the same as the first
second_out : (k x : PlaneEdit) (xs : List PlaneEdit) (e : PlaneEdit) → x ≡ k → Contains (k ∷ xs) e ↔ Contains (k ∷ x ∷ xs) e
second_out k x xs e one = (there, back)
  where
    there : Contains (k ∷ xs) e → Contains (k ∷ x ∷ xs) e
    there has = elim (held_cases k xs e has) [
      | inl is ↦ subst (Contains (k ∷ x ∷ xs)) is (has_first k (x ∷ xs))
      | inr behind ↦ has_behind k (x ∷ xs) e (has_behind x xs e behind)
    ]

    back : Contains (k ∷ x ∷ xs) e → Contains (k ∷ xs) e
    back has = elim (held_cases k (x ∷ xs) e has) [
      | inl is ↦ subst (Contains (k ∷ xs)) is (has_first k xs)
      | inr behind ↦ elim (held_cases x xs e behind) [
        | inl is ↦ subst (Contains (k ∷ xs)) (sym one ∙ is) (has_first k xs)
        | inr there ↦ has_behind k xs e there
      ]
    ]

first_kept : (k : PlaneEdit) (xs set : List PlaneEdit) (e : PlaneEdit) → HaveSameEdits set xs → Contains (k ∷ set) e ↔ Contains (k ∷ xs) e
first_kept k xs set e same = (there, back)
  where
    there : Contains (k ∷ set) e → Contains (k ∷ xs) e
    there has = elim (held_cases k set e has) [ inl is ↦ subst (Contains (k ∷ xs)) is (has_first k xs) | inr behind ↦ has_behind k xs e ((same e).0 behind) ]

    back : Contains (k ∷ xs) e → Contains (k ∷ set) e
    back has = elim (held_cases k xs e has) [ inl is ↦ subst (Contains (k ∷ set)) is (has_first k set) | inr behind ↦ has_behind k set e ((same e).1 behind) ]

rising_out : (k x : PlaneEdit) (xs : List PlaneEdit) → IsRising (k ∷ x ∷ xs) → IsRising (k ∷ xs)
unfolding IsRising
rising_out k x xs rising = ((λ e has. rising.0 e (has_behind x xs e has)), rising.1.1)

one_again : (k x : PlaneEdit) (xs : List PlaneEdit) → HasNoTwo (k ∷ x ∷ xs) → x.stamp ≡ k.stamp → x ≡ k
one_again k x xs none at = elim (cases_Bool (is_edit x k)) [
  | inl is ↦ one_edit x k is
  | inr differ ↦ absurd (none k.stamp (record {
    one = x;
    other = k;
    has_one = has_behind k (x ∷ xs) x (has_first x xs);
    has_other = has_first k (x ∷ xs);
    stamp_of_one = at;
    stamp_of_other = refl;
    differ = two_edits x k differ;
  }))
]

none_out : (k x : PlaneEdit) (xs : List PlaneEdit) → x ≡ k → HasNoTwo (k ∷ x ∷ xs) → HasNoTwo (k ∷ xs)
none_out k x xs one none stamp two = none stamp (record {
  one = two.one;
  other = two.other;
  has_one = (second_out k x xs two.one one).0 two.has_one;
  has_other = (second_out k x xs two.other one).0 two.has_other;
  stamp_of_one = two.stamp_of_one;
  stamp_of_other = two.stamp_of_other;
  differ = two.differ;
})

from_is : (k : PlaneEdit) (xs : List PlaneEdit) → IsRising (k ∷ xs) → HasNoTwo (k ∷ xs) → IsFrom k xs (dedup_from same_stamp k xs)
from_is k [] rising none = record { up = (tt, tt); same = λ e. ((λ has. has), (λ has. has)); above = λ n less. (less, tt) }
from_is k (x ∷ xs) rising none = elim (cases_Bool (x.stamp == k.stamp)) [
  | inl same ↦ (let one : x ≡ k = one_again k x xs none (eqb-true x.stamp k.stamp same) in
      let rest : IsFrom k xs (dedup_from same_stamp k xs) = from_is k xs (rising_out k x xs rising) (none_out k x xs one none) in
      rw same (record { up = rest.up; same = λ e. ((λ has. (second_out k x xs e one).0 ((rest.same e).0 has)), (λ has. (rest.same e).1 ((second_out k x xs e one).1 has))); above = rest.above }))
  | inr other ↦ (let least : k.stamp ≤ x.stamp = least_first k (x ∷ xs) x rising (has_behind k (x ∷ xs) x (has_first x xs)) in
      let apart : x.stamp ≢ k.stamp = λ at. (let yes : (x.stamp == k.stamp) ≡ true = eq-eqb x.stamp k.stamp at in cc) in
      let less : k.stamp < x.stamp = omega (arith, least, apart) in
      let rest : IsFrom x xs (dedup_from same_stamp x xs) = from_is x xs (rising_behind k (x ∷ xs) rising) (none_behind k (x ∷ xs) none) in
      rw other (record { up = (rest.above k.stamp less, rest.up); same = λ e. first_kept k (x ∷ xs) (dedup_from same_stamp x xs) e rest.same; above = λ n below. (below, rest.above n (omega (arith, below, less))) }))
]

set_is : (xs : List PlaneEdit) → IsRising xs → HasNoTwo xs → IsSetOf xs (dedup same_stamp xs)
set_is [] rising none = record { ascending = tt; same = λ e. ((λ has. has), (λ has. has)) }
set_is (x ∷ xs) rising none = (let from : IsFrom x xs (dedup_from same_stamp x xs) = from_is x xs rising none in record { ascending = from.up; same = from.same })

-- ---- the same of the edits before they were sorted

set_before : (edits sorted set : List PlaneEdit) → IsPermutation edits sorted → IsSetOf sorted set → IsSetOf edits set
set_before edits sorted set moved is = record {
  ascending = is.ascending;
  same = λ e. (
    (λ has. Contains-permutation sorted edits e (IsPermutation-sym edits sorted moved) ((is.same e).0 has)),
    (λ has. (is.same e).1 (Contains-permutation edits sorted e moved has)),
  );
}

two_moved : (xs ys : List PlaneEdit) (stamp : ℕ) → IsPermutation xs ys → HasTwoAt xs stamp → HasTwoAt ys stamp
two_moved xs ys stamp moved two = record {
  one = two.one;
  other = two.other;
  has_one = Contains-permutation xs ys two.one moved two.has_one;
  has_other = Contains-permutation xs ys two.other moved two.has_other;
  stamp_of_one = two.stamp_of_one;
  stamp_of_other = two.stamp_of_other;
  differ = two.differ;
}

pub set_found : (edits sorted set : List PlaneEdit) → IsPermutation edits sorted → IsNonDecreasingBy (λ (e : PlaneEdit). e.stamp) sorted → HasNoTwo sorted → set ≡ dedup same_stamp sorted → IsSetOf edits set
set_found edits sorted set moved rising none is =
    set_before edits sorted set moved (subst (IsSetOf sorted) (sym is) (set_is sorted (rises sorted rising) none))

pub clash_before : (edits sorted : List PlaneEdit) (stamp : ℕ) → IsPermutation edits sorted → ClashesWithin sorted stamp → ClashesWithin edits stamp
clash_before edits sorted stamp moved clashes = record {
  here = two_moved sorted edits stamp (IsPermutation-sym edits sorted moved) clashes.here;
  least = λ less below two. clashes.least less below (two_moved edits sorted less moved two);
}
