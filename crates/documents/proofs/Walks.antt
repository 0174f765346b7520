-- Walks over two sets of edits.
use Rattle.std.proofs.Common.{◌≡◌, ◌≢◌, inl, inr, ◌<◌, ◌+◌, ℕ, true, false, List, [], ◌∷◌, ◌++◌, length, refl, sym, ap, subst, ◌∙◌, arith, append_assoc}
use Rattle.std.specs.Prelude.{Some, None}
use Rattle.std.proofs.lemmas.Bool.{cases_Bool}
use Rattle.std.proofs.lemmas.List.{append-nil}
use Rattle.edit_stamps.specs.Edit.{PlaneEdit, is_edit}
use Rattle.edit_stamps.specs.OneEdit.{tells_edits}
use Rattle.documents.specs.declared.walk.Next.{Next}
use Rattle.documents.specs.declared.walk.Next.TheVariants.{Left, Right, Both}
use Rattle.documents.specs.Sets.{Agree, AreAbove, Clashes, DifferAt, IsAscending, IsUnion, edit_at}
use Rattle.documents.specs.Walk.{AreTwo, IsBeforeFirst, IsFirstEdit, IsNext, IsOneEdit}
use Rattle.documents.specs.Results.{IsUnited}
use Rattle.documents.proofs.SetLaws.{above_weaker, none_below, read_behind, read_first}
use Rattle.documents.proofs.Unions.{ascending_union, union_both, union_is, union_left, union_none, union_of, union_right}

-- ---- what is one edit and what is not

pub one_edit : (e f : PlaneEdit) → is_edit e f ≡ true → e ≡ f
one_edit e f test = (tells_edits e f).0 test

pub two_edits : (e f : PlaneEdit) → is_edit e f ≡ false → e ≢ f
two_edits e f test same = (let yes : is_edit e f ≡ true = (tells_edits e f).1 same in cc)

-- ---- steps

pub above_by_first : (n : ℕ) (xs : List PlaneEdit) → IsBeforeFirst n xs → IsAscending xs → AreAbove n xs
above_by_first n [] first up = tt
above_by_first n (x ∷ xs) first up = (first, above_weaker n x.stamp xs (omega (arith, first)) up.0)

-- a step leaves less
pub gets_shorter : (l r more rest : List PlaneEdit) (next : Next) → IsNext l r next more rest → length more + length rest < length l + length r
gets_shorter l r more rest (Left e) is = omega (arith, ap length is.0, ap length is.1)
gets_shorter l r more rest (Right e) is = omega (arith, ap length is.0, ap length is.1)
gets_shorter l r more rest (Both e f) is = omega (arith, ap length is.0, ap length is.1)

-- a stamp at which an edit is read of those above another
past : (n : ℕ) (xs : List PlaneEdit) (stamp : ℕ) (e : PlaneEdit) → AreAbove n xs → edit_at xs stamp ≡ Some e → n ≢ stamp
past n xs stamp e above read same = (let none : edit_at xs stamp ≡ None = none_below n xs stamp above (omega (arith, same)) in absurd (cc))

-- where two sets read the same, they differ at the same stamps
differ_by_reads : (a b l r : List PlaneEdit) (stamp : ℕ) → edit_at a stamp ≡ edit_at l stamp → edit_at b stamp ≡ edit_at r stamp → DifferAt a b stamp → DifferAt l r stamp
differ_by_reads a b l r stamp e f d = record { one = d.one; other = d.other; in_a = sym e ∙ d.in_a; in_b = sym f ∙ d.in_b; differ = d.differ }

-- ---- what was passed over

-- both lists are sets, and differ at the same stamps as the whole ones
pub record IsPassed (a b l r : List PlaneEdit) : Type 0 where
  pub left_up : IsAscending l
  pub right_up : IsAscending r
  pub there : (stamp : ℕ) → DifferAt a b stamp → DifferAt l r stamp
  pub here : (stamp : ℕ) → DifferAt l r stamp → DifferAt a b stamp

pub none_passed : (a b : List PlaneEdit) → IsAscending a → IsAscending b → IsPassed a b a b
none_passed a b up also = record { left_up = up; right_up = also; there = λ stamp d. d; here = λ stamp d. d }

past_left : (a b l r : List PlaneEdit) (x : PlaneEdit) → AreAbove x.stamp r → IsPassed a b (x ∷ l) r → IsPassed a b l r
past_left a b l r x above w = record {
  left_up = w.left_up.1;
  right_up = w.right_up;
  there = λ stamp d. (let e : DifferAt (x ∷ l) r stamp = w.there stamp d in
      differ_by_reads (x ∷ l) r l r stamp (read_behind x l stamp (past x.stamp r stamp e.other above e.in_b)) refl e);
  here = λ stamp d. w.here stamp (differ_by_reads l r (x ∷ l) r stamp (sym (read_behind x l stamp (past x.stamp r stamp d.other above d.in_b))) refl d);
}

past_right : (a b l r : List PlaneEdit) (y : PlaneEdit) → AreAbove y.stamp l → IsPassed a b l (y ∷ r) → IsPassed a b l r
past_right a b l r y above w = record {
  left_up = w.left_up;
  right_up = w.right_up.1;
  there = λ stamp d. (let e : DifferAt l (y ∷ r) stamp = w.there stamp d in
      differ_by_reads l (y ∷ r) l r stamp refl (read_behind y r stamp (past y.stamp l stamp e.one above e.in_a)) e);
  here = λ stamp d. w.here stamp (differ_by_reads l r l (y ∷ r) stamp refl (sym (read_behind y r stamp (past y.stamp l stamp d.one above d.in_a))) d);
}

past_both : (a b l r : List PlaneEdit) (x : PlaneEdit) → IsPassed a b (x ∷ l) (x ∷ r) → IsPassed a b l r
past_both a b l r x w = record {
  left_up = w.left_up.1;
  right_up = w.right_up.1;
  there = λ stamp d. (let e : DifferAt (x ∷ l) (x ∷ r) stamp = w.there stamp d in let other : x.stamp ≢ stamp = not_here stamp e in
      differ_by_reads (x ∷ l) (x ∷ r) l r stamp (read_behind x l stamp other) (read_behind x r stamp other) e);
  here = λ stamp d. (let other : x.stamp ≢ stamp = past x.stamp l stamp d.one w.left_up.0 d.in_a in
      w.here stamp (differ_by_reads l r (x ∷ l) (x ∷ r) stamp (sym (read_behind x l stamp other)) (sym (read_behind x r stamp other)) d));
}
  where
    not_here : (stamp : ℕ) → DifferAt (x ∷ l) (x ∷ r) stamp → x.stamp ≢ stamp
    not_here stamp e same =
        let one : Some x ≡ Some e.one = sym (read_first x l stamp same) ∙ e.in_a in
        let other : Some x ≡ Some e.other = sym (read_first x r stamp same) ∙ e.in_b in
        e.differ (cc)

moved : (a b l r more rest : List PlaneEdit) → l ≡ more → r ≡ rest → IsPassed a b l r → IsPassed a b more rest
moved a b l r more rest e f w = subst (λ (m : List PlaneEdit). IsPassed a b more m) f (subst (λ (m : List PlaneEdit). IsPassed a b m r) e w)

pub passed_on : (a b l r more rest : List PlaneEdit) (next : Next) → IsPassed a b l r → IsNext l r next more rest → IsOneEdit next → IsPassed a b more rest
passed_on a b l r more rest (Left x) w is one =
    let now : IsPassed a b (x.now ∷ more) rest = moved a b l r (x.now ∷ more) rest is.0 is.1 w in
    past_left a b more rest x.now (above_by_first x.now.stamp rest is.2 now.right_up) now
passed_on a b l r more rest (Right y) w is one =
    let now : IsPassed a b more (y.now ∷ rest) = moved a b l r more (y.now ∷ rest) is.0 is.1 w in
    past_right a b more rest y.now (above_by_first y.now.stamp more is.2 now.left_up) now
passed_on a b l r more rest (Both x y) w is one =
    let second : r ≡ x.now ∷ rest = is.1 ∙ ap (λ (f : PlaneEdit). f ∷ rest) (sym one) in
    past_both a b more rest x.now (moved a b l r (x.now ∷ more) (x.now ∷ rest) is.0 second w)

-- two different edits stand first: this is the least stamp at which the two sets differ
clash_here : (a b l r : List PlaneEdit) (x y : PlaneEdit) → IsPassed a b (x ∷ l) (y ∷ r) → x.stamp ≡ y.stamp → x ≢ y → Clashes a b x.stamp
clash_here a b l r x y w same differ = record {
  here = w.here x.stamp (record { one = x; other = y; in_a = read_first x l x.stamp refl; in_b = read_first y r x.stamp (sym same); differ = differ });
  least = λ less below d. (let e : DifferAt (x ∷ l) (y ∷ r) less = w.there less d in
      let none : edit_at (x ∷ l) less ≡ None = read_behind x l less (λ is. omega (arith, is, below)) ∙ none_below x.stamp l less w.left_up.0 (omega (arith, below)) in
      let some = e.in_a in absurd (cc));
}

pub clash_found : (a b l r more rest : List PlaneEdit) (next : Next) (stamp : ℕ) → IsPassed a b l r → IsNext l r next more rest → AreTwo next stamp → Clashes a b stamp
clash_found a b l r more rest (Left x) stamp w is two = absurd two
clash_found a b l r more rest (Right y) stamp w is two = absurd two
clash_found a b l r more rest (Both x y) stamp w is two =
    subst (Clashes a b) (sym two.0) (clash_here a b more rest x.now y.now (moved a b l r (x.now ∷ more) (y.now ∷ rest) is.0 is.1 w) is.2 two.1)

-- edits that differ at no stamp agree
agree_by_none : (a b : List PlaneEdit) → ((stamp : ℕ) → DifferAt a b stamp → ⊥) → Agree a b
agree_by_none a b none stamp e f in_a in_b = elim (cases_Bool (is_edit e f)) [
  | inl same ↦ one_edit e f same
  | inr differ ↦ absurd (none stamp (record { one = e; other = f; in_a = in_a; in_b = in_b; differ = two_edits e f differ }))
]

pub all_agree : (a b l r : List PlaneEdit) → IsPassed a b l r → l ≡ [] → r ≡ [] → Agree a b
all_agree a b l r w none also = agree_by_none a b (λ stamp d.
    (let ends : IsPassed a b [] [] = moved a b l r [] [] none also w in
    let e : DifferAt [] [] stamp = ends.there stamp d in
    let read = e.in_a in absurd (cc)))

-- ---- the union of what was passed

pub record IsWalked (a b all l r : List PlaneEdit) : Type 0 where
  pub whole : all ++ union_of l r ≡ union_of a b
  pub passed : IsPassed a b l r

pub walk_begins : (a b all : List PlaneEdit) → IsAscending a → IsAscending b → all ≡ [] → IsWalked a b all a b
walk_begins a b all up also none =
    subst (λ (l : List PlaneEdit). IsWalked a b l a b) (sym none) (record { whole = refl; passed = none_passed a b up also })

-- one edit more was passed
one_more : (all l : List PlaneEdit) (e : PlaneEdit) (rest whole : List PlaneEdit) → all ++ l ≡ whole → l ≡ e ∷ rest → (all ++ e ∷ []) ++ rest ≡ whole
one_more all l e rest whole so_far is = append_assoc all (e ∷ []) rest ∙ ap (λ (m : List PlaneEdit). all ++ m) (sym is) ∙ so_far

-- sets that agree begin with one edit
one_first : (a b l r more rest : List PlaneEdit) (next : Next) → Agree a b → IsPassed a b l r → IsNext l r next more rest → IsOneEdit next
one_first a b l r more rest (Left x) agree w is = tt
one_first a b l r more rest (Right y) agree w is = tt
one_first a b l r more rest (Both x y) agree w is = elim (cases_Bool (is_edit x.now y.now)) [
  | inl same ↦ one_edit x.now y.now same
  | inr differ ↦ (let d : DifferAt a b x.now.stamp = (clash_found a b l r more rest (Both x y) x.now.stamp w is (refl, two_edits x.now y.now differ)).here in
      absurd (d.differ (agree x.now.stamp d.one d.other d.in_a d.in_b)))
]

-- what is put behind the others is what the union of the rest begins with
first_of_union : (l r more rest : List PlaneEdit) (next : Next) (e : PlaneEdit) → IsAscending l → IsAscending r → IsNext l r next more rest → IsFirstEdit next e → union_of l r ≡ e ∷ union_of more rest
first_of_union l r more rest (Left x) e up also is first =
    ap (λ (m : List PlaneEdit). union_of m r) is.0
    ∙ ap (union_of (x.now ∷ more)) is.1
    ∙ union_left x.now more rest (above_by_first x.now.stamp rest is.2 (subst IsAscending is.1 also))
    ∙ ap (λ (f : PlaneEdit). f ∷ union_of more rest) (sym first)
first_of_union l r more rest (Right y) e up also is first =
    let ups : IsAscending (y.now ∷ rest) = subst IsAscending is.1 also in
    ap (λ (m : List PlaneEdit). union_of m r) is.0
    ∙ ap (union_of more) is.1
    ∙ union_right y.now more rest (above_by_first y.now.stamp more is.2 (subst IsAscending is.0 up)) ups.0
    ∙ ap (λ (f : PlaneEdit). f ∷ union_of more rest) (sym first)
first_of_union l r more rest (Both x y) e up also is first =
    let ups : IsAscending (y.now ∷ rest) = subst IsAscending is.1 also in
    let above : AreAbove x.now.stamp rest = subst (λ (s : ℕ). AreAbove s rest) (sym is.2) ups.0 in
    ap (λ (m : List PlaneEdit). union_of m r) is.0
    ∙ ap (union_of (x.now ∷ more)) is.1
    ∙ union_both x.now y.now more rest (sym is.2) above
    ∙ ap (λ (f : PlaneEdit). f ∷ union_of more rest) (sym first)

pub walked_on : (a b all l r more rest : List PlaneEdit) (next : Next) (e : PlaneEdit) → Agree a b → IsWalked a b all l r → IsNext l r next more rest → IsFirstEdit next e → IsWalked a b (all ++ e ∷ []) more rest
walked_on a b all l r more rest next e agree w is first = record {
  whole = one_more all (union_of l r) e (union_of more rest) (union_of a b) w.whole (first_of_union l r more rest next e w.passed.left_up w.passed.right_up is first);
  passed = passed_on a b l r more rest next w.passed is (one_first a b l r more rest next agree w.passed is);
}

pub all_walked : (a b all l r : List PlaneEdit) → IsAscending a → IsAscending b → Agree a b → IsWalked a b all l r → l ≡ [] → r ≡ [] → IsUnited a b all
all_walked a b all l r up also agree w none also_none =
    let ends : all ++ union_of [] [] ≡ union_of a b = ap (λ (m : List PlaneEdit). all ++ union_of m []) (sym none) ∙ ap (λ (m : List PlaneEdit). all ++ union_of l m) (sym also_none) ∙ w.whole in
    let is : union_of a b ≡ all = sym ends ∙ ap (λ (m : List PlaneEdit). all ++ m) union_none ∙ append-nil all in
    record {
      agree = agree;
      ascending = subst IsAscending is (ascending_union a b up);
      union = subst (IsUnion a b) is (union_is a b up also);
    }
