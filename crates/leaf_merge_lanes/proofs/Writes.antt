-- Lists of writes in lanes.
use Rattle.std.proofs.Common.{◌≡◌, ℕ, zero, suc, ◌<◌, Bool, true, false, cond, ltb, leb, eqb, eqb-true, eq-eqb, ◌||◌, ◌&&◌, List, [], ◌∷◌, length, get_or, max, replicate, refl, sym, ap, ◌∙◌, arith, lit<, ltb-true, ltb-false, ◌↔◌, IsTrue}
use Rattle.std.specs.Prelude.{◌≤◌, slice_get, slice_set, Some, EachIndex, SomeIndex}
use Rattle.std.proofs.lemmas.Bool.{leb-true, leb-false, le-leb}
use Rattle.std.proofs.lemmas.Simd.{length-zip2, get_or-zip2}
use Rattle.std.proofs.lemmas.List.{ext_get_or, get_or-replicate, length-replicate}
use lib.Lanes.{zip2}
use Rattle.stamped_writes.specs.declared.write.Write.{Write}
use Rattle.stamped_writes.specs.Write.{at_most, greater, unwritten}
use Rattle.leaf_merge_lanes.specs.Lanes.{HasLanes}
use Rattle.leaf_merge_lanes.specs.Leaf.{write_of, write_on_leaf, AreBlank, AreMerged, AreAtMost, IsLeastOfStamps, IsGreatestOfStamps}
use Rattle.leaf_merge_lanes.specs.Same.{is_same, same_Decides}

-- a write of lanes
pub get-zip : (xs ys : List ℕ) (i : ℕ) → i < length xs → i < length ys → slice_get (zip2 write_of xs ys) i ≡ Some (write_of (get_or xs i 0) (get_or ys i 0))
get-zip [] ys i p q = absurd (omega arith)
get-zip (x ∷ xs) [] i p q = absurd (omega arith)
get-zip (x ∷ xs) (y ∷ ys) zero p q = refl
get-zip (x ∷ xs) (y ∷ ys) (suc i) p q = get-zip xs ys i (omega arith) (omega arith)

-- a write put into lanes
pub set-zip : (xs ys : List ℕ) (i a b : ℕ) → length xs ≡ length ys → zip2 write_of (slice_set xs i a) (slice_set ys i b) ≡ slice_set (zip2 write_of xs ys) i (write_of a b)
set-zip [] ys i a b p = refl
set-zip (x ∷ xs) [] i a b p = absurd (omega arith)
set-zip (x ∷ xs) (y ∷ ys) zero a b p = refl
set-zip (x ∷ xs) (y ∷ ys) (suc i) a b p = ap (λ l. write_of x y ∷ l) (set-zip xs ys i a b (omega arith))

-- a leaf has as many writes as lanes
pub length-leaf : (xs ys : List ℕ) (writes : List Write) → length xs ≡ 64 → length ys ≡ 64 → zip2 write_of xs ys ≡ writes → length writes ≡ 64
length-leaf xs ys writes p q e = ap length (sym e) ∙ length-zip2 write_of xs ys (p ∙ sym q) ∙ p

-- the write at a place, by its lanes
pub at-zip : (xs ys : List ℕ) (writes : List Write) → length xs ≡ 64 → length ys ≡ 64 → zip2 write_of xs ys ≡ writes
    → (i : ℕ) → i < 64 → write_on_leaf writes i ≡ write_of (get_or xs i 0) (get_or ys i 0)
at-zip xs ys writes p q e i h = ap (λ l. get_or l i unwritten) (sym e) ∙ get_or-zip2 write_of xs ys i 0 0 unwritten (omega arith) (omega arith)

-- its stamp
pub stamp-zip : (xs ys : List ℕ) (writes : List Write) → length xs ≡ 64 → length ys ≡ 64 → zip2 write_of xs ys ≡ writes
    → (i : ℕ) → i < 64 → (write_on_leaf writes i).stamp ≡ get_or xs i 0
stamp-zip xs ys writes p q e i h = ap (λ (w : Write). w.stamp) (at-zip xs ys writes p q e i h)

-- bounds of the lanes are bounds of the writes
pub least_stamp : (xs ys : List ℕ) (writes : List Write) (t : ℕ) → length xs ≡ 64 → length ys ≡ 64 → zip2 write_of xs ys ≡ writes
    → EachIndex xs (λ i. t ≤ get_or xs i 0) → SomeIndex xs (λ i. t ≡ get_or xs i 0) → IsLeastOfStamps writes t
least_stamp xs ys writes t p q e below (k, l, r) =
    let lt : k < 64 = omega arith in
    record {
      below = λ i h. let s = stamp-zip xs ys writes p q e i h in let b = below i (omega arith) in omega (arith, s, b);
      reached = (k, lt, r ∙ sym (stamp-zip xs ys writes p q e k lt));
    }

pub greatest_stamp : (xs ys : List ℕ) (writes : List Write) (t : ℕ) → length xs ≡ 64 → length ys ≡ 64 → zip2 write_of xs ys ≡ writes
    → EachIndex xs (λ i. get_or xs i 0 ≤ t) → SomeIndex xs (λ i. t ≡ get_or xs i 0) → IsGreatestOfStamps writes t
greatest_stamp xs ys writes t p q e above (k, l, r) =
    let lt : k < 64 = omega arith in
    record {
      above = λ i h. let s = stamp-zip xs ys writes p q e i h in let b = above i (omega arith) in omega (arith, s, b);
      reached = (k, lt, r ∙ sym (stamp-zip xs ys writes p q e k lt));
    }

-- as many times one write is that write at every place
pub blank_places : (t : ℕ) → AreBlank (replicate 64 (write_of t 0)) t
blank_places t i h = get_or-replicate 64 i (write_of t 0) unwritten h

-- a leaf that is blank at every place is that list
pub blank_list : (writes : List Write) (t : ℕ) → length writes ≡ 64 → AreBlank writes t → writes ≡ replicate 64 (write_of t 0)
blank_list writes t l blank = ext_get_or unwritten writes (replicate 64 (write_of t 0)) (l ∙ sym (length-replicate 64 (write_of t 0)))
    (λ i h. let lt : i < 64 = omega arith in blank i lt ∙ sym (blank_places t i lt))

-- a leaf that is not the blank one of its first stamp is blank with no stamp
pub not_blank : (xs ys : List ℕ) (writes made : List Write) → length xs ≡ 64 → length ys ≡ 64 → zip2 write_of xs ys ≡ writes
    → made ≡ replicate 64 (write_of (get_or xs 0 0) 0) → is_same writes made ≡ false → (t : ℕ) → AreBlank writes t → ⊥
not_blank xs ys writes made p q e is_made differs t blank =
    let first = blank 0 (lit< tt) in
    let stamp : t ≡ get_or xs 0 0 = sym (ap (λ (w : Write). w.stamp) first) ∙ stamp-zip xs ys writes p q e 0 (lit< tt) in
    let same : writes ≡ made = blank_list writes t (length-leaf xs ys writes p q e) blank ∙ ap (λ z. replicate 64 (write_of z 0)) stamp ∙ sym is_made in
    let yes : is_same writes made ≡ true = (same_Decides writes made).1 same in
    let clash : true ≡ false = sym yes ∙ differs in
    cc

-- the greater write, stamp and state apart
greater_parts : (s t s' t' : ℕ) → write_of (max s s') (max (cond (ltb s s') 0 t) (cond (ltb s' s) 0 t')) ≡ greater (write_of s t) (write_of s' t')
greater_parts s t s' t' = go (ltb s s') (ltb s' s) (eqb s s') (leb t t') refl refl refl refl
  where
    go : (p q e r : Bool) → ltb s s' ≡ p → ltb s' s ≡ q → eqb s s' ≡ e → leb t t' ≡ r
        → write_of (max s s') (max (cond p 0 t) (cond q 0 t')) ≡ cond (p || (e && r)) (write_of s' t') (write_of s t)
    go true true e r lt gt eq le = let h = ltb-true _ _ lt in let h' = ltb-true _ _ gt in absurd (omega arith)
    go true false e r lt gt eq le = let h = ltb-true _ _ lt in let m : max s s' ≡ s' = omega arith in let n : max 0 t' ≡ t' = omega arith in rw (m, n)
    go false true true r lt gt eq le = let h = eqb-true _ _ eq in let h' = ltb-true _ _ gt in absurd (omega arith)
    go false true false r lt gt eq le = let h = ltb-true _ _ gt in let m : max s s' ≡ s = omega arith in let n : max t 0 ≡ t = omega arith in rw (m, n)
    go false false false r lt gt eq le = let h = ltb-false _ _ lt in let h' = ltb-false _ _ gt in let h'' = eq-eqb s s' (omega arith) in cc
    go false false true true lt gt eq le = let h = eqb-true _ _ eq in let h' = leb-true _ _ le in let m : max s s' ≡ s' = omega arith in let n : max t t' ≡ t' = omega arith in rw (m, n)
    go false false true false lt gt eq le = let h = eqb-true _ _ eq in let h' = leb-false _ _ le in let m : max s s' ≡ s = omega arith in let n : max t t' ≡ t = omega arith in rw (m, n)

-- lanes merged apart are the writes merged
pub merged : (us xs bs ys ss xs' ys' ts : List ℕ) → length us ≡ 64 → length xs ≡ 64 → length bs ≡ 64 → length ys ≡ 64
    → HasLanes ss (λ i. max (get_or us i 0) (get_or bs i 0))
    → HasLanes xs' (λ i. cond (ltb (get_or us i 0) (get_or bs i 0)) 0 (get_or xs i 0))
    → HasLanes ys' (λ i. cond (ltb (get_or bs i 0) (get_or us i 0)) 0 (get_or ys i 0))
    → HasLanes ts (λ i. max (get_or xs' i 0) (get_or ys' i 0))
    → zip2 write_of ss ts ≡ zip2 greater (zip2 write_of us xs) (zip2 write_of bs ys)
merged us xs bs ys ss xs' ys' ts p q r s S X Y T =
    let w = unwritten in
    let left : length (zip2 write_of us xs) ≡ 64 = length-zip2 write_of us xs (p ∙ sym q) ∙ p in
    let right : length (zip2 write_of bs ys) ≡ 64 = length-zip2 write_of bs ys (r ∙ sym s) ∙ r in
    let whole : length (zip2 write_of ss ts) ≡ 64 = length-zip2 write_of ss ts (S.len ∙ sym T.len) ∙ S.len in
    ext_get_or w _ _ (whole ∙ sym (length-zip2 greater _ _ (left ∙ sym right) ∙ left)) (λ i h.
    let lt : i < 64 = omega arith in
    let mine : get_or (zip2 write_of us xs) i w ≡ write_of (get_or us i 0) (get_or xs i 0) = get_or-zip2 write_of us xs i 0 0 w (omega arith) (omega arith) in
    let theirs : get_or (zip2 write_of bs ys) i w ≡ write_of (get_or bs i 0) (get_or ys i 0) = get_or-zip2 write_of bs ys i 0 0 w (omega arith) (omega arith) in
    let made : get_or (zip2 write_of ss ts) i w ≡ write_of (get_or ss i 0) (get_or ts i 0) = get_or-zip2 write_of ss ts i 0 0 w (omega (arith, S.len)) (omega (arith, T.len)) in
    let both : get_or (zip2 greater (zip2 write_of us xs) (zip2 write_of bs ys)) i w ≡ greater (get_or (zip2 write_of us xs) i w) (get_or (zip2 write_of bs ys) i w) = get_or-zip2 greater _ _ i w w w (omega arith) (omega arith) in
    rw (made, both, mine, theirs, S.lanes i lt, T.lanes i lt, X.lanes i lt, Y.lanes i lt) (greater_parts (get_or us i 0) (get_or xs i 0) (get_or bs i 0) (get_or ys i 0)))

-- the whole merge holds the greater write at each place
pub merged_places : (a b merged : List Write) → length a ≡ 64 → length b ≡ 64 → merged ≡ zip2 greater a b → AreMerged a b merged
merged_places a b merged p q e i h = ap (λ l. get_or l i unwritten) e ∙ get_or-zip2 greater a b i unwritten unwritten unwritten (omega arith) (omega arith)

-- a write is at most itself
at_most-refl : (w : Write) → at_most w w ≡ true
at_most-refl w = go (ltb w.stamp w.stamp)
  where
    go : (t : Bool) → (t || (eqb w.stamp w.stamp && leb w.state w.state)) ≡ true
    go true = refl
    go false = let e : eqb w.stamp w.stamp ≡ true = eq-eqb _ _ refl in let l : leb w.state w.state ≡ true = le-leb _ _ (omega arith) in rw (e, l)

-- where the greater write is the second, the first is at most it
greater_second : (v w : Write) → greater v w ≡ w → at_most v w ≡ true
greater_second v w g = go (at_most v w) refl g
  where
    go : (t : Bool) → at_most v w ≡ t → cond t w v ≡ w → at_most v w ≡ true
    go true e h = e
    go false e h = ap (λ z. at_most z w) h ∙ at_most-refl w

-- a merge leaves the second as it is where the first is at most it
pub at_most_merged : (a b : List Write) → length a ≡ 64 → length b ≡ 64 → IsTrue (is_same (zip2 greater a b) b) ↔ AreAtMost a b
at_most_merged a b p q = (
  λ h i l. let e = (same_Decides (zip2 greater a b) b).0 h in
      greater_second (write_on_leaf a i) (write_on_leaf b i) (sym (merged_places a b (zip2 greater a b) p q refl i l) ∙ ap (λ w. write_on_leaf w i) e),
  λ h. (same_Decides (zip2 greater a b) b).1 (ext_get_or unwritten (zip2 greater a b) b (length-zip2 greater a b (p ∙ sym q) ∙ p ∙ sym q) (λ i l.
      let lt : i < 64 = let e = length-zip2 greater a b (p ∙ sym q) in omega arith in
      merged_places a b (zip2 greater a b) p q refl i lt ∙ ap (λ t. cond t (write_on_leaf b i) (write_on_leaf a i)) (h i lt))),
)
