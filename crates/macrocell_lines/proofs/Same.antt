-- Squares are told apart exactly; what stands in lists of them, and of what is made of them.
use Rattle.std.proofs.Common.{◌≡◌, ℕ, suc, ◌+◌, arith, Bool, true, false, cond, eqb, List, [], ◌∷◌, ◌++◌, length, refl, sym, ap, subst, ◌∙◌, Some, map}
use Rattle.std.specs.Prelude.{◌||◌, Decides, slice_get}
use Rattle.std.specs.List.{list_any, position_or_len}
use Rattle.std.proofs.lemmas.Bool.{and_parts, and_from, eq-eqb, eqb-true}
use Rattle.std.proofs.lemmas.List.Folds.{position_or_len_push}
use Rattle.square_store.proofs.Lists.{any_missing, got_append, got_last}
use Rattle.macrocell_lines.specs.Squares.{StateSquare, Cell, Four, is_same}

same_is : (a b : StateSquare) → is_same a b ≡ true → a ≡ b
same_is (Cell s) (Cell t) h = ap Cell (eqb-true _ _ h)
same_is (Cell s) (Four e f g i) h = absurd (cc)
same_is (Four a b c d) (Cell t) h = absurd (cc)
same_is (Four a b c d) (Four e f g i) h =
    let x = and_parts (is_same a e) _ h in
    let y = and_parts (is_same b f) _ x.1 in
    let z = and_parts (is_same c g) (is_same d i) y.1 in
    let p = same_is a e x.0 in
    let q = same_is b f y.0 in
    let r = same_is c g z.0 in
    let s = same_is d i z.1 in
    λ j. Four (p j) (q j) (r j) (s j)

same_self : (a : StateSquare) → is_same a a ≡ true
same_self (Cell s) = eq-eqb s s refl
same_self (Four a b c d) = and_from _ _ (same_self a) (and_from _ _ (same_self b) (and_from _ _ (same_self c) (same_self d)))

-- the test of squares is exact
pub square_same : (p q : StateSquare) → Decides (is_same p q) (p ≡ q)
square_same p q = (same_is p q, λ e. subst (λ (z : StateSquare). is_same p z ≡ true) e (same_self p))

pub same_tests : (a b : Bool) → (a ≡ true → b ≡ true) → (b ≡ true → a ≡ true) → a ≡ b
same_tests true true f g = refl
same_tests true false f g = sym (f refl)
same_tests false true f g = g refl
same_tests false false f g = refl

module _ {T : Type 0} (eq : T → T → Bool) (same : (a b : T) → Decides (eq a b) (a ≡ b)) where
  stands_go : (x q : T) (xs : List T) (b : Bool) → eq q x ≡ b → (b || list_any (eq q) xs) ≡ true
      → (list_any (eq q) xs ≡ true → slice_get xs (position_or_len (eq q) xs) ≡ Some q) → slice_get (x ∷ xs) (position_or_len (eq q) (x ∷ xs)) ≡ Some q
  stands_go x q xs true e h rest = rw e (ap (λ z. Some z) (sym ((same q x).0 e)))
  stands_go x q xs false e h rest = let one : 1 + position_or_len (eq q) xs ≡ suc (position_or_len (eq q) xs) = omega arith in rw (e, one) (rest h)

  -- what is listed stands at its place
  pub stands_at_place : (xs : List T) (q : T) → list_any (eq q) xs ≡ true → slice_get xs (position_or_len (eq q) xs) ≡ Some q
  stands_at_place [] q h = absurd (cc)
  stands_at_place (x ∷ xs) q h = stands_go x q xs (eq q x) refl h (stands_at_place xs q)

  -- what stands in a list is listed
  pub listed_where_it_stands : (xs : List T) (n : ℕ) (q : T) → slice_get xs n ≡ Some q → list_any (eq q) xs ≡ true
  listed_where_it_stands xs n q at = go (list_any (eq q) xs) refl
    where
      go : (b : Bool) → list_any (eq q) xs ≡ b → b ≡ true
      go true e = refl
      go false e = absurd (any_missing eq same q xs e n at)

  place_go : (x q : T) (xs more : List T) (b : Bool) → eq q x ≡ b → (b || list_any (eq q) xs) ≡ true
      → (list_any (eq q) xs ≡ true → position_or_len (eq q) (xs ++ more) ≡ position_or_len (eq q) xs) → position_or_len (eq q) ((x ∷ xs) ++ more) ≡ position_or_len (eq q) (x ∷ xs)
  place_go x q xs more true e h rest = rw e refl
  place_go x q xs more false e h rest = rw e (ap (λ n. 1 + n) (rest h))

  -- the place of what is listed is the same in a longer list
  pub same_place : (xs more : List T) (q : T) → list_any (eq q) xs ≡ true → position_or_len (eq q) (xs ++ more) ≡ position_or_len (eq q) xs
  same_place [] more q h = absurd (cc)
  same_place (x ∷ xs) more q h = place_go x q xs more (eq q x) refl h (same_place xs more q)

  -- what is listed stays so in a longer list
  pub still_listed : (xs more : List T) (q : T) → list_any (eq q) xs ≡ true → list_any (eq q) (xs ++ more) ≡ true
  still_listed xs more q h = listed_where_it_stands (xs ++ more) (position_or_len (eq q) xs) q (got_append xs more (position_or_len (eq q) xs) q (stands_at_place xs q h))

  -- what is put last is listed, at the place that it was sought at
  pub now_listed : (xs : List T) (q : T) → list_any (eq q) (xs ++ q ∷ []) ≡ true
  now_listed xs q = listed_where_it_stands (xs ++ q ∷ []) (length xs) q (got_last xs q)

  pub place_last : (xs : List T) (q : T) → position_or_len (eq q) (xs ++ q ∷ []) ≡ position_or_len (eq q) xs
  place_last xs q = position_or_len_push (eq q) xs q ∙ go (eqb (position_or_len (eq q) xs) (length xs)) refl (eq q q) ((same q q).1 refl)
    where
      go : (b : Bool) → eqb (position_or_len (eq q) xs) (length xs) ≡ b → (c : Bool) → c ≡ true → cond b (length xs + cond c 0 1) (position_or_len (eq q) xs) ≡ position_or_len (eq q) xs
      go true e true h = let is = eqb-true _ _ e in omega (arith, is)
      go true e false h = absurd (cc)
      go false e c h = refl

-- a test of what is made of items, which agrees with a test of the items
module _ {S T : Type 0} (f : T → Bool) (h : S → Bool) (g : S → T) where
  abbrev pub Agree : List S → Type 0
  Agree xs = (i : ℕ) (x : S) → slice_get xs i ≡ Some x → f (g x) ≡ h x

  pub any_of_made : (xs : List S) → Agree xs → list_any f (map g xs) ≡ list_any h xs
  any_of_made [] agree = refl
  any_of_made (x ∷ xs) agree = ap (λ b. b || list_any f (map g xs)) (agree 0 x refl) ∙ ap (λ b. h x || b) (any_of_made xs (λ i y at. agree (suc i) y at))

  pub place_of_made : (xs : List S) → Agree xs → position_or_len f (map g xs) ≡ position_or_len h xs
  place_of_made [] agree = refl
  place_of_made (x ∷ xs) agree = go (h x) refl (place_of_made xs (λ i y at. agree (suc i) y at))
    where
      go : (b : Bool) → h x ≡ b → position_or_len f (map g xs) ≡ position_or_len h xs → position_or_len f (map g (x ∷ xs)) ≡ position_or_len h (x ∷ xs)
      go true e rest = let d = agree 0 x refl ∙ e in rw (d, e) refl
      go false e rest = let d = agree 0 x refl ∙ e in rw (d, e) (ap (λ n. 1 + n) rest)

pub map_same : {S T : Type 0} (f g : S → T) (xs : List S) → ((i : ℕ) (x : S) → slice_get xs i ≡ Some x → f x ≡ g x) → map f xs ≡ map g xs
map_same f g [] agree = refl
map_same f g (x ∷ xs) agree = let e = agree 0 x refl in let r = map_same f g xs (λ i y at. agree (suc i) y at) in λ j. e j ∷ r j
