-- No two live cells of a square stand at one place.
use Rattle.std.proofs.Common.{◌≡◌, ◌≢◌, ℕ, zero, suc, ◌+◌, ◌-◌, ◌/◌, ◌^◌, ◌≤◌, ◌<◌, Bool, true, false, cond, List, [], ◌∷◌, ◌++◌, refl, sym, ◌∙◌, ap, arith, length, get_or, map, inl, inr, pos}
use Rattle.std.specs.Prelude.{Option, Some, None, Ok, ◌==◌, ◌⊎◌, ◌-ℤ◌, All, AllPairs, Contains, count_by, if◌then◌else◌}
use Rattle.std.specs.Ordering.{int_eq}
use Rattle.std.proofs.lemmas.Bool.{and_from, and_parts, eq-eqb, eqb-true}
use Rattle.std.proofs.lemmas.Bool.Decides.{Decides-int_eq}
use Rattle.std.proofs.lemmas.Int.{ints}
use Rattle.std.proofs.lemmas.List.Elements.{All-append, All-contains, All-map, Contains-append_cases, Contains-get_or}
use Rattle.std.proofs.lemmas.List.Kept.{AllPairs-cons}
use Rattle.std.proofs.lemmas.List.Recursion.{is_count_by}
use Rattle.std.proofs.lemmas.List.Sorted.{sum_by-IsPermutation}
use Rattle.generations_rule.specs.Place.{Place, is_place}
use Rattle.pattern_cells.specs.declared.cell.Cell.{Cell}
use Rattle.pattern_cells.specs.Cells.{place_of}
use Rattle.macrocell_lines.specs.Squares.{StateSquare, Cell as CellSquare, Four, level_of}
use Rattle.macrocell_lines.specs.Listing.{IsSquare}
use Rattle.macrocell_text.specs.LiveCells.{LiveCell, cells_of_root, live_cells, placed}
use Rattle.macrocell_text.specs.Macrocells.{MacrocellTold}
use Rattle.macrocell_text.specs.Maps.{map_of_squares, root_of_squares}
use Rattle.macrocell_text.specs.Laws.{ListsEachPlaceOnce, ListsNoPlaceTwice}
use Rattle.macrocell_text.specs.Texts.{macrocell_read}
use Rattle.macrocell_text.proofs.LiveLaws.{halved, only_live}
use Rattle.macrocell_text.proofs.MapLaws.{lists_only_map, lists_whole_map}
use Rattle.macrocell_text.proofs.SquaresRead.{tells_squares}

-- ---- pairs of items

first_in : {X : Type 0} (x : X) (xs : List X) → Contains (x ∷ xs) x
first_in x xs = (0, omega arith, refl)

later_in : {X : Type 0} (x y : X) (xs : List X) → Contains xs y → Contains (x ∷ xs) y
later_in x y xs h = (suc h.0, omega (arith, h.1), h.2)

module _ {X : Type 0} (R : X → X → Type 0) where
  rest_apart : (x : X) (xs : List X) → AllPairs R (x ∷ xs) → AllPairs R xs
  rest_apart x xs p i j d less within = p (suc i) (suc j) d (omega (arith, less)) (omega (arith, within))

  first_apart : (x : X) (xs : List X) → AllPairs R (x ∷ xs) → All (R x) xs
  first_apart x xs p k d within = p 0 (suc k) d (omega arith) (omega (arith, within))

  both_apart : (xs ys : List X) → AllPairs R xs → AllPairs R ys → ((x y : X) → Contains xs x → Contains ys y → R x y) → AllPairs R (xs ++ ys)
  both_apart [] ys p q r = q
  both_apart (x ∷ xs) ys p q r =
      AllPairs-cons R x (xs ++ ys) (All-append (R x) xs ys (first_apart x xs p) (λ k d within. r x (get_or ys k d) (first_in x xs) (Contains-get_or ys k d within)))
      (both_apart xs ys (rest_apart x xs p) q (λ a b ha hb. r a b (later_in x a xs ha) hb))

map_apart : {X Y : Type 0} (R : X → X → Type 0) (S : Y → Y → Type 0) (f : X → Y) → ((a b : X) → R a b → S (f a) (f b)) → (xs : List X) → AllPairs R xs → AllPairs S (map f xs)
map_apart R S f h [] p = λ i j d less within. absurd (omega (arith, within))
map_apart R S f h (x ∷ xs) p =
    AllPairs-cons S (f x) (map f xs) (All-map (S (f x)) f xs (λ k d within. h x (get_or xs k d) (first_apart R x xs p k d within))) (map_apart R S f h xs (rest_apart R x xs p))

-- ---- live cells

-- two cells do not stand in one column and one row
abbrev IsApart : LiveCell → LiveCell → Type 0
IsApart a b = a.column ≡ b.column → a.row ≡ b.row → ⊥

-- two squares beside each other
module _ (k : ℕ) (a b : StateSquare) (side column row : ℕ) (half : side / 2 ≡ 2 ^ k) (ha : IsSquare k a) (hb : IsSquare k b) where
  in_rows : (x : LiveCell) → Contains (live_cells (side / 2) a column row ++ live_cells (side / 2) b (column + side / 2) row) x → (row ≤ x.row) × (x.row < row + side / 2)
  in_rows x h = elim (Contains-append_cases (live_cells (side / 2) a column row) _ x h) [
    | inl left ↦ (let p = only_live k a (side / 2) column row x half ha left in let t = p.top in let s = p.bottom in (t, omega (arith, s, half)))
    | inr right ↦ (let p = only_live k b (side / 2) (column + side / 2) row x half hb right in let t = p.top in let s = p.bottom in (t, omega (arith, s, half)))
  ]

  columns_apart : (x y : LiveCell) → Contains (live_cells (side / 2) a column row) x → Contains (live_cells (side / 2) b (column + side / 2) row) y → IsApart x y
  columns_apart x y hx hy e f =
      let p = only_live k a (side / 2) column row x half ha hx in
      let q = only_live k b (side / 2) (column + side / 2) row y half hb hy in
      let r = p.right in let l = q.left in
      omega (arith, r, l, half, e)

pub cells_apart : (k : ℕ) (q : StateSquare) (side column row : ℕ) → side ≡ 2 ^ k → IsSquare k q → AllPairs IsApart (live_cells side q column row)
cells_apart zero (CellSquare s) side column row e is = by (s == 0)
  where
    by : (b : Bool) → (let cells : List LiveCell = if b then [] else record { column = column; row = row; state = s } ∷ [] in AllPairs IsApart cells)
    by true = λ i j d less within. absurd (omega (arith, within))
    by false = λ i j d less within. absurd (omega (arith, less, within))
cells_apart zero (Four a b c d) side column row e is = absurd is
cells_apart (suc k) (CellSquare s) side column row e is = absurd is
cells_apart (suc k) (Four a b c d) side column row e is =
    let half = halved k side e in
    let nw = cells_apart k a (side / 2) column row half is.0 in
    let ne = cells_apart k b (side / 2) (column + side / 2) row half is.1.0 in
    let sw = cells_apart k c (side / 2) column (row + side / 2) half is.1.1.0 in
    let se = cells_apart k d (side / 2) (column + side / 2) (row + side / 2) half is.1.1.1 in
    both_apart IsApart (live_cells (side / 2) a column row ++ live_cells (side / 2) b (column + side / 2) row) (live_cells (side / 2) c column (row + side / 2) ++ live_cells (side / 2) d (column + side / 2) (row + side / 2))
    (both_apart IsApart (live_cells (side / 2) a column row) (live_cells (side / 2) b (column + side / 2) row) nw ne (columns_apart k a b side column row half is.0 is.1.0))
    (both_apart IsApart (live_cells (side / 2) c column (row + side / 2)) (live_cells (side / 2) d (column + side / 2) (row + side / 2)) sw se (columns_apart k c d side column (row + side / 2) half is.1.1.0 is.1.1.1))
    (λ x y hx hy f g.
    (let above = in_rows k a b side column row half is.0 is.1.0 x hx in
    let below = in_rows k c d side column (row + side / 2) half is.1.1.0 is.1.1.1 y hy in
    omega (arith, above, below, g)))

-- ---- places

same_column : (m n half : ℕ) → pos m -ℤ pos half ≡ pos n -ℤ pos half → m ≡ n
same_column m n half e = grind (arith, ints, e)

same_row : (m n half : ℕ) → pos (suc m) -ℤ pos half ≡ pos (suc n) -ℤ pos half → m ≡ n
same_row m n half e = grind (arith, ints, e)

places_apart : (half : ℕ) (a b : LiveCell) → IsApart a b → place_of (placed half a) ≢ place_of (placed half b)
places_apart half a b h e = h (same_column a.column b.column half (ap (λ (p : Place). p.x) e)) (same_row a.row b.row half (ap (λ (p : Place). p.y) e))

root_apart : (o : Option StateSquare) → ((q : StateSquare) → o ≡ Some q → (1 ≤ level_of q) × IsSquare (level_of q) q) → AllPairs (λ a b. place_of a ≢ place_of b) (cells_of_root o)
root_apart None are = λ i j d less within. absurd (omega (arith, within))
root_apart (Some q) are =
    map_apart IsApart (λ a b. place_of a ≢ place_of b) (placed (2 ^ (level_of q - 1))) (places_apart (2 ^ (level_of q - 1))) (live_cells (2 ^ level_of q) q 0 0)
    (cells_apart (level_of q) q (2 ^ level_of q) 0 0 refl (are q refl).1)

pub lists_no_place_twice : ListsNoPlaceTwice
lists_no_place_twice text told e = root_apart (root_of_squares told.squares) (λ q at. tells_squares text told e (length told.squares - 1) q at)

-- ---- how many cells stand at a place

abbrev count_at : {X : Type 0} → (X → Bool) → List X → ℕ
count_at p [] = 0
count_at p (x ∷ xs) = cond (p x) (1 + count_at p xs) (count_at p xs)

counted : {X : Type 0} (p : X → Bool) (xs : List X) → count_at p xs ≡ count_by p xs
counted p xs = is_count_by (count_at p) p refl (λ x xs. refl) xs

in_rest : {X : Type 0} (x y : X) (xs : List X) → Contains (x ∷ xs) y → (x ≡ y) ⊎ Contains xs y
in_rest x y xs h = go h.0 h.1 h.2
  where
    go : (k : ℕ) → k < length (x ∷ xs) → get_or (x ∷ xs) k y ≡ y → (x ≡ y) ⊎ Contains xs y
    go zero within is = inl is
    go (suc k) within is = inr (k, omega (arith, within), is)

module _ {X : Type 0} (p : X → Bool) where
  none_more : (x : X) (xs : List X) (b : Bool) → p x ≡ b → (p x ≡ true → ⊥) → count_at p xs ≡ 0 → count_at p (x ∷ xs) ≡ 0
  none_more x xs true e fails rest = absurd (fails e)
  none_more x xs false e fails rest = rw e rest

  none_at : (xs : List X) → ((x : X) → Contains xs x → p x ≡ true → ⊥) → count_at p xs ≡ 0
  none_at [] h = refl
  none_at (x ∷ xs) h = none_more x xs (p x) refl (h x (first_in x xs)) (none_at xs (λ y at. h y (later_in x y xs at)))

  one_more : (x y : X) (xs : List X) (b : Bool) → p x ≡ b → AllPairs (λ a b. p a ≡ true → p b ≡ true → ⊥) (x ∷ xs) → (x ≡ y) ⊎ Contains xs y → p y ≡ true → (Contains xs y → count_at p xs ≡ 1) → count_at p (x ∷ xs) ≡ 1
  one_more x y xs true e apart at passes rest =
      let none : count_at p xs ≡ 0 = none_at xs (λ z there is. All-contains (λ b. p x ≡ true → p b ≡ true → ⊥) xs z (first_apart (λ a b. p a ≡ true → p b ≡ true → ⊥) x xs apart) there e is) in
      rw e (omega (arith, none))
  one_more x y xs false e apart at passes rest = rw e (elim at [
    | inl same ↦ absurd (let h = sym e ∙ ap p same ∙ passes in cc)
    | inr there ↦ rest there
  ])

  one_at : (xs : List X) (y : X) → AllPairs (λ a b. p a ≡ true → p b ≡ true → ⊥) xs → Contains xs y → p y ≡ true → count_at p xs ≡ 1
  one_at [] y apart at passes = absurd (omega (arith, at.1))
  one_at (x ∷ xs) y apart at passes =
      one_more x y xs (p x) refl apart (in_rest x y xs at) passes (λ there. one_at xs y (rest_apart (λ a b. p a ≡ true → p b ≡ true → ⊥) x xs apart) there passes)

place_is : (c d : Place) → is_place c d ≡ true → c ≡ d
place_is c d h =
    let both = and_parts (int_eq c.x d.x) (int_eq c.y d.y) h in
    let ex = (Decides-int_eq c.x d.x).0 both.0 in
    let ey = (Decides-int_eq c.y d.y).0 both.1 in
    λ i. record { x = ex i; y = ey i }

place_self : (c : Place) → is_place c c ≡ true
place_self c = and_from _ _ ((Decides-int_eq c.x c.x).1 refl) ((Decides-int_eq c.y c.y).1 refl)

module _ (text : List ℕ) (told : MacrocellTold) (c : Place) (e : macrocell_read text ≡ Ok told) where
  abbrev is_here : Cell → Bool
  is_here cell = is_place c (place_of cell)

  abbrev listed : List Cell
  listed = cells_of_root (root_of_squares told.squares)

  none_here : map_of_squares told.squares c ≡ 0 → count_at is_here listed ≡ 0
  none_here dead = none_at is_here listed (λ cell at here.
      let is = lists_only_map text told cell e at in
      is.1 (sym is.0 ∙ ap (λ d. map_of_squares told.squares d) (sym (place_is c (place_of cell) here)) ∙ dead))

  one_here : map_of_squares told.squares c ≢ 0 → count_at is_here listed ≡ 1
  one_here live =
      let apart = lists_no_place_twice text told e in
      one_at is_here listed (record { x = c.x; y = c.y; state = map_of_squares told.squares c })
      (λ i j d less within ha hb. apart i j d less within (sym (place_is c (place_of (get_or listed i d)) ha) ∙ place_is c (place_of (get_or listed j d)) hb))
      (lists_whole_map text told c e live) (place_self c)

  counts_here : count_at is_here listed ≡ (if map_of_squares told.squares c == 0 then 0 else 1)
  counts_here = by (map_of_squares told.squares c == 0) refl
    where
      by : (b : Bool) → (map_of_squares told.squares c == 0) ≡ b → count_at is_here listed ≡ (if b then 0 else 1)
      by true g = none_here (eqb-true (map_of_squares told.squares c) 0 g)
      by false g = one_here (λ z. (let h = sym g ∙ eq-eqb (map_of_squares told.squares c) 0 z in cc))

pub lists_each_place_once : ListsEachPlaceOnce
lists_each_place_once text told cells c e are =
    sum_by-IsPermutation (λ cell. cond (is_place c (place_of cell)) 1 0) (cells_of_root (root_of_squares told.squares)) cells are.all
    ∙ sym (counted (λ cell. is_place c (place_of cell)) (cells_of_root (root_of_squares told.squares)))
    ∙ counts_here text told c e
