-- The cells that are listed of a macrocell are those of its map.
use Rattle.std.proofs.Common.{◌≡◌, ◌≢◌, ℕ, zero, suc, ◌+◌, ◌-◌, ◌*◌, ◌^◌, ◌≤◌, ◌<◌, Bool, true, false, List, [], ◌∷◌, ◌++◌, refl, sym, ◌∙◌, ap, arith, length, subst, inl, inr, map, ℤ, pos, negsuc, pow-suc}
use Rattle.std.specs.Prelude.{Option, Some, None, Result, Ok, ◌&&◌, ◌⊎◌, ◌+ℤ◌, ◌-ℤ◌, nat_abs, int_le, int_lt, Contains, slice_get, if◌then◌else◌}
use Rattle.std.proofs.lemmas.Bool.{and_parts, and_from}
use Rattle.std.proofs.lemmas.Bool.Decides.{nat_tests}
use Rattle.std.proofs.lemmas.Int.{ints}
use Rattle.std.proofs.lemmas.List.Elements.{Contains-append_cases, Contains-append_left, Contains-append_right, Contains-push, Contains-push_cases}
use Rattle.generations_rule.specs.Place.{Place}
use Rattle.pattern_cells.specs.declared.cell.Cell.{Cell}
use Rattle.pattern_cells.specs.Cells.{place_of}
use Rattle.macrocell_lines.specs.Squares.{StateSquare, level_of, state_in}
use Rattle.macrocell_lines.specs.Listing.{IsSquare}
use Rattle.macrocell_lines.specs.Roots.{half_side, is_in_root}
use Rattle.macrocell_text.specs.LiveCells.{LiveCell, cells_of_root, live_cells, placed}
use Rattle.macrocell_text.specs.Macrocells.{AreSquares}
use Rattle.macrocell_text.specs.Maps.{column_in_root, map_of, map_of_root, root_of_squares, row_in_root}
use Rattle.macrocell_text.specs.Laws.{IsLiveIn, ListsOnlyMap, ListsWholeMap}
use Rattle.macrocell_text.proofs.LiveLaws.{finds_all_live_cells, finds_only_live_cells, none_in}
use Rattle.macrocell_text.proofs.SquaresRead.{tells_squares}

-- ---- lists

mapped_from : (f : LiveCell → Cell) (xs : List LiveCell) (y : Cell) → Contains (map f xs) y → (x : LiveCell) × (Contains xs x × (f x ≡ y))
mapped_from f [] y h = absurd (none_in y h)
mapped_from f (x ∷ xs) y h = elim (Contains-append_cases (f x ∷ []) (map f xs) y h) [
  | inl one ↦ elim (Contains-push_cases [] (f x) y one) [
    | inl none ↦ absurd (none_in y none)
    | inr same ↦ (x, (Contains-append_left (x ∷ []) xs x (Contains-push [] x), same))
  ]
  | inr rest ↦ (let found = mapped_from f xs y rest in (found.0, (Contains-append_right (x ∷ []) xs found.0 found.1.0, found.1.1)))
]

mapped_to : (f : LiveCell → Cell) (xs : List LiveCell) (x : LiveCell) → Contains xs x → Contains (map f xs) (f x)
mapped_to f [] x h = absurd (none_in x h)
mapped_to f (z ∷ xs) x h = elim (Contains-append_cases (z ∷ []) xs x h) [
  | inl one ↦ elim (Contains-push_cases [] z x one) [
    | inl none ↦ absurd (none_in x none)
    | inr same ↦ subst (λ y. Contains (f z ∷ map f xs) (f y)) same (Contains-append_left (f z ∷ []) (map f xs) (f z) (Contains-push [] (f z)))
  ]
  | inr rest ↦ Contains-append_right (f z ∷ []) (map f xs) (f x) (mapped_to f xs x rest)
]

-- ---- coordinates

left_of : (n half : ℕ) → int_le (pos 0 -ℤ pos half) (pos n -ℤ pos half) ≡ true
left_of n half = grind (arith, ints, nat_tests)

right_of : (n half : ℕ) → n < half + half → int_lt (pos n -ℤ pos half) (pos half) ≡ true
right_of n half h = grind (arith, ints, nat_tests, h)

top_of : (n half : ℕ) → int_le (pos 1 -ℤ pos half) (pos (suc n) -ℤ pos half) ≡ true
top_of n half = grind (arith, ints, nat_tests)

bottom_of : (n half : ℕ) → n < half + half → int_lt (pos (suc n) -ℤ pos half) (pos half +ℤ pos 1) ≡ true
bottom_of n half h = grind (arith, ints, nat_tests, h)

column_back : (n half : ℕ) → nat_abs ((pos n -ℤ pos half) +ℤ pos half) ≡ n
column_back n half = let e : (pos n -ℤ pos half) +ℤ pos half ≡ pos n = omega (arith, ints) in ap nat_abs e

row_back : (n half : ℕ) → nat_abs (((pos (suc n) -ℤ pos half) -ℤ pos 1) +ℤ pos half) ≡ n
row_back n half = let e : ((pos (suc n) -ℤ pos half) -ℤ pos 1) +ℤ pos half ≡ pos n = omega (arith, ints) in ap nat_abs e

pub double_side : (l : ℕ) → 1 ≤ l → 2 ^ l ≡ 2 ^ (l - 1) + 2 ^ (l - 1)
double_side l some =
    let e : l ≡ suc (l - 1) = omega (arith, some) in
    let f : 2 ^ l ≡ 2 ^ (l - 1) * 2 = ap (λ l. 2 ^ l) e ∙ pow-suc 2 (l - 1) in
    omega (arith, f)

-- the state of a live cell at its place
state_placed : (q : StateSquare) (x : LiveCell) → 1 ≤ level_of q → IsLiveIn (level_of q) q 0 0 x → map_of_root q (place_of (placed (2 ^ (level_of q - 1)) x)) ≡ x.state
state_placed q x some p =
    let half : ℕ = 2 ^ (level_of q - 1) in
    let two = double_side (level_of q) some in
    let wide : x.column < half + half = (let r = p.right in omega (arith, r, two)) in
    let high : x.row < half + half = (let b = p.bottom in omega (arith, b, two)) in
    let here : is_in_root (level_of q) (place_of (placed half x)) ≡ true = and_from _ _ (and_from _ _ (left_of x.column half) (right_of x.column half wide)) (and_from _ _ (top_of x.row half) (bottom_of x.row half high)) in
    let u : x.column ≡ x.column - 0 = omega arith in
    let v : x.row ≡ x.row - 0 = omega arith in
    rw here ((λ i. state_in q (column_back x.column half i) (row_back x.row half i)) ∙ (λ i. state_in q (u i) (v i)) ∙ p.state_is)

-- ---- both ways

only_root : (o : Option StateSquare) → ((q : StateSquare) → o ≡ Some q → (1 ≤ level_of q) × IsSquare (level_of q) q) → (cell : Cell) → Contains (cells_of_root o) cell → (map_of o (place_of cell) ≡ cell.state) × (cell.state ≢ 0)
only_root None are cell h = absurd (none_in cell h)
only_root (Some q) are cell h =
    let is = are q refl in
    let found = mapped_from (placed (2 ^ (level_of q - 1))) (live_cells (2 ^ level_of q) q 0 0) cell h in
    let live = finds_only_live_cells (level_of q) q 0 0 found.0 is.1 found.1.0 in
    subst (λ (y : Cell). (map_of_root q (place_of y) ≡ y.state) × (y.state ≢ 0)) found.1.1 (state_placed q found.0 is.0 live, live.live)

-- a number that is not negative
pub record IsCount (z : ℤ) : Type 0 where
  pub count : ℕ
  pub is : z ≡ pos count

pub count_of : (z : ℤ) → int_le (pos 0) z ≡ true → IsCount z
count_of (pos n) h = record { count = n; is = refl }
count_of (negsuc n) h = absurd (cc)

pub from_left : (x : ℤ) (half : ℕ) → int_le (pos 0 -ℤ pos half) x ≡ true → int_le (pos 0) (x +ℤ pos half) ≡ true
from_left x half h = grind (arith, ints, nat_tests, h)

pub from_top : (y : ℤ) (half : ℕ) → int_le (pos 1 -ℤ pos half) y ≡ true → int_le (pos 0) ((y -ℤ pos 1) +ℤ pos half) ≡ true
from_top y half h = grind (arith, ints, nat_tests, h)

pub to_right : (x : ℤ) (n half : ℕ) → x +ℤ pos half ≡ pos n → int_lt x (pos half) ≡ true → n < half + half
to_right x n half e h = grind (arith, ints, nat_tests, e, h)

pub to_bottom : (y : ℤ) (n half : ℕ) → (y -ℤ pos 1) +ℤ pos half ≡ pos n → int_lt y (pos half +ℤ pos 1) ≡ true → n < half + half
to_bottom y n half e h = grind (arith, ints, nat_tests, e, h)

pub x_back : (x : ℤ) (n half : ℕ) → x +ℤ pos half ≡ pos n → pos n -ℤ pos half ≡ x
x_back x n half e = omega (arith, ints, e)

pub y_back : (y : ℤ) (n half : ℕ) → (y -ℤ pos 1) +ℤ pos half ≡ pos n → pos (suc n) -ℤ pos half ≡ y
y_back y n half e = omega (arith, ints, e)

all_root : (q : StateSquare) (c : Place) → 1 ≤ level_of q → IsSquare (level_of q) q → (b : Bool) → is_in_root (level_of q) c ≡ b → map_of_root q c ≢ 0 →
    Contains (cells_of_root (Some q)) (record { x = c.x; y = c.y; state = map_of_root q c })
all_root q c some is false e live = absurd (live (rw e refl))
all_root q c some is true e live =
    let half : ℕ = 2 ^ (level_of q - 1) in
    let two = double_side (level_of q) some in
    let sides = and_parts (int_le (pos 0 -ℤ pos half) c.x && int_lt c.x (pos half)) _ e in
    let x' = and_parts (int_le (pos 0 -ℤ pos half) c.x) (int_lt c.x (pos half)) sides.0 in
    let y' = and_parts (int_le (pos 1 -ℤ pos half) c.y) (int_lt c.y (pos half +ℤ pos 1)) sides.1 in
    let u = count_of (c.x +ℤ pos half) (from_left c.x half x'.0) in
    let v = count_of ((c.y -ℤ pos 1) +ℤ pos half) (from_top c.y half y'.0) in
    let state : state_in q u.count v.count ≡ map_of_root q c = sym (let p : map_of_root q c ≡ state_in q (column_in_root (level_of q) c) (row_in_root (level_of q) c) = rw e refl in p ∙ (λ i. state_in q (nat_abs (u.is i)) (nat_abs (v.is i)))) in
    let wide = to_right c.x u.count half u.is x'.1 in
    let high = to_bottom c.y v.count half v.is y'.1 in
    let cu : u.count - 0 ≡ u.count = omega arith in
    let cv : v.count - 0 ≡ v.count = omega arith in
    let x : LiveCell = record { column = u.count; row = v.count; state = map_of_root q c } in
    let inside : IsLiveIn (level_of q) q 0 0 x = record {
      left = omega arith;
      right = omega (arith, wide, two);
      top = omega arith;
      bottom = omega (arith, high, two);
      state_is = (λ i. state_in q (cu i) (cv i)) ∙ state;
      live = live;
    } in
    let at : placed half x ≡ record { x = c.x; y = c.y; state = map_of_root q c } = (λ i. record { x = x_back c.x u.count half u.is i; y = y_back c.y v.count half v.is i; state = map_of_root q c }) in
    subst (λ (y : Cell). Contains (cells_of_root (Some q)) y) at (mapped_to (placed half) (live_cells (2 ^ level_of q) q 0 0) x (finds_all_live_cells (level_of q) q 0 0 x is inside))

whole_root : (o : Option StateSquare) → ((q : StateSquare) → o ≡ Some q → (1 ≤ level_of q) × IsSquare (level_of q) q) → (c : Place) → map_of o c ≢ 0 → Contains (cells_of_root o) (record { x = c.x; y = c.y; state = map_of o c })
whole_root None are c live = absurd (live refl)
whole_root (Some q) are c live = (let is = are q refl in all_root q c is.0 is.1 (is_in_root (level_of q) c) refl live)

pub lists_only_map : ListsOnlyMap
lists_only_map text told cell e h = only_root (root_of_squares told.squares) (λ q at. tells_squares text told e (length told.squares - 1) q at) cell h

pub lists_whole_map : ListsWholeMap
lists_whole_map text told c e live = whole_root (root_of_squares told.squares) (λ q at. tells_squares text told e (length told.squares - 1) q at) c live
