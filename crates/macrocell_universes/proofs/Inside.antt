-- Places of a root, by its columns and rows, and by those of a universe.
use Rattle.std.proofs.Common.{◌≡◌, ◌≢◌, ℕ, zero, suc, ◌+◌, ◌-◌, ◌*◌, ◌^◌, ◌≤◌, ◌<◌, Bool, true, false, List, refl, sym, ◌∙◌, ap, arith, subst, inl, inr, ℤ, pos, negsuc, pow-suc}
use Rattle.std.specs.Prelude.{◌&&◌, ◌⊎◌, ◌+ℤ◌, ◌-ℤ◌, nat_abs, int_le, int_lt, if◌then◌else◌}
use Rattle.std.proofs.lemmas.Bool.{and_parts, and_from, cases_lt}
use Rattle.std.proofs.lemmas.Bool.Decides.{nat_tests}
use Rattle.std.proofs.lemmas.Int.{ints}
use Rattle.generations_rule.specs.Place.{Place}
use Rattle.edit_stamps.specs.Plane.{is_coordinate_in_plane, is_in_plane}
use Rattle.macrocell_lines.specs.Middle.{half_universe}
use Rattle.macrocell_lines.specs.Roots.{half_side, is_in_root}
use Rattle.macrocell_lines.specs.Squares.{StateSquare, level_of, state_in}
use Rattle.macrocell_text.specs.Maps.{column_in_root, map_of_root, row_in_root}
use Rattle.macrocell_text.proofs.MapLaws.{count_of, from_left, from_top, to_bottom, to_right}
use Rattle.macrocell_universes.specs.Middles.{place_at}

-- a place of a root with half so many columns and rows, by column and row
pub record IsInside (half : ℕ) (c : Place) (u v : ℕ) : Type 0 where
  pub column : c.x +ℤ pos half ≡ pos u
  pub row : (c.y -ℤ pos 1) +ℤ pos half ≡ pos v
  pub wide : u < half + half
  pub high : v < half + half

pub inside : (k : ℕ) (c : Place) → is_in_root k c ≡ true → (u : ℕ) × ((v : ℕ) × IsInside (2 ^ (k - 1)) c u v)
inside k c e =
    let half : ℕ = 2 ^ (k - 1) in
    let sides = and_parts (int_le (pos 0 -ℤ pos half) c.x && int_lt c.x (pos half)) _ e in
    let x' = and_parts (int_le (pos 0 -ℤ pos half) c.x) (int_lt c.x (pos half)) sides.0 in
    let y' = and_parts (int_le (pos 1 -ℤ pos half) c.y) (int_lt c.y (pos half +ℤ pos 1)) sides.1 in
    let u = count_of (c.x +ℤ pos half) (from_left c.x half x'.0) in
    let v = count_of ((c.y -ℤ pos 1) +ℤ pos half) (from_top c.y half y'.0) in
    (u.count, (v.count, record { column = u.is; row = v.is; wide = to_right c.x u.count half u.is x'.1; high = to_bottom c.y v.count half v.is y'.1 }))

left_in : (x : ℤ) (n half : ℕ) → x +ℤ pos half ≡ pos n → int_le (pos 0 -ℤ pos half) x ≡ true
left_in x n half e = grind (arith, ints, nat_tests, e)

right_in : (x : ℤ) (n half : ℕ) → x +ℤ pos half ≡ pos n → n < half + half → int_lt x (pos half) ≡ true
right_in x n half e h = grind (arith, ints, nat_tests, e, h)

top_in : (y : ℤ) (n half : ℕ) → (y -ℤ pos 1) +ℤ pos half ≡ pos n → int_le (pos 1 -ℤ pos half) y ≡ true
top_in y n half e = grind (arith, ints, nat_tests, e)

bottom_in : (y : ℤ) (n half : ℕ) → (y -ℤ pos 1) +ℤ pos half ≡ pos n → n < half + half → int_lt y (pos half +ℤ pos 1) ≡ true
bottom_in y n half e h = grind (arith, ints, nat_tests, e, h)

pub inside_root : (k : ℕ) (c : Place) (u v : ℕ) → IsInside (2 ^ (k - 1)) c u v → is_in_root k c ≡ true
inside_root k c u v i =
    let half : ℕ = 2 ^ (k - 1) in
    and_from _ _ (and_from _ _ (left_in c.x u half i.column) (right_in c.x u half i.column i.wide)) (and_from _ _ (top_in c.y v half i.row) (bottom_in c.y v half i.row i.high))

-- the state at a place of a root
pub read_inside : (q : StateSquare) (k : ℕ) (c : Place) (u v : ℕ) → level_of q ≡ k → IsInside (2 ^ (k - 1)) c u v → map_of_root q c ≡ state_in q u v
read_inside q k c u v level i =
    let here = inside_root k c u v i in
    let there : is_in_root (level_of q) c ≡ true = ap (λ l. is_in_root l c) level ∙ here in
    let p : map_of_root q c ≡ state_in q (column_in_root (level_of q) c) (row_in_root (level_of q) c) = rw there refl in
    p ∙ (λ j. state_in q (column_in_root (level j) c) (row_in_root (level j) c)) ∙ (λ j. state_in q (nat_abs (i.column j)) (nat_abs (i.row j)))

-- and outside it
pub read_outside : (q : StateSquare) (k : ℕ) (c : Place) → level_of q ≡ k → is_in_root k c ≡ false → map_of_root q c ≡ 0
read_outside q k c level out = let there : is_in_root (level_of q) c ≡ false = ap (λ l. is_in_root l c) level ∙ out in rw there refl

pub half_above : (k : ℕ) → 1 ≤ k → 2 ^ k ≡ 2 ^ (k - 1) + 2 ^ (k - 1)
half_above k some =
    let e : k ≡ suc (k - 1) = omega (arith, some) in
    let f : 2 ^ k ≡ 2 ^ (k - 1) * 2 = ap (λ l. 2 ^ l) e ∙ pow-suc 2 (k - 1) in
    omega (arith, f)

-- ---- a root in a universe

module _ (q : StateSquare) (k half : ℕ) (level : level_of q ≡ k) (is : half ≡ 2 ^ (k - 1)) (few : half ≤ half_universe) where
  pub read_at : (u w : ℕ) → u < half + half → w < half + half → map_of_root q (place_at (half_universe - half + u) (half_universe - half + suc w)) ≡ state_in q u w
  read_at u w hu hw = read_inside q k (place_at (half_universe - half + u) (half_universe - half + suc w)) u w level (subst (λ h. IsInside h (place_at (half_universe - half + u) (half_universe - half + suc w)) u w) is
      (record { column = omega (arith, ints, few); row = omega (arith, ints, few); wide = hu; high = hw }))

  by_place : (u v : ℕ) → ((x y : ℕ) → IsInside half (place_at u v) x y → ⊥) → map_of_root q (place_at u v) ≡ 0
  by_place u v never = by (is_in_root k (place_at u v)) refl
    where
      by : (b : Bool) → is_in_root k (place_at u v) ≡ b → map_of_root q (place_at u v) ≡ 0
      by true e = (let i = inside k (place_at u v) e in absurd (never i.0 i.1.0 (subst (λ h. IsInside h (place_at u v) i.0 i.1.0) (sym is) i.1.1)))
      by false e = read_outside q k (place_at u v) level e

  pub dead_left : (u v : ℕ) → u < half_universe - half → map_of_root q (place_at u v) ≡ 0
  dead_left u v h = by_place u v (λ x y i. let e = i.column in omega (arith, ints, h, e))

  pub dead_right : (u v : ℕ) → half_universe + half ≤ u → map_of_root q (place_at u v) ≡ 0
  dead_right u v h = by_place u v (λ x y i. let e = i.column in let w = i.wide in omega (arith, ints, h, e, w))

  pub dead_above : (u v : ℕ) → v ≤ half_universe - half → map_of_root q (place_at u v) ≡ 0
  dead_above u v h = by_place u v (λ x y i. let e = i.row in omega (arith, ints, h, e, few))

  pub dead_below : (u v : ℕ) → half_universe + half < v → map_of_root q (place_at u v) ≡ 0
  dead_below u v h = by_place u v (λ x y i. let e = i.row in let w = i.high in omega (arith, ints, h, e, w))

-- ---- the plane

plane_in : (half : ℕ) (x : ℤ) → 2147483648 ≤ half → is_coordinate_in_plane x ≡ true → (int_le (pos 0 -ℤ pos half) x ≡ true) × (int_lt x (pos half) ≡ true)
plane_in half x wide h =
    let both = and_parts (int_le (negsuc (2 ^ 30 - 1)) x) (int_lt x (pos (2 ^ 30))) h in
    let l = both.0 in let r = both.1 in
    (grind (arith, ints, nat_tests, wide, l), grind (arith, ints, nat_tests, wide, r))

plane_rows : (half : ℕ) (y : ℤ) → 2147483648 ≤ half → is_coordinate_in_plane y ≡ true → (int_le (pos 1 -ℤ pos half) y ≡ true) × (int_lt y (pos half +ℤ pos 1) ≡ true)
plane_rows half y wide h =
    let both = and_parts (int_le (negsuc (2 ^ 30 - 1)) y) (int_lt y (pos (2 ^ 30))) h in
    let l = both.0 in let r = both.1 in
    (grind (arith, ints, nat_tests, wide, l), grind (arith, ints, nat_tests, wide, r))

-- the plane lies in a root of 2^32 columns or more
pub plane_in_root : (k : ℕ) (c : Place) → 2147483648 ≤ 2 ^ (k - 1) → is_in_plane c ≡ true → is_in_root k c ≡ true
plane_in_root k c wide h =
    let half : ℕ = 2 ^ (k - 1) in
    let both = and_parts (is_coordinate_in_plane c.x) (is_coordinate_in_plane c.y) h in
    let x = plane_in half c.x wide both.0 in let y = plane_rows half c.y wide both.1 in
    and_from _ _ (and_from _ _ x.0 x.1) (and_from _ _ y.0 y.1)
