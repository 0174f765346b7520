-- Squares as they are seen in a region.
use Rattle.std.proofs.Common.{◌≡◌, ℕ, ◌+◌, ◌-◌, ◌<◌, ◌≤◌, true, inl, inr, refl, sym, ap, ◌∙◌, subst, arith}
use Rattle.std.specs.Prelude.{if◌then◌else◌}
use Rattle.std.proofs.lemmas.Bool.{and_parts, cases_Bool, cases_lt}
use Rattle.std.proofs.lemmas.Bool.Decides.{nat_tests}
use Rattle.stamped_writes.specs.declared.write.Write.{Write}
use Rattle.square_store.specs.Grid.{Grid, quartered, blank_grid, AreSameWithin}
use Rattle.square_store.specs.Squares.{side_at}
use Rattle.square_store.proofs.Quarters.{quarter_nw, quarter_ne, quarter_sw, quarter_se}
use Rattle.generation_engine.specs.declared.placed.PlacedSquare.{PlacedSquare}
use Rattle.generation_engine.specs.declared.region.Region.{Region}
use Rattle.generation_engine.specs.Placed.{HasColumnsOf}
use Rattle.generation_engine.specs.Region.{HaveCommon, has_region, is_between, is_in_region, seen_grid}

-- ---- regions

pub between : (a b n : ℕ) → a ≤ n → n < b → is_between a b n ≡ true
between a b n h l = grind (arith, nat_tests, h, l)

pub from_between : (a b n : ℕ) → is_between a b n ≡ true → (a ≤ n) × (n < b)
from_between a b n h = (grind (arith, nat_tests, h), grind (arith, nat_tests, h))

-- what a column and a row of a region are
pub record IsInside (r : Region) (u v : ℕ) : Type 0 where
  pub left : r.left ≤ u
  pub right : u < r.right
  pub top : r.top ≤ v
  pub bottom : v < r.bottom

pub inside : (r : Region) (u v : ℕ) → IsInside r u v → is_in_region r u v ≡ true
inside r u v h = rw (between r.left r.right u h.left h.right) (between r.top r.bottom v h.top h.bottom)

pub from_inside : (r : Region) (u v : ℕ) → is_in_region r u v ≡ true → IsInside r u v
from_inside r u v h =
    let parts : (is_between r.left r.right u ≡ true) × (is_between r.top r.bottom v ≡ true) = and_parts _ _ h in
    let columns = from_between r.left r.right u parts.0 in
    let rows = from_between r.top r.bottom v parts.1 in
    record { left = columns.0; right = columns.1; top = rows.0; bottom = rows.1 }

pub inside_more : (r q : Region) (u v : ℕ) → has_region r q ≡ true → IsInside q u v → IsInside r u v
inside_more r q u v h i =
    let a = i.left in let b = i.right in let c = i.top in let d = i.bottom in
    record {
      left = grind (arith, nat_tests, h, a);
      right = grind (arith, nat_tests, h, b);
      top = grind (arith, nat_tests, h, c);
      bottom = grind (arith, nat_tests, h, d);
    }

-- a column and a row of a square are in its region
pub own_inside : (q : PlacedSquare) (own : Region) (u v : ℕ) → HasColumnsOf q own → u < side_at 8 q.level → v < side_at 8 q.level → IsInside own (q.corner.left + u) (q.corner.top + v)
own_inside q own u v is hu hv =
    let a = is.left in let b = is.right in let c = is.top in let d = is.bottom in
    record { left = omega (arith, a); right = omega (arith, b, hu); top = omega (arith, c); bottom = omega (arith, d, hv) }

-- ---- squares

pub seen_same : (r : Region) (n left top : ℕ) (f g : Grid) → AreSameWithin n f g → AreSameWithin n (seen_grid r left top f) (seen_grid r left top g)
seen_same r n left top f g same u v hu hv = ap (λ (w : Write). if is_in_region r (left + u) (top + v) then w else blank_grid 0 u v) (same u v hu hv)

-- of a square with which the region has nothing in common nothing is seen
pub seen_apart : (r own : Region) (q : PlacedSquare) (f : Grid) → HasColumnsOf q own → (HaveCommon r own → ⊥) → AreSameWithin (side_at 8 q.level) (seen_grid r q.corner.left q.corner.top f) (blank_grid 0)
seen_apart r own q f is none u v hu hv = elim (cases_Bool (is_in_region r (q.corner.left + u) (q.corner.top + v))) [
  | inl here ↦ absurd (none (q.corner.left + u, q.corner.top + v, here, inside own (q.corner.left + u) (q.corner.top + v) (own_inside q own u v is hu hv)))
  | inr out ↦ rw out refl
]

-- a square that the region has is seen as a whole
pub seen_whole : (r own : Region) (q : PlacedSquare) (f : Grid) → HasColumnsOf q own → has_region r own ≡ true → AreSameWithin (side_at 8 q.level) (seen_grid r q.corner.left q.corner.top f) f
seen_whole r own q f is has u v hu hv = rw (inside r (q.corner.left + u) (q.corner.top + v) (inside_more r own (q.corner.left + u) (q.corner.top + v) has (own_inside q own u v is hu hv))) refl

-- a square is seen by its quarters
module _ (r : Region) (n left top : ℕ) (a b c d : Grid) where
  abbrev seen : Grid → Grid
  seen f = seen_grid r left top f

  abbrev quarters : Grid
  quarters = quartered n (seen_grid r left top a) (seen_grid r (left + n) top b) (seen_grid r left (top + n) c) (seen_grid r (left + n) (top + n) d)

  -- where a place is seen, by its column and row
  at : ℕ → ℕ → Write → Write
  at x y w = if is_in_region r x y then w else blank_grid 0 0 0

  north_west : (u v : ℕ) → u < n → v < n → seen (quartered n a b c d) u v ≡ quarters u v
  unfolding at
  north_west u v hu hv = ap (at (left + u) (top + v)) (quarter_nw n a b c d u v hu hv) ∙ sym (quarter_nw n (seen_grid r left top a) (seen_grid r (left + n) top b) (seen_grid r left (top + n) c) (seen_grid r (left + n) (top + n) d) u v hu hv)

  north_east : (u v : ℕ) → v < n → seen (quartered n a b c d) (n + u) v ≡ quarters (n + u) v
  unfolding at
  north_east u v hv =
      let column : left + (n + u) ≡ left + n + u = omega arith in
      ap (at (left + (n + u)) (top + v)) (quarter_ne n a b c d u v hv) ∙ ap (λ x. at x (top + v) (b u v)) column
      ∙ sym (quarter_ne n (seen_grid r left top a) (seen_grid r (left + n) top b) (seen_grid r left (top + n) c) (seen_grid r (left + n) (top + n) d) u v hv)

  south_west : (u v : ℕ) → u < n → seen (quartered n a b c d) u (n + v) ≡ quarters u (n + v)
  unfolding at
  south_west u v hu =
      let row : top + (n + v) ≡ top + n + v = omega arith in
      ap (at (left + u) (top + (n + v))) (quarter_sw n a b c d u v hu) ∙ ap (λ y. at (left + u) y (c u v)) row
      ∙ sym (quarter_sw n (seen_grid r left top a) (seen_grid r (left + n) top b) (seen_grid r left (top + n) c) (seen_grid r (left + n) (top + n) d) u v hu)

  south_east : (u v : ℕ) → seen (quartered n a b c d) (n + u) (n + v) ≡ quarters (n + u) (n + v)
  unfolding at
  south_east u v =
      let column : left + (n + u) ≡ left + n + u = omega arith in
      let row : top + (n + v) ≡ top + n + v = omega arith in
      ap (at (left + (n + u)) (top + (n + v))) (quarter_se n a b c d u v) ∙ ap (λ x. at x (top + (n + v)) (d u v)) column ∙ ap (λ y. at (left + n + u) y (d u v)) row
      ∙ sym (quarter_se n (seen_grid r left top a) (seen_grid r (left + n) top b) (seen_grid r left (top + n) c) (seen_grid r (left + n) (top + n) d) u v)

  pub seen_quartered : (f : Grid) → AreSameWithin (n + n) f (quartered n a b c d) → AreSameWithin (n + n) (seen f) quarters
  seen_quartered f same u v hu hv = seen_same r (n + n) left top f (quartered n a b c d) same u v hu hv ∙ elim (cases_lt v n) [
    | inl north ↦ elim (cases_lt u n) [
      | inl west ↦ north_west u v west north
      | inr east ↦ (let e : n + (u - n) ≡ u = omega (arith, east) in subst (λ x. seen (quartered n a b c d) x v ≡ quarters x v) e (north_east (u - n) v north))
    ]
    | inr south ↦ (let e' : n + (v - n) ≡ v = omega (arith, south) in elim (cases_lt u n) [
      | inl west ↦ subst (λ y. seen (quartered n a b c d) u y ≡ quarters u y) e' (south_west u (v - n) west)
      | inr east ↦ (let e : n + (u - n) ≡ u = omega (arith, east) in
          subst (λ x. seen (quartered n a b c d) x v ≡ quarters x v) e (subst (λ y. seen (quartered n a b c d) (n + (u - n)) y ≡ quarters (n + (u - n)) y) e' (south_east (u - n) (v - n))))
    ])
  ]
