-- The least region of what is found, as more is added.
use Rattle.std.proofs.Common.{◌≡◌, ◌≢◌, ℕ, zero, suc, ◌+◌, ◌-◌, ◌*◌, ◌/◌, ◌%◌, ◌<◌, ◌≤◌, ◌⊎◌, Bool, true, false, Option, None, Some, inl, inr, refl, sym, ap, ◌∙◌, subst, arith, min, max}
use Rattle.std.specs.Prelude.{◌&&◌, ◌||◌, ◌==◌, not, nat_lt}
use Rattle.std.proofs.lemmas.Bool.{and_from, and_parts, cases_Bool, cases_lt, eq-eqb, eqb-true, lt-ltb, ltb-true, not-true, or_cases, or_left, or_right, true≢false}
use Rattle.std.proofs.lemmas.Bool.Decides.{nat_tests}
use Rattle.stamped_writes.specs.declared.write.Write.{Write}
use Rattle.square_store.specs.Grid.{Grid, quartered, AreSameWithin}
use Rattle.square_store.specs.Squares.{Held, side_at}
use Rattle.square_store.proofs.Quarters.{quarter_nw, quarter_ne, quarter_sw, quarter_se}
use Rattle.generation_engine.specs.declared.leaf_kind.EngineLeaf.{EngineLeaf}
use Rattle.generation_engine.specs.declared.placed.PlacedSquare.{PlacedSquare}
use Rattle.generation_engine.specs.declared.placed.PlacedQuarters.{PlacedQuarters}
use Rattle.generation_engine.specs.declared.region.Region.{Region}
use Rattle.generation_engine.specs.EngineLeaf.{leaf_grid}
use Rattle.generation_engine.specs.Extent.{IsLeastRegion, IsRegionWhere, IsWidened, is_live_on}
use Rattle.generation_engine.specs.Placed.{AreSideBySide, HasColumnsOf, IsPlacedIn, grid_of, is_live_in}
use Rattle.generation_engine.specs.Region.{has_region, is_between, is_in_region}
use Rattle.generation_engine.proofs.Beside.{along}
use Rattle.generation_engine.proofs.Seen.{between, from_between, inside, from_inside, inside_more}
use Rattle.generation_engine.proofs.Windows.{AreDeadWithin, IsDrawnLeaf}

-- ---- tests

same_test : (a b : Bool) → (a ≡ true → b ≡ true) → (b ≡ true → a ≡ true) → a ≡ b
same_test true b there back = sym (there refl)
same_test false true there back = back refl
same_test false false there back = refl

or_none : (a b : Bool) → b ≡ false → a ≡ (a || b)
or_none true b e = refl
or_none false b e = sym e

or_both : (a b c : Bool) → ((a || b) || c) ≡ (a || (b || c))
or_both true b c = refl
or_both false b c = refl

-- what is found is told by its test
pub found_by : (f g : ℕ → ℕ → Bool) (e : Option Region) → ((u v : ℕ) → f u v ≡ g u v) → IsRegionWhere f e → IsRegionWhere g e
found_by f g e same h = subst (λ (x : ℕ → ℕ → Bool). IsRegionWhere x e) (λ i. λ u v. same u v i) h

pub widened_by : (f g : ℕ → ℕ → Bool) (old new : Option Region) → ((u v : ℕ) → f u v ≡ g u v) → IsWidened f old new → IsWidened g old new
widened_by f g old new same h = subst (λ (x : ℕ → ℕ → Bool). IsWidened x old new) (λ i. λ u v. same u v i) h

-- nothing is added
pub widened_none : (f : ℕ → ℕ → Bool) (old : Option Region) → ((u v : ℕ) → f u v ≡ false) → IsWidened f old old
widened_none f old none = record { widened = λ is h. found_by is (λ u v. is u v || f u v) old (λ u v. or_none (is u v) (f u v) (none u v)) h }

-- one thing is added after another
pub widened_more : (f g : ℕ → ℕ → Bool) (old mid new : Option Region) → IsWidened f old mid → IsWidened g mid new → IsWidened (λ u v. f u v || g u v) old new
widened_more f g old mid new h k = record {
  widened = λ is start. found_by (λ u v. (is u v || f u v) || g u v) (λ u v. is u v || (f u v || g u v)) new (λ u v. or_both (is u v) (f u v) (g u v)) (k.widened (λ u v. is u v || f u v) (h.widened is start));
}

-- what is added lies in the region that was found
pub widened_inside : (f : ℕ → ℕ → Bool) (r : Region) → ((u v : ℕ) → f u v ≡ true → is_in_region r u v ≡ true) → IsWidened f (Some r) (Some r)
widened_inside f r within = record { widened = λ is h. least is h }
  where
    least : (is : ℕ → ℕ → Bool) → IsLeastRegion is r → IsLeastRegion (λ u v. is u v || f u v) r
    least is h = record {
      all = λ u v so. elim (or_cases (is u v) (f u v) so) [ inl old ↦ h.all u v old | inr new ↦ within u v new ];
      first_column = (h.first_column.0, or_left _ _ h.first_column.1);
      last_column = (h.last_column.0, h.last_column.1, or_left _ _ h.last_column.2, h.last_column.3);
      first_row = (h.first_row.0, or_left _ _ h.first_row.1);
      last_row = (h.last_row.0, h.last_row.1, or_left _ _ h.last_row.2, h.last_row.3);
    }

-- ---- a place

abbrev is_at : ℕ → ℕ → ℕ → ℕ → Bool
is_at x y u v = u == x && v == y

at_itself : (x y : ℕ) → is_at x y x y ≡ true
at_itself x y = and_from _ _ (eq-eqb x x refl) (eq-eqb y y refl)

at_place_of : (x y u v : ℕ) → is_at x y u v ≡ true → (u ≡ x) × (v ≡ y)
at_place_of x y u v h = let parts : ((u == x) ≡ true) × ((v == y) ≡ true) = and_parts _ _ h in (eqb-true u x parts.0, eqb-true v y parts.1)

abbrev region_of_place : ℕ → ℕ → Region
region_of_place x y = record { left = x; right = x + 1; top = y; bottom = y + 1 }

abbrev joined : Region → ℕ → ℕ → Region
joined r x y = record { left = min r.left x; right = max r.right (x + 1); top = min r.top y; bottom = max r.bottom (y + 1) }

pub widened_first : (x y : ℕ) → IsWidened (λ u v. u == x && v == y) None (Some (region_of_place x y))
widened_first x y = record { widened = λ is none. least is none }
  where
    least : (is : ℕ → ℕ → Bool) → ((u v : ℕ) → is u v ≡ false) → IsLeastRegion (λ u v. is u v || is_at x y u v) (region_of_place x y)
    least is none =
        let here : (is x y || is_at x y x y) ≡ true = or_right (is x y) (is_at x y x y) (at_itself x y) in
        record {
          all = λ u v so. elim (or_cases (is u v) (is_at x y u v) so) [
            | inl old ↦ absurd (true≢false (sym old ∙ none u v))
            | inr new ↦ (let e = at_place_of x y u v new in inside (region_of_place x y) u v (record { left = omega (arith, e.0); right = omega (arith, e.0); top = omega (arith, e.1); bottom = omega (arith, e.1) }))
          ];
          first_column = (y, here);
          last_column = (x, y, here, refl);
          first_row = (x, here);
          last_row = (x, y, here, refl);
        }

pub widened_at : (x y : ℕ) (r : Region) → IsWidened (λ u v. u == x && v == y) (Some r) (Some (joined r x y))
widened_at x y r = record { widened = λ is h. least is h }
  where
    least : (is : ℕ → ℕ → Bool) → IsLeastRegion is r → IsLeastRegion (λ u v. is u v || is_at x y u v) (joined r x y)
    least is h =
        let is_or : ℕ → ℕ → Bool = λ u v. is u v || is_at x y u v in
        let here : is_or x y ≡ true = or_right (is x y) (is_at x y x y) (at_itself x y) in
        record {
          all = λ u v so. elim (or_cases (is u v) (is_at x y u v) so) [
            | inl old ↦ (let i = from_inside r u v (h.all u v old) in let a = i.left in let b = i.right in let c = i.top in let d = i.bottom in
                inside (joined r x y) u v (record { left = omega (arith, a); right = omega (arith, b); top = omega (arith, c); bottom = omega (arith, d) }))
            | inr new ↦ (let e = at_place_of x y u v new in
                inside (joined r x y) u v (record { left = omega (arith, e.0); right = omega (arith, e.0); top = omega (arith, e.1); bottom = omega (arith, e.1) }))
          ];
          first_column = elim (cases_lt x r.left) [
            | inl before ↦ (let e : min r.left x ≡ x = omega (arith, before) in (y, subst (λ u. is_or u y ≡ true) (sym e) here))
            | inr behind ↦ (let e : min r.left x ≡ r.left = omega (arith, behind) in (h.first_column.0, subst (λ u. is_or u h.first_column.0 ≡ true) (sym e) (or_left _ _ h.first_column.1)))
          ];
          last_column = elim (cases_lt x r.right) [
            | inl before ↦ (let last = h.last_column.3 in (h.last_column.0, h.last_column.1, or_left _ _ h.last_column.2, omega (arith, before, last)))
            | inr behind ↦ (x, y, here, omega (arith, behind))
          ];
          first_row = elim (cases_lt y r.top) [
            | inl before ↦ (let e : min r.top y ≡ y = omega (arith, before) in (x, subst (λ v. is_or x v ≡ true) (sym e) here))
            | inr behind ↦ (let e : min r.top y ≡ r.top = omega (arith, behind) in (h.first_row.0, subst (λ v. is_or h.first_row.0 v ≡ true) (sym e) (or_left _ _ h.first_row.1)))
          ];
          last_row = elim (cases_lt y r.bottom) [
            | inl before ↦ (let last = h.last_row.3 in (h.last_row.0, h.last_row.1, or_left _ _ h.last_row.2, omega (arith, before, last)))
            | inr behind ↦ (x, y, here, omega (arith, behind))
          ];
        }

-- ---- live cells

-- what a live cell of a square is
pub record IsLive (n : ℕ) (f : Grid) (left top u v : ℕ) : Type 0 where
  pub first : left ≤ u
  pub last : u < left + n
  pub upper : top ≤ v
  pub lower : v < top + n
  pub live : (f (u - left) (v - top)).state ≢ 0

pub live_on : (n : ℕ) (f : Grid) (left top u v : ℕ) → IsLive n f left top u v → is_live_on n f left top u v ≡ true
live_on n f left top u v i = rw (between left (left + n) u i.first i.last) (rw (between top (top + n) v i.upper i.lower) (not_dead (f (u - left) (v - top)).state i.live))
  where
    not_dead : (s : ℕ) → s ≢ 0 → not (s == 0) ≡ true
    not_dead zero h = absurd (h refl)
    not_dead (suc s) h = grind (arith, nat_tests)

pub from_live : (n : ℕ) (f : Grid) (left top u v : ℕ) → is_live_on n f left top u v ≡ true → IsLive n f left top u v
from_live n f left top u v h =
    let parts : ((is_between left (left + n) u && is_between top (top + n) v) ≡ true) × (not ((f (u - left) (v - top)).state == 0) ≡ true) = and_parts _ _ h in
    let sides : (is_between left (left + n) u ≡ true) × (is_between top (top + n) v ≡ true) = and_parts _ _ parts.0 in
    let columns = from_between left (left + n) u sides.0 in
    let rows = from_between top (top + n) v sides.1 in
    record { first = columns.0; last = columns.1; upper = rows.0; lower = rows.1; live = λ e. true≢false (sym (eq-eqb (f (u - left) (v - top)).state 0 e) ∙ not-true _ parts.1) }

live_same : (n : ℕ) (f g : Grid) (left top u v : ℕ) → AreSameWithin n f g → IsLive n f left top u v → IsLive n g left top u v
live_same n f g left top u v same i =
    let a = i.first in let b = i.last in let c = i.upper in let d = i.lower in
    record { first = a; last = b; upper = c; lower = d; live = λ e. i.live (ap (λ (w : Write). w.state) (same (u - left) (v - top) (omega (arith, a, b)) (omega (arith, c, d))) ∙ e) }

-- squares that are drawn alike have the same live cells
pub live_by : (n : ℕ) (f g : Grid) (left top u v : ℕ) → AreSameWithin n f g → is_live_on n f left top u v ≡ is_live_on n g left top u v
live_by n f g left top u v same = same_test _ _
    (λ h. live_on n g left top u v (live_same n f g left top u v same (from_live n f left top u v h)))
    (λ h. live_on n f left top u v (live_same n g f left top u v (λ x y hx hy. sym (same x y hx hy)) (from_live n g left top u v h)))

pub dead_square : (n : ℕ) (f : Grid) (left top u v : ℕ) → AreDeadWithin n f → is_live_on n f left top u v ≡ false
dead_square n f left top u v dead = elim (cases_Bool (is_live_on n f left top u v)) [
  | inl h ↦ (let i = from_live n f left top u v h in let a = i.first in let b = i.last in let c = i.upper in let d = i.lower in
      absurd (i.live (dead (u - left) (v - top) (omega (arith, a, b)) (omega (arith, c, d)))))
  | inr h ↦ h
]

-- the live cells of a square lie in each region that has the square
pub live_inside : (s : Held EngineLeaf) (r own : Region) (q : PlacedSquare) (u v : ℕ) → HasColumnsOf q own → has_region r own ≡ true → is_live_in s q u v ≡ true → is_in_region r u v ≡ true
live_inside s r own q u v is has h =
    let i = from_live (side_at 8 q.level) (grid_of s q) q.corner.left q.corner.top u v h in
    let a = i.first in let b = i.last in let c = i.upper in let d = i.lower in
    let p = is.left in let p' = is.right in let z = is.top in let z' = is.bottom in
    inside r u v (inside_more r own u v has (record { left = omega (arith, a, p); right = omega (arith, b, p'); top = omega (arith, c, z); bottom = omega (arith, d, z') }))

-- ---- leaves

pub leaf_widened : (s : Held EngineLeaf) (q : PlacedSquare) (l : EngineLeaf) (old new : Option Region) → IsDrawnLeaf s q l → IsWidened (is_live_on 8 (leaf_grid l) q.corner.left q.corner.top) old new → IsWidened (is_live_in s q) old new
leaf_widened s q l old new is h =
    subst (λ n. IsWidened (is_live_on n (grid_of s q) q.corner.left q.corner.top) old new) (sym is.side)
    (widened_by (is_live_on 8 (leaf_grid l) q.corner.left q.corner.top) (is_live_on 8 (grid_of s q) q.corner.left q.corner.top) old new (λ u v. live_by 8 (leaf_grid l) (grid_of s q) q.corner.left q.corner.top u v is.drawn) h)

-- the live cells of the first places of a leaf, row by row
pub is_live_before : Grid → ℕ → ℕ → ℕ → ℕ → ℕ → Bool
is_live_before f left top i u v = is_live_on 8 f left top u v && nat_lt (8 * (v - top) + (u - left)) i

pub none_before : (f : Grid) (left top u v : ℕ) → is_live_before f left top 0 u v ≡ false
unfolding is_live_before
none_before f left top u v = elim (cases_Bool (is_live_on 8 f left top u v && nat_lt (8 * (v - top) + (u - left)) 0)) [
  | inl h ↦ (let parts : (is_live_on 8 f left top u v ≡ true) × (nat_lt (8 * (v - top) + (u - left)) 0 ≡ true) = and_parts _ _ h in let lt = ltb-true _ _ parts.1 in absurd (omega (arith, lt)))
  | inr h ↦ h
]

pub all_before : (f : Grid) (left top u v : ℕ) → is_live_before f left top 64 u v ≡ is_live_on 8 f left top u v
unfolding is_live_before
all_before f left top u v = same_test _ _ (λ h. (and_parts _ _ h).0)
    (λ h. (let i = from_live 8 f left top u v h in let a = i.first in let b = i.last in let c = i.upper in let d = i.lower in
    and_from _ _ h (lt-ltb (8 * (v - top) + (u - left)) 64 (omega (arith, a, b, c, d)))))

-- one place more
module _ (f : Grid) (left top i : ℕ) (small : i < 64) (u v : ℕ) where
  earlier : is_live_before f left top i u v ≡ true → is_live_before f left top (i + 1) u v ≡ true
  unfolding is_live_before
  earlier h =
      let parts : (is_live_on 8 f left top u v ≡ true) × (nat_lt (8 * (v - top) + (u - left)) i ≡ true) = and_parts _ _ h in
      let lt = ltb-true _ _ parts.1 in
      and_from _ _ parts.0 (lt-ltb (8 * (v - top) + (u - left)) (i + 1) (omega (arith, lt)))

  now : (f (i % 8) (i / 8)).state ≢ 0 → is_at (left + i % 8) (top + i / 8) u v ≡ true → is_live_before f left top (i + 1) u v ≡ true
  unfolding is_live_before
  now live h =
      let e = at_place_of (left + i % 8) (top + i / 8) u v h in
      let column : u - left ≡ i % 8 = omega (arith, e.0) in let row : v - top ≡ i / 8 = omega (arith, e.1) in
      let there : IsLive 8 f left top u v = record {
        first = omega (arith, e.0);
        last = omega (arith, e.0);
        upper = omega (arith, e.1);
        lower = omega (arith, e.1, small);
        live = λ z. live (sym (ap (λ x. (f x (v - top)).state) column ∙ ap (λ y. (f (i % 8) y).state) row) ∙ z);
      } in
      and_from _ _ (live_on 8 f left top u v there) (lt-ltb (8 * (v - top) + (u - left)) (i + 1) (omega (arith, column, row)))

  -- where it is no earlier place, it is this
  record IsNow : Type 0 where
    pub at : is_at (left + i % 8) (top + i / 8) u v ≡ true
    pub live : (f (i % 8) (i / 8)).state ≢ 0

  is_now : is_live_before f left top (i + 1) u v ≡ true → (is_live_before f left top i u v ≡ true) ⊎ IsNow
  unfolding is_live_before
  is_now h =
      let parts : (is_live_on 8 f left top u v ≡ true) × (nat_lt (8 * (v - top) + (u - left)) (i + 1) ≡ true) = and_parts _ _ h in
      let lt = ltb-true _ _ parts.1 in
      let k = from_live 8 f left top u v parts.0 in let a = k.first in let b = k.last in let c = k.upper in let d = k.lower in
      elim (cases_lt (8 * (v - top) + (u - left)) i) [
        | inl less ↦ inl (and_from _ _ parts.0 (lt-ltb _ _ less))
        | inr more ↦ (let column : u - left ≡ i % 8 = omega (arith, a, b, lt, more) in let row : v - top ≡ i / 8 = omega (arith, a, b, lt, more) in
            inr (record {
              at = and_from _ _ (eq-eqb u (left + i % 8) (omega (arith, a, column))) (eq-eqb v (top + i / 8) (omega (arith, c, row)));
              live = λ z. k.live (ap (λ x. (f x (v - top)).state) column ∙ ap (λ y. (f (i % 8) y).state) row ∙ z);
            }))
      ]

  pub before_live : (f (i % 8) (i / 8)).state ≢ 0 → (is_live_before f left top i u v || (u == left + i % 8 && v == top + i / 8)) ≡ is_live_before f left top (i + 1) u v
  before_live live = same_test _ _
      (λ h. elim (or_cases _ _ h) [ inl old ↦ earlier old | inr here ↦ now live here ])
      (λ h. elim (is_now h) [ inl old ↦ or_left _ _ old | inr here ↦ or_right _ _ here.at ])

  pub before_dead : (f (i % 8) (i / 8)).state ≡ 0 → is_live_before f left top i u v ≡ is_live_before f left top (i + 1) u v
  before_dead dead = same_test _ _ earlier (λ h. elim (is_now h) [ inl old ↦ old | inr here ↦ absurd (here.live dead) ])

-- ---- four squares

module _ (n : ℕ) (a b c d f : Grid) (left top : ℕ) (same : AreSameWithin (n + n) f (quartered n a b c d)) (u v : ℕ) where
  state_of : (w : Write) → u - left < n + n → v - top < n + n → quartered n a b c d (u - left) (v - top) ≡ w → (f (u - left) (v - top)).state ≡ w.state
  state_of w hu hv e = ap (λ (w : Write). w.state) (same (u - left) (v - top) hu hv ∙ e)

  east_of : left + n ≤ u → v - top < n → quartered n a b c d (u - left) (v - top) ≡ b (u - (left + n)) (v - top)
  east_of h hv = let e : n + (u - (left + n)) ≡ u - left = omega (arith, h) in subst (λ x. quartered n a b c d x (v - top) ≡ b (u - (left + n)) (v - top)) e (quarter_ne n a b c d (u - (left + n)) (v - top) hv)

  south_of : u - left < n → top + n ≤ v → quartered n a b c d (u - left) (v - top) ≡ c (u - left) (v - (top + n))
  south_of hu h = let e : n + (v - (top + n)) ≡ v - top = omega (arith, h) in subst (λ y. quartered n a b c d (u - left) y ≡ c (u - left) (v - (top + n))) e (quarter_sw n a b c d (u - left) (v - (top + n)) hu)

  both_of : left + n ≤ u → top + n ≤ v → quartered n a b c d (u - left) (v - top) ≡ d (u - (left + n)) (v - (top + n))
  both_of h k =
      let e : n + (u - (left + n)) ≡ u - left = omega (arith, h) in let e' : n + (v - (top + n)) ≡ v - top = omega (arith, k) in
      subst (λ x. quartered n a b c d x (v - top) ≡ d (u - (left + n)) (v - (top + n))) e (subst (λ y. quartered n a b c d (n + (u - (left + n))) y ≡ d (u - (left + n)) (v - (top + n))) e' (quarter_se n a b c d (u - (left + n)) (v - (top + n))))

  -- a live cell of a quarter is one of the whole
  up : (w : Write) → left ≤ u → u < left + (n + n) → top ≤ v → v < top + (n + n) → quartered n a b c d (u - left) (v - top) ≡ w → w.state ≢ 0 → is_live_on (n + n) f left top u v ≡ true
  up w h0 h1 h2 h3 e live = live_on (n + n) f left top u v (record { first = h0; last = h1; upper = h2; lower = h3; live = λ z. live (sym (state_of w (omega (arith, h0, h1)) (omega (arith, h2, h3)) e) ∙ z) })

  from_nw : is_live_on n a left top u v ≡ true → is_live_on (n + n) f left top u v ≡ true
  from_nw h =
      let i = from_live n a left top u v h in let h0 = i.first in let h1 = i.last in let h2 = i.upper in let h3 = i.lower in
      up (a (u - left) (v - top)) h0 (omega (arith, h1)) h2 (omega (arith, h3)) (quarter_nw n a b c d (u - left) (v - top) (omega (arith, h0, h1)) (omega (arith, h2, h3))) i.live

  from_ne : is_live_on n b (left + n) top u v ≡ true → is_live_on (n + n) f left top u v ≡ true
  from_ne h =
      let i = from_live n b (left + n) top u v h in let h0 = i.first in let h1 = i.last in let h2 = i.upper in let h3 = i.lower in
      up (b (u - (left + n)) (v - top)) (omega (arith, h0)) (omega (arith, h1)) h2 (omega (arith, h3)) (east_of h0 (omega (arith, h2, h3))) i.live

  from_sw : is_live_on n c left (top + n) u v ≡ true → is_live_on (n + n) f left top u v ≡ true
  from_sw h =
      let i = from_live n c left (top + n) u v h in let h0 = i.first in let h1 = i.last in let h2 = i.upper in let h3 = i.lower in
      up (c (u - left) (v - (top + n))) h0 (omega (arith, h1)) (omega (arith, h2)) (omega (arith, h3)) (south_of (omega (arith, h0, h1)) h2) i.live

  from_se : is_live_on n d (left + n) (top + n) u v ≡ true → is_live_on (n + n) f left top u v ≡ true
  from_se h =
      let i = from_live n d (left + n) (top + n) u v h in let h0 = i.first in let h1 = i.last in let h2 = i.upper in let h3 = i.lower in
      up (d (u - (left + n)) (v - (top + n))) (omega (arith, h0)) (omega (arith, h1)) (omega (arith, h2)) (omega (arith, h3)) (both_of h0 h2) i.live

  abbrev in_four : Bool
  in_four = is_live_on n a left top u v || is_live_on n b (left + n) top u v || is_live_on n c left (top + n) u v || is_live_on n d (left + n) (top + n) u v

  whole : in_four ≡ true → is_live_on (n + n) f left top u v ≡ true
  whole h = elim (or_cases _ _ h) [
    | inr last ↦ from_se last
    | inl three ↦ elim (or_cases _ _ three) [
      | inr lower ↦ from_sw lower
      | inl north ↦ elim (or_cases _ _ north) [ inl west ↦ from_nw west | inr east ↦ from_ne east ]
    ]
  ]

  parted : is_live_on (n + n) f left top u v ≡ true → in_four ≡ true
  parted h =
      let i = from_live (n + n) f left top u v h in let h0 = i.first in let h1 = i.last in let h2 = i.upper in let h3 = i.lower in
      let hu : u - left < n + n = omega (arith, h0, h1) in let hv : v - top < n + n = omega (arith, h2, h3) in
      elim (cases_lt v (top + n)) [
        | inl north ↦ elim (cases_lt u (left + n)) [
          | inl west ↦ or_left _ _ (or_left _ _ (or_left _ _ (live_on n a left top u v (record {
            first = h0;
            last = west;
            upper = h2;
            lower = north;
            live = λ z. i.live (state_of (a (u - left) (v - top)) hu hv (quarter_nw n a b c d (u - left) (v - top) (omega (arith, h0, west)) (omega (arith, h2, north))) ∙ z);
          }))))
          | inr east ↦ or_left _ _ (or_left _ _ (or_right _ _ (live_on n b (left + n) top u v (record {
            first = east;
            last = omega (arith, h1);
            upper = h2;
            lower = north;
            live = λ z. i.live (state_of (b (u - (left + n)) (v - top)) hu hv (east_of east (omega (arith, h2, north))) ∙ z);
          }))))
        ]
        | inr south ↦ elim (cases_lt u (left + n)) [
          | inl west ↦ or_left _ _ (or_right _ _ (live_on n c left (top + n) u v (record {
            first = h0;
            last = west;
            upper = south;
            lower = omega (arith, h3);
            live = λ z. i.live (state_of (c (u - left) (v - (top + n))) hu hv (south_of (omega (arith, h0, west)) south) ∙ z);
          })))
          | inr east ↦ or_right _ _ (live_on n d (left + n) (top + n) u v (record {
            first = east;
            last = omega (arith, h1);
            upper = south;
            lower = omega (arith, h3);
            live = λ z. i.live (state_of (d (u - (left + n)) (v - (top + n))) hu hv (both_of east south) ∙ z);
          }))
        ]
      ]

  pub live_quartered : in_four ≡ is_live_on (n + n) f left top u v
  live_quartered = same_test _ _ whole parted

module _ (s : Held EngineLeaf) (k left top : ℕ) (f : Grid) (q : PlacedQuarters) (put : AreSideBySide s k f left top q) where
  part : (x y : ℕ) (p : PlacedSquare) (old new : Option Region) → IsPlacedIn s k x y p → IsWidened (is_live_in s p) old new → IsWidened (is_live_on (side_at 8 k) (grid_of s p) x y) old new
  part x y p old new is h = along s k x y p (λ m x y. IsWidened (is_live_on m (grid_of s p) x y) old new) is h

  pub widened_beside : (e0 e1 e2 e3 e4 : Option Region) → IsWidened (is_live_in s q.nw) e0 e1 → IsWidened (is_live_in s q.ne) e1 e2 → IsWidened (is_live_in s q.sw) e2 e3 → IsWidened (is_live_in s q.se) e3 e4
      → IsWidened (is_live_on (side_at 8 k + side_at 8 k) f left top) e0 e4
  widened_beside e0 e1 e2 e3 e4 ha hb hc hd =
      let n = side_at 8 k in
      let two = widened_more _ _ e0 e1 e2 (part left top q.nw e0 e1 put.nw ha) (part (left + n) top q.ne e1 e2 put.ne hb) in
      let three = widened_more _ _ e0 e2 e3 two (part left (top + n) q.sw e2 e3 put.sw hc) in
      widened_by _ (is_live_on (n + n) f left top) e0 e4 (λ u v. live_quartered n (grid_of s q.nw) (grid_of s q.ne) (grid_of s q.sw) (grid_of s q.se) f left top put.same u v)
      (widened_more _ _ e0 e3 e4 three (part (left + n) (top + n) q.se e3 e4 put.se hd))
