-- Cells that are gathered and counted in a region.
use Rattle.std.proofs.Common.{◌≡◌, ◌≢◌, ℕ, zero, suc, ◌+◌, ◌-◌, ◌*◌, ◌/◌, ◌%◌, ◌^◌, ◌<◌, ◌≤◌, min, true, List, length, inl, inr, refl, sym, ap, ◌∙◌, subst, arith}
use Rattle.std.proofs.lemmas.Bool.{cases_Bool}
use Rattle.std.proofs.lemmas.Bool.Decides.{nat_tests}
use Rattle.std.proofs.lemmas.Nat.{mul-le}
use Rattle.stamped_writes.specs.declared.write.Write.{Write}
use Rattle.bitplane_kernel.specs.Population.{sum_from, one_unless_dead, population}
use Rattle.bitplane_kernel.proofs.KeyLemmas.{sum_of_rows}
use Rattle.square_store.specs.Grid.{Grid, quartered, AreSameWithin}
use Rattle.square_store.specs.Squares.{Held, side_at, grid_at}
use Rattle.square_store.specs.Seen.{IsBlankAt, IsLeafAt}
use Rattle.stamped_tree.specs.declared.cells.ListedCell.{ListedCell}
use Rattle.stamped_tree.specs.Walk.{IsNonzeroCell}
use Rattle.stamped_tree.proofs.Gathering.{gathers_as, gathers_four}
use Rattle.generation_engine.specs.declared.leaf_kind.EngineLeaf.{EngineLeaf}
use Rattle.generation_engine.specs.declared.placed.PlacedSquare.{PlacedSquare}
use Rattle.generation_engine.specs.declared.placed.PlacedQuarters.{PlacedQuarters}
use Rattle.generation_engine.specs.declared.region.Region.{Region}
use Rattle.generation_engine.specs.Counts.{population_at}
use Rattle.generation_engine.specs.EngineLeaf.{leaf_grid}
use Rattle.generation_engine.specs.Placed.{AreSideBySide, GathersSeen, HasColumnsOf, IsPlaced, IsPlacedIn, grid_of, seen_population}
use Rattle.generation_engine.specs.Region.{HaveCommon, has_region, is_in_region, seen_grid}
use Rattle.generation_engine.specs.Walk.{GathersSquare}
use Rattle.generation_engine.proofs.Beside.{along}
use Rattle.generation_engine.proofs.Counting.{sum_same, sum_split, sum_at_most, one_at_most, population_same, population_none, population_four, population_at_most}
use Rattle.generation_engine.proofs.Seen.{seen_apart, seen_quartered, seen_same, seen_whole}

abbrev states : Grid → ℕ → ℕ → ℕ
states f u v = (f u v).state

same_states : (n : ℕ) (f g : Grid) → AreSameWithin n f g → (u v : ℕ) → u < n → v < n → (f u v).state ≡ (g u v).state
same_states n f g same u v hu hv = ap (λ (w : Write). w.state) (same u v hu hv)

other_way : (n : ℕ) (f g : Grid) → AreSameWithin n f g → AreSameWithin n g f
other_way n f g same u v hu hv = sym (same u v hu hv)

-- ---- squares that are drawn alike

cells_same : (n : ℕ) (f g : Grid) (left top : ℕ) → AreSameWithin n f g → (c : ListedCell) → IsNonzeroCell n f left top c → IsNonzeroCell n g left top c
cells_same n f g left top same c i =
    let h = i.from_left in let h' = i.from_top in let w = i.column in let w' = i.row in
    record {
      from_left = h;
      from_top = h';
      column = w;
      row = w';
      nonzero = i.nonzero;
      state = sym (same_states n f g same (c.column - left) (c.row - top) (omega (arith, h, w)) (omega (arith, h', w'))) ∙ i.state;
    }

pub gathered_same : (n : ℕ) (f g : Grid) (left top : ℕ) (old new : List ListedCell) → AreSameWithin n f g → GathersSquare n f left top old new → GathersSquare n g left top old new
gathered_same n f g left top old new same h = record {
  gathers = gathers_as (IsNonzeroCell n f left top) (IsNonzeroCell n g left top) old new (cells_same n f g left top same) (cells_same n g f left top (other_way n f g same)) h.gathers;
  count = h.count ∙ ap (λ k. length old + k) (population_same n (λ u v. (f u v).state) (λ u v. (g u v).state) (same_states n f g same));
}

-- ---- nothing

-- all states of the first n columns and rows are 0
abbrev pub AreDeadWithin : ℕ → Grid → Type 0
AreDeadWithin n f = (u v : ℕ) → u < n → v < n → (f u v).state ≡ 0

pub dead_population : (n : ℕ) (f : Grid) → AreDeadWithin n f → population n (λ u v. (f u v).state) ≡ 0
dead_population n f dead = population_same n (λ u v. (f u v).state) (λ u v. 0) dead ∙ population_none n

-- of a dead square nothing is gathered
pub gathered_none : (n : ℕ) (f : Grid) (left top : ℕ) (old : List ListedCell) → AreDeadWithin n f → GathersSquare n f left top old old
gathered_none n f left top old dead = record {
  gathers = record {
    kept = λ c h. h;
    got = λ c i. absurd (none c i);
    only = λ c h. inl h;
    once = λ distinct apart. distinct;
  };
  count = (let none = dead_population n f dead in omega (arith, none));
}
  where
    none : (c : ListedCell) → IsNonzeroCell n f left top c → ⊥
    none c i =
        let h = i.from_left in let h' = i.from_top in let w = i.column in let w' = i.row in
        i.nonzero (sym i.state ∙ dead (c.column - left) (c.row - top) (omega (arith, h, w)) (omega (arith, h', w')))

pub seen_dead : (r : Region) (n left top : ℕ) (f : Grid) → AreDeadWithin n f → AreDeadWithin n (seen_grid r left top f)
seen_dead r n left top f dead u v hu hv = elim (cases_Bool (is_in_region r (left + u) (top + v))) [
  | inl here ↦ rw here (dead u v hu hv)
  | inr out ↦ rw out refl
]

pub apart_dead : (r own : Region) (q : PlacedSquare) (f : Grid) → HasColumnsOf q own → (HaveCommon r own → ⊥) → AreDeadWithin (side_at 8 q.level) (seen_grid r q.corner.left q.corner.top f)
apart_dead r own q f is none u v hu hv = ap (λ (w : Write). w.state) (seen_apart r own q f is none u v hu hv)

pub blank_dead : (s : Held EngineLeaf) (q : PlacedSquare) (t : ℕ) → IsBlankAt leaf_grid 8 s t q.part → AreDeadWithin (side_at 8 q.level) (grid_of s q)
blank_dead s q t blank u v hu hv = ap (λ (w : Write). w.state) ((blank q.level).same u v hu hv)

-- ---- leaves

-- how many of the first places of a leaf, row by row, are not dead
pub places_count : Grid → ℕ → ℕ
places_count f i = sum_from 0 i (λ j. one_unless_dead (f (j % 8) (j / 8)).state)

pub places_none : (f : Grid) → places_count f 0 ≡ 0
unfolding places_count sum_from
places_none f = refl

pub places_more : (f : Grid) (i : ℕ) → places_count f (i + 1) ≡ places_count f i + one_unless_dead (f (i % 8) (i / 8)).state
unfolding places_count sum_from
places_more f i =
    let start : 0 + i ≡ i = omega arith in
    sum_split 0 i 1 one ∙ last (one (0 + i)) (one i) (ap one start)
  where
    one : ℕ → ℕ
    one j = one_unless_dead (f (j % 8) (j / 8)).state

    last : (x y : ℕ) → x ≡ y → sum_from 0 i one + (x + 0) ≡ sum_from 0 i one + y
    last x y e = omega (arith, e)

pub places_few : (f : Grid) (i : ℕ) → places_count f i ≤ i
unfolding places_count
places_few f i = let h = sum_at_most 0 i 1 (λ j. one_unless_dead (f (j % 8) (j / 8)).state) (λ j. one_at_most (f (j % 8) (j / 8)).state) in omega (arith, h)

pub places_all : (f : Grid) → places_count f 64 ≡ population 8 (λ u v. (f u v).state)
unfolding places_count
places_all f = sum_of_rows (λ j. one_unless_dead (f (j % 8) (j / 8)).state) ∙ sum_same 0 8 _ _ (λ v l hv. sum_same 0 8 _ _ (λ u k hu. by_place u v (omega (arith, hu))))
  where
    by_place : (u v : ℕ) → u < 8 → one_unless_dead (f ((8 * v + u) % 8) ((8 * v + u) / 8)).state ≡ one_unless_dead (f u v).state
    by_place u v hu =
        let column : (8 * v + u) % 8 ≡ u = omega (arith, hu) in let row : (8 * v + u) / 8 ≡ v = omega (arith, hu) in
        ap (λ x. one_unless_dead (f x ((8 * v + u) / 8)).state) column ∙ ap (λ y. one_unless_dead (f u y).state) row

alive : (s : ℕ) → s ≢ 0 → one_unless_dead s ≡ 1
alive zero h = absurd (h refl)
alive (suc s) h = grind (arith, nat_tests)

-- a place is counted, unless it is dead
pub live_counted : (f : Grid) (i count s : ℕ) → count ≡ places_count f i → s ≡ (f (i % 8) (i / 8)).state → s ≢ 0 → count + 1 ≡ places_count f (i + 1)
live_counted f i count s so_far e live = let more = places_more f i in let one = ap one_unless_dead (sym e) ∙ alive s live in omega (arith, so_far, more, one)

pub dead_counted : (f : Grid) (i count s : ℕ) → count ≡ places_count f i → s ≡ (f (i % 8) (i / 8)).state → s ≡ 0 → count ≡ places_count f (i + 1)
dead_counted f i count s so_far e dead = let more = places_more f i in let none : one_unless_dead (f (i % 8) (i / 8)).state ≡ 0 = ap one_unless_dead (sym e ∙ dead) in omega (arith, so_far, more, none)

-- what a square that is a leaf is like
pub record IsDrawnLeaf (s : Held EngineLeaf) (q : PlacedSquare) (l : EngineLeaf) : Type 0 where
  pub side : side_at 8 q.level ≡ 8
  pub drawn : AreSameWithin 8 (leaf_grid l) (grid_of s q)

pub drawn_leaf : (s : Held EngineLeaf) (q : PlacedSquare) (l : EngineLeaf) → IsPlaced s q → IsLeafAt leaf_grid 8 s l q.part → IsDrawnLeaf s q l
drawn_leaf s q l placed seen =
    let level : q.level ≡ 0 = seen.level q.level placed.stands in
    record {
      side = ap (side_at 8) level ∙ omega arith;
      drawn = λ u v hu hv. sym (ap (λ j. grid_at leaf_grid 8 s j q.part u v) level ∙ seen.draws.same u v (omega (arith, hu)) (omega (arith, hv)));
    }

pub leaf_gathered : (s : Held EngineLeaf) (r : Region) (q : PlacedSquare) (l : EngineLeaf) (old new : List ListedCell) → IsDrawnLeaf s q l → GathersSquare 8 (seen_grid r q.corner.left q.corner.top (leaf_grid l)) q.corner.left q.corner.top old new → GathersSeen s r q old new
leaf_gathered s r q l old new is h =
    let left = q.corner.left in let top = q.corner.top in
    subst (λ n. GathersSquare n (seen_grid r left top (grid_of s q)) left top old new) (sym is.side)
    (gathered_same 8 (seen_grid r left top (leaf_grid l)) (seen_grid r left top (grid_of s q)) left top old new (seen_same r 8 left top (leaf_grid l) (grid_of s q) is.drawn) h)

pub leaf_counted_in : (s : Held EngineLeaf) (r : Region) (q : PlacedSquare) (l : EngineLeaf) → IsDrawnLeaf s q l → population 8 (λ u v. (seen_grid r q.corner.left q.corner.top (leaf_grid l) u v).state) ≡ seen_population s r q
leaf_counted_in s r q l is =
    let left = q.corner.left in let top = q.corner.top in
    population_same 8 (states (seen_grid r left top (leaf_grid l))) (states (seen_grid r left top (grid_of s q))) (same_states 8 _ _ (seen_same r 8 left top (leaf_grid l) (grid_of s q) is.drawn))
    ∙ ap (λ n. population n (states (seen_grid r left top (grid_of s q)))) (sym is.side)

-- ---- four squares

gathered_four : (n : ℕ) (fa fb fc fd g : Grid) (left top : ℕ) (l0 l1 l2 l3 l4 : List ListedCell) → AreSameWithin (n + n) g (quartered n fa fb fc fd)
    → GathersSquare n fa left top l0 l1 → GathersSquare n fb (left + n) top l1 l2 → GathersSquare n fc left (top + n) l2 l3 → GathersSquare n fd (left + n) (top + n) l3 l4
    → GathersSquare (n + n) g left top l0 l4
gathered_four n fa fb fc fd g left top l0 l1 l2 l3 l4 same ha hb hc hd = record {
  gathers = gathers_four n fa fb fc fd g left top same l0 l1 l2 l3 l4 ha.gathers hb.gathers hc.gathers hd.gathers;
  count =
      (let whole = population_same (n + n) (states g) (states (quartered n fa fb fc fd)) (same_states (n + n) g (quartered n fa fb fc fd) same) ∙ population_four n fa fb fc fd in
      let a = ha.count in let b = hb.count in let c = hc.count in let d = hd.count in
      sums _ _ _ _ _ _ _ _ _ _ whole a b c d);
}
  where
    sums : (m0 m1 m2 m3 m4 w x y z p : ℕ) → p ≡ w + x + y + z → m1 ≡ m0 + w → m2 ≡ m1 + x → m3 ≡ m2 + y → m4 ≡ m3 + z → m4 ≡ m0 + p
    sums m0 m1 m2 m3 m4 w x y z p e a b c d = omega (arith, e, a, b, c, d)

module _ (s : Held EngineLeaf) (r : Region) (k left top : ℕ) (f : Grid) (q : PlacedQuarters) (put : AreSideBySide s k f left top q) where
  drawn : AreSameWithin (side_at 8 k + side_at 8 k) (seen_grid r left top f) (quartered (side_at 8 k) (seen_grid r left top (grid_of s q.nw)) (seen_grid r (left + side_at 8 k) top (grid_of s q.ne)) (seen_grid r left (top + side_at 8 k) (grid_of s q.sw)) (seen_grid r (left + side_at 8 k) (top + side_at 8 k) (grid_of s q.se)))
  drawn = seen_quartered r (side_at 8 k) left top (grid_of s q.nw) (grid_of s q.ne) (grid_of s q.sw) (grid_of s q.se) f put.same

  pub gathered_beside : (l0 l1 l2 l3 l4 : List ListedCell) → GathersSeen s r q.nw l0 l1 → GathersSeen s r q.ne l1 l2 → GathersSeen s r q.sw l2 l3 → GathersSeen s r q.se l3 l4
      → GathersSquare (side_at 8 k + side_at 8 k) (seen_grid r left top f) left top l0 l4
  gathered_beside l0 l1 l2 l3 l4 ha hb hc hd =
      let n = side_at 8 k in
      gathered_four n (seen_grid r left top (grid_of s q.nw)) (seen_grid r (left + n) top (grid_of s q.ne)) (seen_grid r left (top + n) (grid_of s q.sw)) (seen_grid r (left + n) (top + n) (grid_of s q.se)) (seen_grid r left top f) left top l0 l1 l2 l3 l4 drawn
      (along s k left top q.nw (λ m x y. GathersSquare m (seen_grid r x y (grid_of s q.nw)) x y l0 l1) put.nw ha) (along s k (left + n) top q.ne (λ m x y. GathersSquare m (seen_grid r x y (grid_of s q.ne)) x y l1 l2) put.ne hb)
      (along s k left (top + n) q.sw (λ m x y. GathersSquare m (seen_grid r x y (grid_of s q.sw)) x y l2 l3) put.sw hc) (along s k (left + n) (top + n) q.se (λ m x y. GathersSquare m (seen_grid r x y (grid_of s q.se)) x y l3 l4) put.se hd)

  part : (x y : ℕ) (p : PlacedSquare) → IsPlacedIn s k x y p → seen_population s r p ≡ population (side_at 8 k) (states (seen_grid r x y (grid_of s p)))
  part x y p is = along s k x y p (λ m x y. seen_population s r p ≡ population m (states (seen_grid r x y (grid_of s p)))) is refl

  pub counted_beside : seen_population s r q.nw + seen_population s r q.ne + seen_population s r q.sw + seen_population s r q.se ≡ population (side_at 8 k + side_at 8 k) (λ u v. (seen_grid r left top f u v).state)
  counted_beside =
      let n = side_at 8 k in
      let a = part left top q.nw put.nw in let b = part (left + n) top q.ne put.ne in let c = part left (top + n) q.sw put.sw in let d = part (left + n) (top + n) q.se put.se in
      (λ i. a i + b i + c i + d i)
      ∙ sym (population_same (n + n) (states (seen_grid r left top f)) _ (same_states (n + n) (seen_grid r left top f) _ drawn) ∙ population_four n (seen_grid r left top (grid_of s q.nw)) (seen_grid r (left + n) top (grid_of s q.ne)) (seen_grid r left (top + n) (grid_of s q.sw)) (seen_grid r (left + n) (top + n) (grid_of s q.se)))

-- ---- how many there can be

pub few_in_square : (n : ℕ) (f : Grid) → n ≤ 4294967296 → population n (states f) ≤ 2 ^ 64
few_in_square n f narrow = let most = population_at_most n (states f) in let area = mul-le n n 4294967296 4294967296 narrow narrow in omega (arith, most, area)

few_seen : (s : Held EngineLeaf) (r : Region) (q : PlacedSquare) → IsPlaced s q → seen_population s r q ≤ 2 ^ 64
few_seen s r q placed = let h = placed.left in few_in_square (side_at 8 q.level) (seen_grid r q.corner.left q.corner.top (grid_of s q)) (omega (arith, h))

pub few_beside : (s : Held EngineLeaf) (r : Region) (k left top : ℕ) (f : Grid) (q : PlacedQuarters) → AreSideBySide s k f left top q → seen_population s r q.nw + seen_population s r q.ne + seen_population s r q.sw + seen_population s r q.se ≤ 2 ^ 66
few_beside s r k left top f q put =
    let a = few_seen s r q.nw put.nw.placed in let b = few_seen s r q.ne put.ne.placed in let c = few_seen s r q.sw put.sw.placed in let d = few_seen s r q.se put.se.placed in
    omega (arith, a, b, c, d)

-- the count of a square that a region has
pub count_seen : (s : Held EngineLeaf) (r own : Region) (q : PlacedSquare) → HasColumnsOf q own → has_region r own ≡ true → population_at s q.level q.part ≡ seen_population s r q
count_seen s r own q is has =
    sym (population_same (side_at 8 q.level) (states (seen_grid r q.corner.left q.corner.top (grid_of s q))) (states (grid_of s q)) (same_states (side_at 8 q.level) _ _ (seen_whole r own q (grid_of s q) is has)))

pub whole_gathered : (s : Held EngineLeaf) (r own : Region) (q : PlacedSquare) (old new : List ListedCell) → HasColumnsOf q own → has_region r own ≡ true → GathersSquare (side_at 8 q.level) (grid_of s q) q.corner.left q.corner.top old new → GathersSeen s r q old new
whole_gathered s r own q old new is has h =
    gathered_same (side_at 8 q.level) (grid_of s q) (seen_grid r q.corner.left q.corner.top (grid_of s q)) q.corner.left q.corner.top old new (other_way (side_at 8 q.level) _ _ (seen_whole r own q (grid_of s q) is has)) h
