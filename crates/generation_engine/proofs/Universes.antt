-- A universe, some generations later.
use Rattle.std.proofs.Common.{◌≡◌, ℕ, zero, suc, ◌+◌, ◌-◌, ◌*◌, ◌<◌, ◌≤◌, ◌^◌, ◌/◌, ◌%◌, ◌==◌, Bool, true, false, ℤ, pos, negsuc, ◌+ℤ◌, ◌-ℤ◌, ◌≤ℤ◌, refl, sym, ◌∙◌, ap, subst, arith}
use Rattle.std.specs.Prelude.{if◌then◌else◌, Result, Ok, Err, OnErr}
use Rattle.std.proofs.lemmas.Nat.{mod-pow-add}
use Rattle.std.proofs.lemmas.Bool.{and_parts}
use Rattle.std.proofs.lemmas.Bool.Decides.{nat_tests}
use Rattle.std.proofs.lemmas.Int.{ints}
use Rattle.generations_rule.specs.Place.{Place, moved, IsWithin}
use Rattle.generations_rule.specs.Rule.{GenerationsRule, IsRule}
use Rattle.generations_rule.specs.Evolution.{at}
use Rattle.generations_rule.proofs.EvolutionLaws.{runs_compose, is_local, stays_empty, stays_in_range}
use Rattle.square_store.specs.Grid.{Grid}
use Rattle.square_store.specs.Squares.{side_at, IsAt, grid_at, Draws}
use Rattle.generation_engine.specs.EngineLeaf.{leaf_grid}
use Rattle.generation_engine.specs.Kept.{HasGrown, IsLater, RuledSquares}
use Rattle.generation_engine.specs.Loading.{centred}
use Rattle.generation_engine.specs.Results.{IsResult}
use Rattle.generation_engine.specs.Running.{HasSameCells, IsEvolutionOf, IsRun, universe}
use Rattle.generation_engine.specs.Universe.{EngineValue, AreSameStates, IsEngine, from_universe_edge, is_coordinate_in_reach, is_coordinate_in_universe, is_in_reach, is_in_universe, states_of, universe_corner}
use Rattle.generation_engine.proofs.Grids.{is_middle}
use Rattle.square_store.proofs.Drawn.{grown_more}
use Rattle.generation_engine.proofs.Passes.{result_same}
use Rattle.generation_engine.proofs.Counting.{population_same}
use Rattle.generation_engine.proofs.Reading.{column_within}

-- ---- the universe in the middle of a dead square

-- the corner of a square twice as wide as the universe, with the same centre
abbrev wide_corner : Place
wide_corner = record { x = negsuc 8589934591; y = negsuc 8589934591 }

inside_column : (u : ℕ) → is_middle 4294967296 u ≡ true → (is_coordinate_in_universe (negsuc 8589934591 +ℤ pos u) ≡ true) × (from_universe_edge (negsuc 8589934591 +ℤ pos u) ≡ u - 4294967296)
inside_column u h = (grind (arith, ints, nat_tests, h), grind (arith, ints, nat_tests, h))

outside_column : (u : ℕ) → is_middle 4294967296 u ≡ false → is_coordinate_in_universe (negsuc 8589934591 +ℤ pos u) ≡ false
outside_column u h = grind (arith, ints, nat_tests, h)

module _ (e : EngineValue) where
  root_grid : Grid
  root_grid = grid_at leaf_grid 8 e.store 30 e.root

  lies_wide : (u v : ℕ) → states_of e (moved wide_corner (pos u) (pos v)) ≡ (centred 4294967296 (grid_at leaf_grid 8 e.store 30 e.root) u v).state
  lies_wide u v = go (is_middle 4294967296 u) refl (is_middle 4294967296 v) refl
    where
      go : (x : Bool) → is_middle 4294967296 u ≡ x → (y : Bool) → is_middle 4294967296 v ≡ y → states_of e (moved wide_corner (pos u) (pos v)) ≡ (centred 4294967296 (grid_at leaf_grid 8 e.store 30 e.root) u v).state
      go true ex true ey = let a = inside_column u ex in let b = inside_column v ey in rw (a.0, b.0, a.1, b.1, ex, ey) refl
      go true ex false ey = let a = inside_column u ex in let b = outside_column v ey in rw (a.0, b, ex, ey) refl
      go false ex y ey = let a = outside_column u ex in rw (a, ex) refl

-- ---- reach

same_corner : moved wide_corner (pos 4294967296) (pos 4294967296) ≡ universe_corner
same_corner = refl

-- a place in the universe by its column and row
place_of_columns : (x y : ℤ) → is_in_universe (record { x = x; y = y }) ≡ true → moved universe_corner (pos (from_universe_edge x)) (pos (from_universe_edge y)) ≡ record { x = x; y = y }
place_of_columns x y h =
    let parts : (is_coordinate_in_universe x ≡ true) × (is_coordinate_in_universe y ≡ true) = and_parts _ _ h in
    let ex = column x parts.0 in let ey = column y parts.1 in
    λ i. record { x = ex i; y = ey i }
  where
    column : (z : ℤ) → is_coordinate_in_universe z ≡ true → negsuc 4294967295 +ℤ pos (from_universe_edge z) ≡ z
    column z k = grind (arith, ints, nat_tests, k)

-- what is near a place in reach is in the reach that is wider by as much
coordinate_reached : (n t : ℕ) (x x' : ℤ) → is_coordinate_in_reach n x' ≡ true → (x -ℤ pos t) ≤ℤ x' → x' ≤ℤ (x +ℤ pos t) → is_coordinate_in_reach (n + t) x ≡ true
coordinate_reached n t x x' h low high = grind (arith, ints, nat_tests, h, low, high)

not_reached_before : (n t : ℕ) (c d : Place) → is_in_reach (n + t) c ≡ false → IsWithin t c d → is_in_reach n d ≡ false
not_reached_before n t c d out near = go (is_in_reach n d) refl
  where
    never : true ≡ false → ⊥
    never e = cc

    go : (b : Bool) → is_in_reach n d ≡ b → is_in_reach n d ≡ false
    go false e = e
    go true e =
        let parts : (is_coordinate_in_reach n d.x ≡ true) × (is_coordinate_in_reach n d.y ≡ true) = and_parts _ _ e in
        let ex = coordinate_reached n t c.x d.x parts.0 near.left near.right in
        let ey = coordinate_reached n t c.y d.y parts.1 near.above near.below in
        absurd (never (sym (rw (ex, ey) refl) ∙ out))

beyond_universe : (n : ℕ) (x y : ℤ) → n ≤ 536870912 → is_in_universe (record { x = x; y = y }) ≡ false → is_in_reach n (record { x = x; y = y }) ≡ false
beyond_universe n x y few out = grind (arith, ints, few, out)

-- ---- one step

module _ (old new : RuledSquares) (t root q : ℕ) (rule : IsRule old.rule) (same : new.rule ≡ old.rule) (stands : IsAt new.store 30 q)
    (result : IsResult old.rule (side_at 4 30) t (centred (side_at 8 29) (grid_at leaf_grid 8 old.store 30 root)) (grid_at leaf_grid 8 new.store 30 q))
    (n : ℕ) (is : IsEngine (universe old root n)) (few : n + t ≤ 2 ^ 29) where
  before : Place → ℕ
  before = states_of (universe old root n)

  dead : (c : Place) → is_in_reach (n + t) c ≡ false → at old.rule before t c ≡ 0
  unfolding before
  dead c out = stays_empty old.rule before t c rule (λ d near. is.reach d (not_reached_before n t c d out near))

  in_universe : (u v : ℕ) → u < 8589934592 → v < 8589934592 → at old.rule before t (moved universe_corner (pos u) (pos v)) ≡ (grid_at leaf_grid 8 new.store 30 q u v).state
  unfolding before
  in_universe u v hu hv = result.later before wide_corner is.below (λ x y hx hy. lies_wide (universe old root n) x y) u v hu hv

  later_states : AreSameStates (states_of (universe new q (n + t))) (at old.rule before t)
  later_states c = go (is_in_universe c) refl
    where
      go : (b : Bool) → is_in_universe c ≡ b → states_of (universe new q (n + t)) c ≡ at old.rule before t c
      go false e = rw e (sym (dead c (beyond_universe (n + t) c.x c.y few e)))
      go true e =
          let parts : (is_coordinate_in_universe c.x ≡ true) × (is_coordinate_in_universe c.y ≡ true) = and_parts _ _ e in
          rw e (sym (in_universe (from_universe_edge c.x) (from_universe_edge c.y) (column_within c.x parts.0) (column_within c.y parts.1)) ∙ ap (at old.rule before t) (place_of_columns c.x c.y e))

  later_engine : IsEngine (universe new q (n + t))
  unfolding before
  later_engine = record {
    root = stands;
    below = λ c. (let e = later_states c in let l = stays_in_range old.rule before t c rule is.below in rw (e, same) l);
    generations = few;
    reach = λ c out. later_states c ∙ dead c out;
  }

  pub later_universe : IsEngine (universe new q (n + t)) × AreSameStates (states_of (universe new q (n + t))) (at old.rule (states_of (universe old root n)) t)
  unfolding before
  later_universe = (later_engine, later_states)

pub stepped_run : (old new : RuledSquares) (t root q : ℕ) → IsRule old.rule → new.rule ≡ old.rule → IsAt new.store 30 q
    → IsResult old.rule (side_at 4 30) t (centred (side_at 8 29) (grid_at leaf_grid 8 old.store 30 root)) (grid_at leaf_grid 8 new.store 30 q) → IsRun old new t root q
stepped_run old new t root q rule same stands result = record {
  stands = stands;
  engine = λ n is few. (later_universe old new t root q rule same stands result n is few).0;
  states = λ n is few. (later_universe old new t root q rule same stands result n is few).1;
}

-- a dead square that was put round the root, and its result
pub wide_run : (s0 s1 s2 : RuledSquares) (t root wide q : ℕ) → IsRule s0.rule → HasGrown s0 s1 → HasGrown s1 s2 → Draws leaf_grid 8 s1.store 31 (centred (side_at 8 29) (grid_at leaf_grid 8 s0.store 30 root)) wide
    → IsLater s1.rule s1.store s2.store 31 t wide q → IsRun s0 s2 t root q
wide_run s0 s1 s2 t root wide q rule g1 g2 drawn later = stepped_run s0 s2 t root q rule (g2.rule ∙ g1.rule) later.stands
    (subst (λ (r : GenerationsRule). IsResult r (side_at 4 30) t (centred (side_at 8 29) (grid_at leaf_grid 8 s0.store 30 root)) (grid_at leaf_grid 8 s2.store 30 q)) g1.rule
    (result_same s1.rule (side_at 4 30) (side_at 4 30) t (grid_at leaf_grid 8 s1.store 31 wide) (grid_at leaf_grid 8 s2.store 30 q) (centred (side_at 8 29) (grid_at leaf_grid 8 s0.store 30 root)) (grid_at leaf_grid 8 s2.store 30 q) refl
    (λ u v hu hv. drawn.same u v hu hv) (λ u v hu hv. refl) later.result))

-- ---- many steps

pub no_run : (s : RuledSquares) (root : ℕ) → IsAt s.store 30 root → IsRun s s 0 root root
no_run s root stands = record {
  stands = stands;
  engine = λ n is few. (let e : n ≡ n + 0 = omega arith in subst (λ m. IsEngine (universe s root m)) e is);
  states = λ n is few c. refl;
}

pub run_more : (s0 s1 s2 : RuledSquares) (a b root p q : ℕ) → HasGrown s0 s1 → IsRun s0 s1 a root p → IsRun s1 s2 b p q → IsRun s0 s2 (a + b) root q
run_more s0 s1 s2 a b root p q grown first next = record {
  stands = next.stands;
  engine = λ n is few. (let e : n + a + b ≡ n + (a + b) = omega arith in subst (λ m. IsEngine (universe s2 q m)) e (next.engine (n + a) (first.engine n is (omega (arith, few))) (omega (arith, few))));
  states = λ n is few c.
      (let early : n + a ≤ 2 ^ 29 = omega (arith, few) in
      let middle = first.engine n is early in
      let f = states_of (universe s0 root n) in
      next.states (n + a) middle (omega (arith, few)) c
      ∙ ap (λ r. at r (states_of (universe s1 p (n + a))) b c) grown.rule
      ∙ is_local s0.rule (states_of (universe s1 p (n + a))) (at s0.rule f a) b c (λ d near. first.states n is early d)
      ∙ runs_compose s0.rule f a b c);
}

pub run_as : (s t : RuledSquares) (a b root q : ℕ) → a ≡ b → IsRun s t a root q → IsRun s t b root q
run_as s t a b root q e run = subst (λ n. IsRun s t n root q) e run

-- ---- what a caller sees

pub same_cells : (old new : RuledSquares) (root n : ℕ) → IsAt old.store 30 root → HasGrown old new → HasSameCells (universe old root n) (universe new root n)
same_cells old new root n stands grown = record {
  states = same;
  population = population_same 8589934592 _ _ (λ u v hu hv. same (moved universe_corner (pos u) (pos v)));
  generation = refl;
}
  where
    same : AreSameStates (states_of (universe new root n)) (states_of (universe old root n))
    same c = ap (λ (g : Grid). if is_in_universe c then (g (from_universe_edge c.x) (from_universe_edge c.y)).state else 0) (grown.store.same 30 root stands)

-- ---- binary digits

digit_or_not : (d w m n : ℕ) → d < 2 → m ≡ d * w + n → m ≡ n + (if d == 1 then w else 0)
digit_or_not zero w m n h e = omega (arith, e)
digit_or_not (suc zero) w m n h e = omega (arith, e)
digit_or_not (suc (suc d)) w m n h e = absurd (omega (arith, h))

pub digit_worth : (number k : ℕ) → number % 2 ^ (k + 1) ≡ number % 2 ^ k + (if number / 2 ^ k % 2 == 1 then 2 ^ k else 0)
digit_worth number k =
    let place : k + 1 ≡ 1 + k = omega arith in
    let whole : number % 2 ^ (k + 1) ≡ number / 2 ^ k % 2 * 2 ^ k + number % 2 ^ k = ap (λ j. number % 2 ^ j) place ∙ mod-pow-add number 1 k in
    digit_or_not (number / 2 ^ k % 2) (2 ^ k) _ _ (omega arith) whole

pub digit_run : (s t u : RuledSquares) (g k root p q : ℕ) (b : Bool) → b ≡ true → g % 2 ^ (k + 1) ≡ g % 2 ^ k + (if b then 2 ^ k else 0) → HasGrown s t × IsRun s t (g % 2 ^ k) root p → HasGrown t u → IsRun t u (2 ^ k) p q
    → HasGrown s u × IsRun s u (g % 2 ^ (k + 1)) root q
digit_run s t u g k root p q b is sum (grown, run) grows step =
    let e : g % 2 ^ (k + 1) ≡ g % 2 ^ k + 2 ^ k = rw is at sum in
    (record { rule = grows.rule ∙ grown.rule; store = grown_more leaf_grid 8 s.store t.store u.store grown.store grows.store }, run_as s u _ _ root q (sym e) (run_more s t u _ _ root p q grown run step))

pub no_digit_run : (s t : RuledSquares) (g k root p : ℕ) (b : Bool) → b ≡ false → g % 2 ^ (k + 1) ≡ g % 2 ^ k + (if b then 2 ^ k else 0) → HasGrown s t × IsRun s t (g % 2 ^ k) root p → HasGrown s t × IsRun s t (g % 2 ^ (k + 1)) root p
no_digit_run s t g k root p b is sum (grown, run) =
    let e : g % 2 ^ (k + 1) ≡ g % 2 ^ k + 0 = rw is at sum in
    let e' : g % 2 ^ k ≡ g % 2 ^ (k + 1) = omega (arith, e) in
    (grown, run_as s t _ _ root p e' run)

pub all_digits : (g k : ℕ) → g ≤ 2 ^ 29 → 30 ≤ k → k ≤ 30 → g % 2 ^ k ≡ g
all_digits g k few low high = let e : k ≡ 30 = omega (arith, low, high) in ap (λ j. g % 2 ^ j) e ∙ (let h : g % 1073741824 ≡ g = omega (arith, few) in h)

-- ---- an engine's contract

pub evolved : (s t : RuledSquares) (g root q n : ℕ) (f : Place → ℕ) → IsRun s t g root q → HasGrown s t → IsEngine (universe s root n) → n + g ≤ 2 ^ 29 → IsEvolutionOf f (universe s root n) → IsEvolutionOf f (universe t q (n + g))
evolved s t g root q n f run grown is few before c =
    run.states n is few c
    ∙ is_local s.rule (states_of (universe s root n)) (at s.rule f n) g c (λ d near. before d)
    ∙ runs_compose s.rule f n g c
    ∙ ap (λ r. at r f (n + g) c) (sym grown.rule)

pub on_err : {A E : Type 0} (r : Result A E) (P : Type 0) → P → OnErr r P
on_err (Ok x) P h = tt
on_err (Err e) P h = h
