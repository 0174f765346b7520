-- All cells of a universe that are not dead are in its middle.
use Rattle.std.proofs.Common.{◌≡◌, ℕ, ◌+◌, ◌<◌, ◌≤◌, false, ℤ, pos, negsuc, ◌+ℤ◌, refl, sym, ◌∙◌, ap, arith}
use Rattle.std.proofs.lemmas.Int.{ints}
use Rattle.generations_rule.specs.Place.{moved}
use Rattle.bitplane_kernel.specs.Population.{sum_from, one_unless_dead, population}
use Rattle.generation_engine.specs.Universe.{EngineValue, IsEngine, is_in_reach, population_of, states_of, universe_corner}
use Rattle.generation_engine.specs.Walk.{middle_grid}
use Rattle.generation_engine.proofs.Counting.{population_same, population_none, sum_added, sum_halves, sum_same}
use Rattle.generation_engine.proofs.Reading.{state_read}

-- a square's count by its four quarters
split : (n : ℕ) (f : ℕ → ℕ → ℕ) → population (n + n) f ≡ population n f + population n (λ u v. f (n + u) v) + population n (λ u v. f u (n + v)) + population n (λ u v. f (n + u) (n + v))
split n f =
    let one : ℕ → ℕ → ℕ = λ u v. one_unless_dead (f u v) in
    let row = λ (v : ℕ). sum_from 0 (n + n) (λ u. one u v) in
    let halves : (v : ℕ) → row v ≡ sum_from 0 n (λ u. one u v) + sum_from 0 n (λ u. one (n + u) v) = λ v. sum_halves n (λ u. one u v) in
    let upper = sum_same 0 n row (λ v. sum_from 0 n (λ u. one u v) + sum_from 0 n (λ u. one (n + u) v)) (λ v l h. halves v) ∙ sum_added 0 n (λ v. sum_from 0 n (λ u. one u v)) (λ v. sum_from 0 n (λ u. one (n + u) v)) in
    let lower = sum_same 0 n (λ v. row (n + v)) (λ v. sum_from 0 n (λ u. one u (n + v)) + sum_from 0 n (λ u. one (n + u) (n + v))) (λ v l h. halves (n + v)) ∙ sum_added 0 n (λ v. sum_from 0 n (λ u. one u (n + v))) (λ v. sum_from 0 n (λ u. one (n + u) (n + v))) in
    sum_halves n row ∙ (λ i. upper i + lower i) ∙ four _ _ _ _
  where
    four : (w x y z : ℕ) → w + x + (y + z) ≡ w + x + y + z
    four w x y z = omega arith

dead_square : (n : ℕ) (f : ℕ → ℕ → ℕ) → ((u v : ℕ) → u < n → v < n → f u v ≡ 0) → population n f ≡ 0
dead_square n f dead = population_same n f (λ u v. 0) dead ∙ population_none n

-- what is not in the middle no generation has reached
pub not_reached_beside : (g x : ℕ) (y : ℤ) → g ≤ 536870912 → x < 2147483648 → is_in_reach g (record { x = negsuc 4294967295 +ℤ pos x; y = y }) ≡ false
not_reached_beside g x y few h = grind (arith, ints, few, h)

pub not_reached_behind : (g x : ℕ) (y : ℤ) → g ≤ 536870912 → 6442450944 ≤ x → is_in_reach g (record { x = negsuc 4294967295 +ℤ pos x; y = y }) ≡ false
not_reached_behind g x y few h = grind (arith, ints, few, h)

pub not_reached_above : (g y : ℕ) (x : ℤ) → g ≤ 536870912 → y < 2147483648 → is_in_reach g (record { x = x; y = negsuc 4294967295 +ℤ pos y }) ≡ false
not_reached_above g y x few h = grind (arith, ints, few, h)

pub not_reached_below : (g y : ℕ) (x : ℤ) → g ≤ 536870912 → 6442450944 ≤ y → is_in_reach g (record { x = x; y = negsuc 4294967295 +ℤ pos y }) ≡ false
not_reached_below g y x few h = grind (arith, ints, few, h)

-- sixteen squares of which the four in the middle count
module _ (q : ℕ) (f m : ℕ → ℕ → ℕ) (left : (x y : ℕ) → x < q → f x y ≡ 0) (right : (x y : ℕ) → q + q + q ≤ x → f x y ≡ 0) (top : (x y : ℕ) → y < q → f x y ≡ 0) (bottom : (x y : ℕ) → q + q + q ≤ y → f x y ≡ 0)
    (is : (u v : ℕ) → u < q + q → v < q + q → f (q + u) (q + v) ≡ m u v) where
  at : (x y u v : ℕ) → x ≡ q + u → y ≡ q + v → u < q + q → v < q + q → f x y ≡ m u v
  at x y u v ex ey hu hv = ap (λ z. f z y) ex ∙ ap (λ z. f (q + u) z) ey ∙ is u v hu hv

  pub counted_in_middle : population (q + q + (q + q)) f ≡ population (q + q) m
  counted_in_middle =
      let h = q + q in
      let nw : population h f ≡ population q m = split q f ∙ only_last (population q f) (population q (λ u v. f (q + u) v)) (population q (λ u v. f u (q + v))) _ _
      (dead_square q f (λ u v hu hv. left u v hu)) (dead_square q (λ u v. f (q + u) v) (λ u v hu hv. top (q + u) v hv)) (dead_square q (λ u v. f u (q + v)) (λ u v hu hv. left u (q + v) hu))
      (population_same q (λ u v. f (q + u) (q + v)) m (λ u v hu hv. is u v (omega (arith, hu)) (omega (arith, hv)))) in
      let ne : population h (λ u v. f (h + u) v) ≡ population q (λ u v. m (q + u) v) = split q (λ u v. f (h + u) v) ∙ only_third (population q (λ u v. f (h + u) v)) (population q (λ u v. f (h + (q + u)) v)) _ (population q (λ u v. f (h + (q + u)) (q + v))) _
      (dead_square q (λ u v. f (h + u) v) (λ u v hu hv. top (h + u) v hv)) (dead_square q (λ u v. f (h + (q + u)) v) (λ u v hu hv. top (h + (q + u)) v hv)) (dead_square q (λ u v. f (h + (q + u)) (q + v)) (λ u v hu hv. right (h + (q + u)) (q + v) (omega arith)))
      (population_same q (λ u v. f (h + u) (q + v)) (λ u v. m (q + u) v) (λ u v hu hv. at (h + u) (q + v) (q + u) v (omega arith) refl (omega (arith, hu)) (omega (arith, hv)))) in
      let sw : population h (λ u v. f u (h + v)) ≡ population q (λ u v. m u (q + v)) = split q (λ u v. f u (h + v)) ∙ only_second (population q (λ u v. f u (h + v))) _ (population q (λ u v. f u (h + (q + v)))) (population q (λ u v. f (q + u) (h + (q + v)))) _
      (dead_square q (λ u v. f u (h + v)) (λ u v hu hv. left u (h + v) hu)) (dead_square q (λ u v. f u (h + (q + v))) (λ u v hu hv. left u (h + (q + v)) hu)) (dead_square q (λ u v. f (q + u) (h + (q + v))) (λ u v hu hv. bottom (q + u) (h + (q + v)) (omega arith)))
      (population_same q (λ u v. f (q + u) (h + v)) (λ u v. m u (q + v)) (λ u v hu hv. at (q + u) (h + v) u (q + v) refl (omega arith) (omega (arith, hu)) (omega (arith, hv)))) in
      let se : population h (λ u v. f (h + u) (h + v)) ≡ population q (λ u v. m (q + u) (q + v)) = split q (λ u v. f (h + u) (h + v)) ∙ only_first _ (population q (λ u v. f (h + (q + u)) (h + v))) (population q (λ u v. f (h + u) (h + (q + v)))) (population q (λ u v. f (h + (q + u)) (h + (q + v)))) _
      (dead_square q (λ u v. f (h + (q + u)) (h + v)) (λ u v hu hv. right (h + (q + u)) (h + v) (omega arith))) (dead_square q (λ u v. f (h + u) (h + (q + v))) (λ u v hu hv. bottom (h + u) (h + (q + v)) (omega arith))) (dead_square q (λ u v. f (h + (q + u)) (h + (q + v))) (λ u v hu hv. bottom (h + (q + u)) (h + (q + v)) (omega arith)))
      (population_same q (λ u v. f (h + u) (h + v)) (λ u v. m (q + u) (q + v)) (λ u v hu hv. at (h + u) (h + v) (q + u) (q + v) (omega arith) (omega arith) (omega (arith, hu)) (omega (arith, hv)))) in
      split h f ∙ (λ i. nw i + ne i + sw i + se i) ∙ sym (split q m)
    where
      only_last : (w x y z r : ℕ) → w ≡ 0 → x ≡ 0 → y ≡ 0 → z ≡ r → w + x + y + z ≡ r
      only_last w x y z r a b c d = omega (arith, a, b, c, d)

      only_third : (w x y z r : ℕ) → w ≡ 0 → x ≡ 0 → z ≡ 0 → y ≡ r → w + x + y + z ≡ r
      only_third w x y z r a b c d = omega (arith, a, b, c, d)

      only_second : (w x y z r : ℕ) → w ≡ 0 → y ≡ 0 → z ≡ 0 → x ≡ r → w + x + y + z ≡ r
      only_second w x y z r a b c d = omega (arith, a, b, c, d)

      only_first : (w x y z r : ℕ) → x ≡ 0 → y ≡ 0 → z ≡ 0 → w ≡ r → w + x + y + z ≡ r
      only_first w x y z r a b c d = omega (arith, a, b, c, d)

pub population_in_middle : (e : EngineValue) → IsEngine e → population 4294967296 (λ u v. (middle_grid e.store e.root u v).state) ≡ population_of e
population_in_middle e is = sym (counted_in_middle 2147483648 (λ u v. states_of e (moved universe_corner (pos u) (pos v))) (λ u v. (middle_grid e.store e.root u v).state)
    (λ x y h. is.reach (moved universe_corner (pos x) (pos y)) (not_reached_beside e.generation x _ is.generations h))
    (λ x y h. is.reach (moved universe_corner (pos x) (pos y)) (not_reached_behind e.generation x _ is.generations h))
    (λ x y h. is.reach (moved universe_corner (pos x) (pos y)) (not_reached_above e.generation y _ is.generations h))
    (λ x y h. is.reach (moved universe_corner (pos x) (pos y)) (not_reached_below e.generation y _ is.generations h))
    (λ u v hu hv. state_read e (2147483648 + u) (2147483648 + v) (omega (arith, hu)) (omega (arith, hv))))
