-- How many cells of a square are not dead, from those of its quarters.
use Rattle.std.proofs.Common.{◌≡◌, ℕ, zero, suc, ◌+◌, ◌-◌, ◌*◌, ◌^◌, ◌<◌, ◌≤◌, min, refl, sym, ◌∙◌, ap, arith}
use Rattle.std.proofs.lemmas.Bool.Decides.{nat_tests}
use Rattle.stamped_writes.specs.declared.write.Write.{Write}
use Rattle.bitplane_kernel.specs.Population.{sum_from, one_unless_dead, population}
use Rattle.square_store.specs.Grid.{Grid, quartered, blank_grid}
use Rattle.square_store.proofs.Quarters.{quarter_nw, quarter_ne, quarter_sw, quarter_se}

-- ---- sums

pub sum_same : (s n : ℕ) (f g : ℕ → ℕ) → ((i : ℕ) → s ≤ i → i < s + n → f i ≡ g i) → sum_from s n f ≡ sum_from s n g
unfolding sum_from
sum_same s zero f g same = refl
sum_same s (suc n) f g same =
    let own : f s ≡ g s = same s (omega arith) (omega arith) in
    let rest : sum_from (suc s) n f ≡ sum_from (suc s) n g = sum_same (suc s) n f g (λ i l h. same i (omega (arith, l)) (omega (arith, h))) in
    λ i. own i + rest i

pub sum_split : (s a b : ℕ) (f : ℕ → ℕ) → sum_from s (a + b) f ≡ sum_from s a f + sum_from (s + a) b f
unfolding sum_from
sum_split s zero b f =
    let count : 0 + b ≡ b = omega arith in let start : s ≡ s + 0 = omega arith in
    ap (λ k. sum_from s k f) count ∙ ap (λ k. sum_from k b f) start ∙ (let e : sum_from (s + 0) b f ≡ 0 + sum_from (s + 0) b f = omega arith in e)
sum_split s (suc a) b f =
    let count : suc a + b ≡ suc (a + b) = omega arith in let start : suc s + a ≡ s + suc a = omega arith in
    let rest = sum_split (suc s) a b f in
    let own : f s + (sum_from (suc s) a f + sum_from (suc s + a) b f) ≡ f s + sum_from (suc s) a f + sum_from (suc s + a) b f = omega arith in
    ap (λ k. sum_from s k f) count ∙ ap (λ k. f s + k) rest ∙ own ∙ ap (λ k. f s + sum_from (suc s) a f + sum_from k b f) start

sum_moved : (s d n : ℕ) (f : ℕ → ℕ) → sum_from (d + s) n f ≡ sum_from s n (λ i. f (d + i))
unfolding sum_from
sum_moved s d zero f = refl
sum_moved s d (suc n) f =
    let next : suc (d + s) ≡ d + suc s = omega arith in
    ap (λ k. f (d + s) + sum_from k n f) next ∙ ap (λ k. f (d + s) + k) (sum_moved (suc s) d n f)

pub sum_halves : (n : ℕ) (f : ℕ → ℕ) → sum_from 0 (n + n) f ≡ sum_from 0 n f + sum_from 0 n (λ i. f (n + i))
sum_halves n f =
    let start : 0 + n ≡ n + 0 = omega arith in
    sum_split 0 n n f ∙ ap (λ k. sum_from 0 n f + sum_from k n f) start ∙ ap (λ k. sum_from 0 n f + k) (sum_moved 0 n n f)

pub sum_added : (s n : ℕ) (f g : ℕ → ℕ) → sum_from s n (λ i. f i + g i) ≡ sum_from s n f + sum_from s n g
unfolding sum_from
sum_added s zero f g = refl
sum_added s (suc n) f g = let rest = sum_added (suc s) n f g in omega (arith, rest)

sum_of_none : (s n : ℕ) → sum_from s n (λ i. 0) ≡ 0
unfolding sum_from
sum_of_none s zero = refl
sum_of_none s (suc n) = let rest = sum_of_none (suc s) n in omega (arith, rest)

pub sum_at_most : (s n m : ℕ) (f : ℕ → ℕ) → ((i : ℕ) → f i ≤ m) → sum_from s n f ≤ n * m
unfolding sum_from
sum_at_most s zero m f most = omega arith
sum_at_most s (suc n) m f most = let rest = sum_at_most (suc s) n m f most in let own = most s in omega (arith, rest, own)

-- ---- squares

pub population_same : (n : ℕ) (f g : ℕ → ℕ → ℕ) → ((u v : ℕ) → u < n → v < n → f u v ≡ g u v) → population n f ≡ population n g
population_same n f g same = sum_same 0 n _ _ (λ v l hv. sum_same 0 n _ _ (λ u k hu. ap one_unless_dead (same u v (omega (arith, hu)) (omega (arith, hv)))))

pub population_none : (n : ℕ) → population n (λ u v. 0) ≡ 0
population_none n = sum_same 0 n _ _ (λ v l h. sum_of_none 0 n) ∙ sum_of_none 0 n

pub one_at_most : (s : ℕ) → one_unless_dead s ≤ 1
one_at_most s = grind (arith, nat_tests)

pub population_at_most : (n : ℕ) (f : ℕ → ℕ → ℕ) → population n f ≤ n * n
population_at_most n f = sum_at_most 0 n n _ (λ v. (let h = sum_at_most 0 n 1 (λ u. one_unless_dead (f u v)) (λ u. one_at_most (f u v)) in omega (arith, h)))

state : Grid → ℕ → ℕ → ℕ
state f u v = (f u v).state

module _ (n : ℕ) (a b c d : Grid) where
  row : Grid → ℕ → ℕ
  row f v = sum_from 0 n (λ u. one_unless_dead (f u v).state)

  north : (v : ℕ) → v < n → sum_from 0 (n + n) (λ u. one_unless_dead (quartered n a b c d u v).state) ≡ row a v + row b v
  unfolding row
  north v h =
      let left : sum_from 0 n (λ u. one_unless_dead (quartered n a b c d u v).state) ≡ row a v = sum_same 0 n _ _ (λ u l k. ap (λ (w : Write). one_unless_dead w.state) (quarter_nw n a b c d u v (omega (arith, k)) h)) in
      let right : sum_from 0 n (λ u. one_unless_dead (quartered n a b c d (n + u) v).state) ≡ row b v = sum_same 0 n _ _ (λ u l k. ap (λ (w : Write). one_unless_dead w.state) (quarter_ne n a b c d u v h)) in
      sum_halves n (λ u. one_unless_dead (quartered n a b c d u v).state) ∙ (λ i. left i + right i)

  south : (v : ℕ) → sum_from 0 (n + n) (λ u. one_unless_dead (quartered n a b c d u (n + v)).state) ≡ row c v + row d v
  unfolding row
  south v =
      let left : sum_from 0 n (λ u. one_unless_dead (quartered n a b c d u (n + v)).state) ≡ row c v = sum_same 0 n _ _ (λ u l k. ap (λ (w : Write). one_unless_dead w.state) (quarter_sw n a b c d u v (omega (arith, k)))) in
      let right : sum_from 0 n (λ u. one_unless_dead (quartered n a b c d (n + u) (n + v)).state) ≡ row d v = sum_same 0 n _ _ (λ u l k. ap (λ (w : Write). one_unless_dead w.state) (quarter_se n a b c d u v)) in
      sum_halves n (λ u. one_unless_dead (quartered n a b c d u (n + v)).state) ∙ (λ i. left i + right i)

  pub population_four : population (n + n) (λ u v. (quartered n a b c d u v).state)
      ≡ population n (λ u v. (a u v).state) + population n (λ u v. (b u v).state) + population n (λ u v. (c u v).state) + population n (λ u v. (d u v).state)
  unfolding row
  population_four =
      let upper : sum_from 0 n (λ v. sum_from 0 (n + n) (λ u. one_unless_dead (quartered n a b c d u v).state)) ≡ sum_from 0 n (row a) + sum_from 0 n (row b) = sum_same 0 n _ _ (λ v l h. north v (omega (arith, h))) ∙ sum_added 0 n (row a) (row b) in
      let lower : sum_from 0 n (λ v. sum_from 0 (n + n) (λ u. one_unless_dead (quartered n a b c d u (n + v)).state)) ≡ sum_from 0 n (row c) + sum_from 0 n (row d) = sum_same 0 n _ _ (λ v l h. south v) ∙ sum_added 0 n (row c) (row d) in
      sum_halves n (λ v. sum_from 0 (n + n) (λ u. one_unless_dead (quartered n a b c d u v).state)) ∙ (λ i. upper i + lower i) ∙ add_four (sum_from 0 n (row a)) (sum_from 0 n (row b)) (sum_from 0 n (row c)) (sum_from 0 n (row d))
    where
      add_four : (w x y z : ℕ) → w + x + (y + z) ≡ w + x + y + z
      add_four w x y z = omega arith
