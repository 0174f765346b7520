-- What a count of a square says of its quarters, and counts that are noted.
use Rattle.std.proofs.Common.{◌≡◌, ◌⊎◌, inl, inr, ℕ, ◌+◌, ◌-◌, ◌*◌, ◌^◌, ◌<◌, ◌≤◌, Bool, true, false, cond, eqb, List, [], refl, sym, ap, ◌∙◌, subst, arith, slice_index_or}
use Rattle.std.specs.Prelude.{Some}
use Rattle.square_store.specs.Grid.{Grid, quartered, blank_grid, AreSameWithin}
use Rattle.square_store.specs.Squares.{Held, side_at, IsAt, grid_at, four_grid}
use Rattle.square_store.specs.Seen.{IsBlankAt, IsFourAt}
use Rattle.square_store.proofs.Drawn.{twice_below}
use Rattle.square_store.proofs.Nodes.{nat_same}
use Rattle.stamped_tree.specs.Copy.{Copies, copy_of}
use Rattle.stamped_tree.proofs.Parts.{same_default}
use Rattle.stamped_writes.specs.declared.write.Write.{Write}
use Rattle.bitplane_kernel.specs.Population.{population}
use Rattle.generation_engine.specs.declared.leaf_kind.EngineLeaf.{EngineLeaf}
use Rattle.generation_engine.specs.Counts.{AreCounted, population_at}
use Rattle.generation_engine.specs.EngineLeaf.{leaf_grid}
use Rattle.generation_engine.specs.Loading.{IsBroughtNoted}
use Rattle.generation_engine.proofs.Counting.{population_same, population_none, population_four}
use Rattle.generation_engine.proofs.Windows.{few_in_square}
use Rattle.std.proofs.Math.Nat.{pow-le-pow_right}

-- each part is a square of the level below, half as wide
pub record IsBelow (s : Held EngineLeaf) (k p : ℕ) : Type 0 where
  pub some : 0 < k
  pub half : side_at 8 k ≡ side_at 8 (k - 1) + side_at 8 (k - 1)
  pub stands : IsAt s (k - 1) p

pub below : (s : Held EngineLeaf) (k j p i r : ℕ) (parts : List ℕ) → IsFourAt leaf_grid 8 s j parts p → IsAt s k p → i < 4 → IsBelow s k (slice_index_or parts i r)
below s k j p i r parts four stands few =
    let level : k ≡ j = four.level k stands in
    let some : 0 < k = (let h = four.positive in omega (arith, h, level)) in
    record {
      some = some;
      half = twice_below 8 k some;
      stands = subst (λ q. IsAt s (k - 1) q) (sym (same_default parts i r 0 (let h = four.four in omega (arith, few, h)))) (subst (λ l. IsAt s (l - 1) (slice_index_or parts i 0)) (sym level) (four.parts_stand i few));
    }

pub nw_of_four : 0 < 4
nw_of_four = omega arith

pub ne_of_four : 1 < 4
ne_of_four = omega arith

pub sw_of_four : 2 < 4
sw_of_four = omega arith

pub se_of_four : 3 < 4
se_of_four = omega arith

pub above_leaves : (s : Held EngineLeaf) (k j p : ℕ) (parts : List ℕ) → IsFourAt leaf_grid 8 s j parts p → IsAt s k p → 1 ≤ k
above_leaves s k j p parts four stands = let level : k ≡ j = four.level k stands in let h = four.positive in omega (arith, h, level)

-- ---- counts

pub blank_counted : (s : Held EngineLeaf) (k t p : ℕ) → IsBlankAt leaf_grid 8 s t p → 0 ≡ population_at s k p
blank_counted s k t p blank =
    sym (population_same (side_at 8 k) _ (λ u v. (blank_grid t u v).state) (λ u v hu hv. ap (λ (w : Write). w.state) ((blank k).same u v hu hv)) ∙ population_none (side_at 8 k))

pub four_counted : (s : Held EngineLeaf) (k j p : ℕ) (parts : List ℕ) (ra rb rc rd : ℕ) → IsFourAt leaf_grid 8 s j parts p → IsAt s k p
    → population_at s (k - 1) (slice_index_or parts 0 ra) + population_at s (k - 1) (slice_index_or parts 1 rb) + population_at s (k - 1) (slice_index_or parts 2 rc) + population_at s (k - 1) (slice_index_or parts 3 rd) ≡ population_at s k p
four_counted s k j p parts ra rb rc rd four stands =
    let level : k ≡ j = four.level k stands in
    let listed = λ (i r : ℕ) (l : i < 4). same_default parts i r 0 (let h = four.four in omega (arith, l, h)) in
    let m = side_at 8 (k - 1) in
    let at = λ (q : ℕ). grid_at leaf_grid 8 s (k - 1) q in
    let e = twice_below 8 k (let h = four.positive in omega (arith, h, level)) in
    let drawn : AreSameWithin (side_at 8 k) (grid_at leaf_grid 8 s k p) (four_grid leaf_grid 8 s (k - 1) parts) = subst (λ i. AreSameWithin (side_at 8 i) (grid_at leaf_grid 8 s i p) (four_grid leaf_grid 8 s (i - 1) parts)) (sym level) four.draws.same in
    let a = at (slice_index_or parts 0 ra) in let b = at (slice_index_or parts 1 rb) in let c = at (slice_index_or parts 2 rc) in let d = at (slice_index_or parts 3 rd) in
    let same : AreSameWithin (m + m) (grid_at leaf_grid 8 s k p) (quartered m a b c d) = λ u v hu hv.
    rw (listed 0 ra (omega arith), listed 1 rb (omega arith), listed 2 rc (omega arith), listed 3 rd (omega arith)) (drawn u v (omega (arith, hu, e)) (omega (arith, hv, e))) in
    sym (population_four m a b c d)
    ∙ sym (population_same (m + m) (λ u v. (grid_at leaf_grid 8 s k p u v).state) (λ u v. (quartered m a b c d u v).state) (λ u v hu hv. ap (λ (w : Write). w.state) (same u v hu hv)))
    ∙ ap (λ n. population n (λ u v. (grid_at leaf_grid 8 s k p u v).state)) (sym e)

-- how many there can be in a quarter
pub few_in_quarter : (s : Held EngineLeaf) (k p : ℕ) → 0 < k → k ≤ 30 → population_at s (k - 1) p ≤ 2 ^ 64
few_in_quarter s k p some few = few_in_square (side_at 8 (k - 1)) (grid_at leaf_grid 8 s (k - 1) p) (narrow k some few)
  where
    narrow : (k : ℕ) → 0 < k → k ≤ 30 → side_at 8 (k - 1) ≤ 4294967296
    narrow k some few = let below : k - 1 ≤ 29 = omega (arith, some, few) in let h : 2 ^ (k - 1) ≤ 2 ^ 29 = pow-le-pow_right {n = 2} (omega arith) below in omega (arith, h)

-- ---- counts that are noted

-- a count more, of a square of four
pub one_more_counted : (s : Held EngineLeaf) (k j p count : ℕ) (parts : List ℕ) (old new : Copies) → IsFourAt leaf_grid 8 s j parts p → IsAt s k p → count ≡ population_at s k p → AreCounted s old
    → (new ≡ old) ⊎ IsBroughtNoted old new p count → AreCounted s new
one_more_counted s k j p count parts old new four stands is are (inl same) = subst (λ cs. AreCounted s cs) (sym same) are
one_more_counted s k j p count parts old new four stands is are (inr noted) = record { each = λ q n e i at. go q n e i at (eqb p q) refl }
  where
    same_count : {x y : ℕ} → Some x ≡ Some y → x ≡ y
    same_count z = cc

    go : (q n : ℕ) → copy_of new q ≡ Some n → (i : ℕ) → IsAt s i q → (x : Bool) → eqb p q ≡ x → n ≡ population_at s i q
    go q n e i at true t =
        let found : Some count ≡ Some n = sym (ap (λ x. cond x (Some count) (copy_of old q)) t) ∙ sym (noted.found q) ∙ e in
        let here : p ≡ q = nat_same p q t in
        let level : k ≡ i = four.level k stands ∙ sym (four.level i (subst (λ z. IsAt s i z) (sym here) at)) in
        sym (same_count found) ∙ is ∙ ap (λ z. population_at s z p) level ∙ ap (λ z. population_at s i z) here
    go q n e i at false t = are.each q n (sym (ap (λ x. cond x (Some count) (copy_of old q)) t) ∙ sym (noted.found q) ∙ e) i at
