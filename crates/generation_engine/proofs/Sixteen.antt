-- A square cut twice: sixteen squares, row by row.
use Rattle.std.proofs.Common.{◌≡◌, ℕ, zero, suc, ◌+◌, ◌-◌, ◌*◌, ◌<◌, List, [], ◌∷◌, length, refl, sym, ◌∙◌, ap, subst, arith}
use Rattle.std.specs.Prelude.{slice_index_or}
use Rattle.square_store.specs.Grid.{Grid, quartered, AreSameWithin}
use Rattle.square_store.specs.Squares.{Held, side_at, grid_at, Draws}
use Rattle.square_store.proofs.Quarters.{quarters_of}
use Rattle.stamped_tree.proofs.Parts.{same_default}
use Rattle.generation_engine.specs.declared.leaf_kind.EngineLeaf.{EngineLeaf}
use Rattle.generation_engine.specs.EngineLeaf.{leaf_grid}
use Rattle.generation_engine.specs.Kept.{AreDrawn}
use Rattle.square_store.specs.Seen.{AreQuartersAt}
use Rattle.generation_engine.specs.Results.{part_from}
use Rattle.square_store.proofs.Drawn.{twice_below}

module _ (s : Held EngineLeaf) (k p : ℕ) (parts : List ℕ) (some : 0 < k) (cut : AreQuartersAt leaf_grid 8 s k p parts) where
  n : ℕ
  n = side_at 8 (k - 1)

  f : Grid
  f = grid_at leaf_grid 8 s k p

  g : ℕ → Grid
  g i = grid_at leaf_grid 8 s (k - 1) (slice_index_or parts i 0)

  whole : AreSameWithin (n + n) (quartered n (g 0) (g 1) (g 2) (g 3)) f
  unfolding n f g
  whole u v hu hv = let e = twice_below 8 k some in sym (cut.draws.same u v (omega (arith, hu, e)) (omega (arith, hv, e)))

  part_at : (i x y : ℕ) → i < 4 → AreSameWithin n (g i) (λ u v. f (n * x + u) (n * y + v)) → Draws leaf_grid 8 s (k - 1) (part_from f (n * x) (n * y)) (slice_index_or parts i 0)
  unfolding n f g
  part_at i x y h same = record { stands = cut.stand i h; same = same }

  none : (u : ℕ) → u ≡ n * 0 + u
  none u = omega arith

  once : (u : ℕ) → n + u ≡ n * 1 + u
  once u = omega arith

  -- a quarter of a square has the states there
  quarter_at : (x y : ℕ) → x < 2 → y < 2 → Draws leaf_grid 8 s (k - 1) (part_from f (n * x) (n * y)) (slice_index_or parts (2 * y + x) 0)
  quarter_at zero zero hx hy = part_at 0 0 0 (omega arith) (λ u v hu hv. (quarters_of n (g 0) (g 1) (g 2) (g 3) f whole).nw u v hu hv ∙ ap (λ i. f i v) (none u) ∙ ap (λ j. f (n * 0 + u) j) (none v))
  quarter_at (suc zero) zero hx hy = part_at 1 1 0 (omega arith) (λ u v hu hv. (quarters_of n (g 0) (g 1) (g 2) (g 3) f whole).ne u v hu hv ∙ ap (λ i. f i v) (once u) ∙ ap (λ j. f (n * 1 + u) j) (none v))
  quarter_at zero (suc zero) hx hy = part_at 2 0 1 (omega arith) (λ u v hu hv. (quarters_of n (g 0) (g 1) (g 2) (g 3) f whole).sw u v hu hv ∙ ap (λ i. f i (n + v)) (none u) ∙ ap (λ j. f (n * 0 + u) j) (once v))
  quarter_at (suc zero) (suc zero) hx hy = part_at 3 1 1 (omega arith) (λ u v hu hv. (quarters_of n (g 0) (g 1) (g 2) (g 3) f whole).se u v hu hv ∙ ap (λ i. f i (n + v)) (once u) ∙ ap (λ j. f (n * 1 + u) j) (once v))
  quarter_at (suc (suc x)) y hx hy = absurd (omega (arith, hx))
  quarter_at x (suc (suc y)) hx hy = absurd (omega (arith, hy))

  pub quarter_drawn : (x y : ℕ) → x < 2 → y < 2
      → Draws leaf_grid 8 s (k - 1) (part_from (grid_at leaf_grid 8 s k p) (side_at 8 (k - 1) * x) (side_at 8 (k - 1) * y)) (slice_index_or parts (2 * y + x) 0)
  unfolding n f g
  quarter_drawn = quarter_at

-- a quarter of a quarter
twice_in : (m x x' u : ℕ) → (m + m) * x + (m * x' + u) ≡ m * (2 * x + x') + u
twice_in m x x' u = grind arith

pub sixteenth_drawn : (s : Held EngineLeaf) (k p : ℕ) (outer inner : List ℕ) (x y o : ℕ) → 1 < k → AreQuartersAt leaf_grid 8 s k p outer → AreQuartersAt leaf_grid 8 s (k - 1) (slice_index_or outer (2 * y + x) o) inner → (x' y' i d : ℕ) → x < 2 → y < 2 → x' < 2 → y' < 2 → i ≡ 2 * y' + x'
    → Draws leaf_grid 8 s (k - 1 - 1) (part_from (grid_at leaf_grid 8 s k p) (side_at 8 (k - 1 - 1) * (2 * x + x')) (side_at 8 (k - 1 - 1) * (2 * y + y'))) (slice_index_or inner i d)
sixteenth_drawn s k p outer inner x y o more cut cut' x' y' i d hx hy hx' hy' e =
    let m = side_at 8 (k - 1 - 1) in
    let n = side_at 8 (k - 1) in
    let c = grid_at leaf_grid 8 s k p in
    let w : n ≡ m + m = twice_below 8 (k - 1) (omega (arith, more)) in
    let listed : slice_index_or outer (2 * y + x) o ≡ slice_index_or outer (2 * y + x) 0 = same_default outer (2 * y + x) o 0 (let l = cut.four in omega (arith, hx, hy, l)) in
    let big = quarter_drawn s k p outer (omega (arith, more)) cut x y hx hy in
    let small = quarter_drawn s (k - 1) _ inner (omega (arith, more)) cut' x' y' hx' hy' in
    let there : slice_index_or inner (2 * y' + x') 0 ≡ slice_index_or inner i d = (let l = cut'.four in let h : i < length inner = omega (arith, e, hx', hy', l) in ap (λ j. slice_index_or inner j 0) (sym e) ∙ same_default inner i 0 d h) in
    subst (λ q. Draws leaf_grid 8 s (k - 1 - 1) (part_from c (m * (2 * x + x')) (m * (2 * y + y'))) q) there (record {
      stands = small.stands;
      same = λ u v hu hv.
          (let iu : m * x' + u < n = inside m x' u n hx' hu w in
          let iv : m * y' + v < n = inside m y' v n hy' hv w in
          small.same u v hu hv ∙ ap (λ q. grid_at leaf_grid 8 s (k - 1) q (m * x' + u) (m * y' + v)) listed ∙ big.same (m * x' + u) (m * y' + v) iu iv
          ∙ ap (λ z. c (z * x + (m * x' + u)) (z * y + (m * y' + v))) w ∙ ap (λ z. c z ((m + m) * y + (m * y' + v))) (twice_in m x x' u) ∙ ap (λ z. c (m * (2 * x + x') + u) z) (twice_in m y y' v));
    })
  where
    inside : (m x u n : ℕ) → x < 2 → u < m → n ≡ m + m → m * x + u < n
    inside m zero u n h k e = omega (arith, k, e)
    inside m (suc zero) u n h k e = omega (arith, k, e)
    inside m (suc (suc x)) u n h k e = absurd (omega (arith, h))

module _ (s : Held EngineLeaf) (k p : ℕ) (outer nw ne sw se : List ℕ) (o0 o1 o2 o3 d0 d1 d2 d3 d4 d5 d6 d7 d8 d9 d10 d11 d12 d13 d14 d15 : ℕ) (more : 1 < k) (cut : AreQuartersAt leaf_grid 8 s k p outer)
    (cut_nw : AreQuartersAt leaf_grid 8 s (k - 1) (slice_index_or outer 0 o0) nw) (cut_ne : AreQuartersAt leaf_grid 8 s (k - 1) (slice_index_or outer 1 o1) ne) (cut_sw : AreQuartersAt leaf_grid 8 s (k - 1) (slice_index_or outer 2 o2) sw) (cut_se : AreQuartersAt leaf_grid 8 s (k - 1) (slice_index_or outer 3 o3) se) where
  listed : List ℕ
  listed = slice_index_or nw 0 d0 ∷ slice_index_or nw 1 d1 ∷ slice_index_or ne 0 d2 ∷ slice_index_or ne 1 d3 ∷ slice_index_or nw 2 d4 ∷ slice_index_or nw 3 d5 ∷ slice_index_or ne 2 d6 ∷ slice_index_or ne 3 d7 ∷ slice_index_or sw 0 d8 ∷ slice_index_or sw 1 d9 ∷ slice_index_or se 0 d10 ∷ slice_index_or se 1 d11 ∷ slice_index_or sw 2 d12 ∷ slice_index_or sw 3 d13 ∷ slice_index_or se 2 d14 ∷ slice_index_or se 3 d15 ∷ []

  tile : (a b : ℕ) → a < 4 → b < 4 → Draws leaf_grid 8 s (k - 1 - 1) (part_from (grid_at leaf_grid 8 s k p) (side_at 8 (k - 1 - 1) * a) (side_at 8 (k - 1 - 1) * b)) (slice_index_or listed (4 * b + a) 0)
  unfolding listed
  tile zero zero ha hb = sixteenth_drawn s k p outer nw 0 0 o0 more cut cut_nw 0 0 0 d0 (omega arith) (omega arith) (omega arith) (omega arith) refl
  tile (suc zero) zero ha hb = sixteenth_drawn s k p outer nw 0 0 o0 more cut cut_nw 1 0 1 d1 (omega arith) (omega arith) (omega arith) (omega arith) refl
  tile (suc (suc zero)) zero ha hb = sixteenth_drawn s k p outer ne 1 0 o1 more cut cut_ne 0 0 0 d2 (omega arith) (omega arith) (omega arith) (omega arith) refl
  tile (suc (suc (suc zero))) zero ha hb = sixteenth_drawn s k p outer ne 1 0 o1 more cut cut_ne 1 0 1 d3 (omega arith) (omega arith) (omega arith) (omega arith) refl
  tile zero (suc zero) ha hb = sixteenth_drawn s k p outer nw 0 0 o0 more cut cut_nw 0 1 2 d4 (omega arith) (omega arith) (omega arith) (omega arith) refl
  tile (suc zero) (suc zero) ha hb = sixteenth_drawn s k p outer nw 0 0 o0 more cut cut_nw 1 1 3 d5 (omega arith) (omega arith) (omega arith) (omega arith) refl
  tile (suc (suc zero)) (suc zero) ha hb = sixteenth_drawn s k p outer ne 1 0 o1 more cut cut_ne 0 1 2 d6 (omega arith) (omega arith) (omega arith) (omega arith) refl
  tile (suc (suc (suc zero))) (suc zero) ha hb = sixteenth_drawn s k p outer ne 1 0 o1 more cut cut_ne 1 1 3 d7 (omega arith) (omega arith) (omega arith) (omega arith) refl
  tile zero (suc (suc zero)) ha hb = sixteenth_drawn s k p outer sw 0 1 o2 more cut cut_sw 0 0 0 d8 (omega arith) (omega arith) (omega arith) (omega arith) refl
  tile (suc zero) (suc (suc zero)) ha hb = sixteenth_drawn s k p outer sw 0 1 o2 more cut cut_sw 1 0 1 d9 (omega arith) (omega arith) (omega arith) (omega arith) refl
  tile (suc (suc zero)) (suc (suc zero)) ha hb = sixteenth_drawn s k p outer se 1 1 o3 more cut cut_se 0 0 0 d10 (omega arith) (omega arith) (omega arith) (omega arith) refl
  tile (suc (suc (suc zero))) (suc (suc zero)) ha hb = sixteenth_drawn s k p outer se 1 1 o3 more cut cut_se 1 0 1 d11 (omega arith) (omega arith) (omega arith) (omega arith) refl
  tile zero (suc (suc (suc zero))) ha hb = sixteenth_drawn s k p outer sw 0 1 o2 more cut cut_sw 0 1 2 d12 (omega arith) (omega arith) (omega arith) (omega arith) refl
  tile (suc zero) (suc (suc (suc zero))) ha hb = sixteenth_drawn s k p outer sw 0 1 o2 more cut cut_sw 1 1 3 d13 (omega arith) (omega arith) (omega arith) (omega arith) refl
  tile (suc (suc zero)) (suc (suc (suc zero))) ha hb = sixteenth_drawn s k p outer se 1 1 o3 more cut cut_se 0 1 2 d14 (omega arith) (omega arith) (omega arith) (omega arith) refl
  tile (suc (suc (suc zero))) (suc (suc (suc zero))) ha hb = sixteenth_drawn s k p outer se 1 1 o3 more cut cut_se 1 1 3 d15 (omega arith) (omega arith) (omega arith) (omega arith) refl
  tile (suc (suc (suc (suc a)))) b ha hb = absurd (omega (arith, ha))
  tile a (suc (suc (suc (suc b)))) ha hb = absurd (omega (arith, hb))

  pub sixteen_drawn : AreDrawn s (k - 1 - 1) 4 (λ a b. part_from (grid_at leaf_grid 8 s k p) (side_at 8 (k - 1 - 1) * a) (side_at 8 (k - 1 - 1) * b)) (
      slice_index_or nw 0 d0 ∷ slice_index_or nw 1 d1 ∷ slice_index_or ne 0 d2 ∷ slice_index_or ne 1 d3 ∷ slice_index_or nw 2 d4 ∷ slice_index_or nw 3 d5 ∷ slice_index_or ne 2 d6 ∷ slice_index_or ne 3 d7 ∷ slice_index_or sw 0 d8 ∷ slice_index_or sw 1 d9 ∷ slice_index_or se 0 d10 ∷ slice_index_or se 1 d11 ∷ slice_index_or sw 2 d12 ∷ slice_index_or sw 3 d13 ∷ slice_index_or se 2 d14 ∷ slice_index_or se 3 d15 ∷ [])
  unfolding listed
  sixteen_drawn = record { count = refl; draws = tile }
