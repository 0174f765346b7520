-- Squares about the middle of a universe, put into wider ones.
use Rattle.std.proofs.Common.{◌≡◌, ℕ, zero, suc, ◌+◌, ◌-◌, ◌*◌, ◌^◌, ◌≤◌, ◌<◌, [], ◌∷◌, refl, sym, ◌∙◌, ap, arith, subst}
use Rattle.std.proofs.Math.Pow.{pow_mono}
use Rattle.generations_rule.specs.Place.{Place}
use Rattle.square_store.specs.Grid.{Grid, AreSameWithin, blank_grid}
use Rattle.square_store.specs.Pieces.{grid_from}
use Rattle.square_store.specs.Squares.{Draws, Held, IsAt, four_grid, side_at}
use Rattle.square_store.specs.Store.{IsGrown}
use Rattle.square_store.proofs.Counting.{moved_grid}
use Rattle.square_store.proofs.Drawn.{draws_as, draws_four, draws_later, grown_more, twice_below}
use Rattle.generation_engine.specs.declared.leaf_kind.EngineLeaf.{EngineLeaf}
use Rattle.generation_engine.specs.EngineLeaf.{leaf_grid, unstamped}
use Rattle.macrocell_lines.specs.Middle.{half_universe}
use Rattle.macrocell_universes.specs.declared.widening.Parts.{Parts}
use Rattle.macrocell_universes.specs.Middles.{AreAbout, IsBlock, IsWithin, StandAt, grid_in_universe, place_at}

-- ---- blocks

pub dead_block : (f : Place → ℕ) (s : Held EngineLeaf) (level column row z : ℕ) → Draws leaf_grid 8 s level (blank_grid 0) z → ((u v : ℕ) → u < side_at 8 level → v < side_at 8 level → f (place_at (column + u) (row + v)) ≡ 0) → IsBlock f s level column row z
dead_block f s level column row z drawn dead = draws_as leaf_grid 8 s level (blank_grid 0) (grid_from column row (grid_in_universe f)) z (λ u v hu hv. ap unstamped (sym (dead u v hu hv))) drawn

pub block_later : (f : Place → ℕ) (s t : Held EngineLeaf) (level column row p : ℕ) → IsGrown leaf_grid 8 s t → IsBlock f s level column row p → IsBlock f t level column row p
block_later f s t level column row p g block = draws_later leaf_grid 8 s t level (grid_from column row (grid_in_universe f)) p g block

-- four blocks make one of the level above
pub block_four : (f : Place → ℕ) (s t : Held EngineLeaf) (level column row right lower a b c d p : ℕ) → right ≡ column + side_at 8 level → lower ≡ row + side_at 8 level
    → IsBlock f s level column row a → IsBlock f s level right row b → IsBlock f s level column lower c → IsBlock f s level right lower d
    → Draws leaf_grid 8 t (level + 1) (four_grid leaf_grid 8 s (level + 1 - 1) (a ∷ b ∷ c ∷ d ∷ [])) p → IsBlock f t (level + 1) column row p
block_four f s t level column row right lower a b c d p er el ha hb hc hd whole =
    let down : level ≡ level + 1 - 1 = omega arith in
    let U = grid_in_universe f in
    let at = λ (x y q : ℕ) (h : IsBlock f s level x y q). subst (λ l. Draws leaf_grid 8 s l (grid_from x y U) q) down h in
    let n : ℕ = side_at 8 level in
    let wide : n ≡ side_at 8 (level + 1 - 1) = ap (side_at 8) down in
    draws_four leaf_grid 8 s t (level + 1) p a b c d (grid_from column row U) (grid_from column row U) (grid_from right row U) (grid_from column lower U) (grid_from right lower U) (omega arith) whole
    (at column row a ha) (at right row b hb) (at column lower c hc) (at right lower d hd) n wide
    (λ u v hu hv. moved_grid U (column + u) (row + v) (column + (0 + u)) (row + (0 + v)) (omega arith) (omega arith))
    (λ u v hu hv. moved_grid U (right + u) (row + v) (column + (n + u)) (row + (0 + v)) (omega (arith, er)) (omega arith))
    (λ u v hu hv. moved_grid U (column + u) (lower + v) (column + (0 + u)) (row + (n + v)) (omega arith) (omega (arith, el)))
    (λ u v hu hv. moved_grid U (right + u) (lower + v) (column + (n + u)) (row + (n + v)) (omega (arith, er)) (omega (arith, el)))

-- ---- wider

side_most : (level : ℕ) → level < 29 → side_at 8 level ≤ 2147483648
side_most level few = let e : 2 ^ level ≤ 2 ^ 28 = pow_mono {j = 28} (omega (arith, few)) in omega (arith, e)

module _ (f : Place → ℕ) (s0 s1 s2 s3 s4 s5 : Held EngineLeaf) (p : Parts) (z nw ne sw se level : ℕ) (few : p.level < 29) (up : level ≡ p.level + 1)
    (g1 : IsGrown leaf_grid 8 s0 s1) (g2 : IsGrown leaf_grid 8 s1 s2) (g3 : IsGrown leaf_grid 8 s2 s3) (g4 : IsGrown leaf_grid 8 s3 s4) (g5 : IsGrown leaf_grid 8 s4 s5)
    (dead : (k : ℕ) → Draws leaf_grid 8 s1 k (blank_grid 0) z) where
  pub five_grown : IsGrown leaf_grid 8 s0 s5
  five_grown = grown_more leaf_grid 8 s0 s1 s5 g1 (grown_more leaf_grid 8 s1 s2 s5 g2 (grown_more leaf_grid 8 s2 s3 s5 g3 (grown_more leaf_grid 8 s3 s4 s5 g4 g5)))

  g12 : IsGrown leaf_grid 8 s0 s2
  g12 = grown_more leaf_grid 8 s0 s1 s2 g1 g2

  g13 : IsGrown leaf_grid 8 s0 s3
  g13 = grown_more leaf_grid 8 s0 s2 s3 g12 g3

  g14 : IsGrown leaf_grid 8 s0 s4
  g14 = grown_more leaf_grid 8 s0 s3 s4 g13 g4

  dead2 : (k : ℕ) → Draws leaf_grid 8 s2 k (blank_grid 0) z
  dead2 k = draws_later leaf_grid 8 s1 s2 k (blank_grid 0) z g2 (dead k)

  dead3 : (k : ℕ) → Draws leaf_grid 8 s3 k (blank_grid 0) z
  dead3 k = draws_later leaf_grid 8 s2 s3 k (blank_grid 0) z g3 (dead2 k)

  dead4 : (k : ℕ) → Draws leaf_grid 8 s4 k (blank_grid 0) z
  dead4 k = draws_later leaf_grid 8 s3 s4 k (blank_grid 0) z g4 (dead3 k)

  dead5 : (k : ℕ) → Draws leaf_grid 8 s5 k (blank_grid 0) z
  dead5 k = draws_later leaf_grid 8 s4 s5 k (blank_grid 0) z g5 (dead4 k)

  pub wider_about : AreAbout f s0 p
      → Draws leaf_grid 8 s2 level (four_grid leaf_grid 8 s1 (level - 1) (z ∷ z ∷ z ∷ p.nw ∷ [])) nw → Draws leaf_grid 8 s3 level (four_grid leaf_grid 8 s2 (level - 1) (z ∷ z ∷ p.ne ∷ z ∷ [])) ne
      → Draws leaf_grid 8 s4 level (four_grid leaf_grid 8 s3 (level - 1) (z ∷ p.sw ∷ z ∷ p.below_sw ∷ [])) sw → Draws leaf_grid 8 s5 level (four_grid leaf_grid 8 s4 (level - 1) (p.se ∷ z ∷ p.below_se ∷ z ∷ [])) se
      → AreAbout f s5 (record { level = level; nw = nw; ne = ne; sw = sw; se = se; below_sw = z; below_se = z })
  wider_about are dnw' dne' dsw' dse' =
      let L : ℕ = p.level in
      let H : ℕ = half_universe in
      let n : ℕ = side_at 8 L in
      let most = side_most L few in
      let two : side_at 8 (L + 1) ≡ n + n = (let down : L + 1 - 1 ≡ L = omega arith in twice_below 8 (L + 1) (omega arith) ∙ (λ i. side_at 8 (down i) + side_at 8 (down i))) in
      let to = λ (s t : Held EngineLeaf) (a b c d q : ℕ) (h : Draws leaf_grid 8 t level (four_grid leaf_grid 8 s (level - 1) (a ∷ b ∷ c ∷ d ∷ [])) q).
      subst (λ l. Draws leaf_grid 8 t l (four_grid leaf_grid 8 s (l - 1) (a ∷ b ∷ c ∷ d ∷ [])) q) up h in
      let dnw = to s1 s2 z z z p.nw nw dnw' in let dne = to s2 s3 z z p.ne z ne dne' in let dsw = to s3 s4 z p.sw z p.below_sw sw dsw' in let dse = to s4 s5 p.se z p.below_se z se dse' in
      let w = are.within in
      let left = λ (s : Held EngineLeaf) (d : Draws leaf_grid 8 s L (blank_grid 0) z) (row : ℕ). dead_block f s L (H - (n + n)) row z d (λ u v hu hv. w.left (H - (n + n) + u) (row + v) (omega (arith, hu, most))) in
      let right = λ (s : Held EngineLeaf) (d : Draws leaf_grid 8 s L (blank_grid 0) z) (row : ℕ). dead_block f s L (H + n) row z d (λ u v hu hv. w.right (H + n + u) (row + v) (omega arith)) in
      let top = λ (s : Held EngineLeaf) (d : Draws leaf_grid 8 s L (blank_grid 0) z) (column : ℕ). dead_block f s L column (H - (n + n)) z d (λ u v hu hv. w.above (column + u) (H - (n + n) + v) (omega (arith, hv, most))) in
      let inner : H - n ≡ H - (n + n) + n = omega (arith, most) in
      let a : IsBlock f s2 (L + 1) (H - (n + n)) (H - (n + n)) nw = block_four f s1 s2 L (H - (n + n)) (H - (n + n)) (H - n) (H - n) z z z p.nw nw inner inner
      (left s1 (dead L) (H - (n + n))) (top s1 (dead L) (H - n)) (left s1 (dead L) (H - n)) (block_later f s0 s1 L (H - n) (H - n) p.nw g1 are.nw) dnw in
      let b : IsBlock f s3 (L + 1) H (H - (n + n)) ne = block_four f s2 s3 L H (H - (n + n)) (H + n) (H - n) z z p.ne z ne refl inner
      (top s2 (dead2 L) H) (top s2 (dead2 L) (H + n)) (block_later f s0 s2 L H (H - n) p.ne g12 are.ne) (right s2 (dead2 L) (H - n)) dne in
      let c : IsBlock f s4 (L + 1) (H - (n + n)) H sw = block_four f s3 s4 L (H - (n + n)) H (H - n) (H + n) z p.sw z p.below_sw sw inner refl
      (left s3 (dead3 L) H) (block_later f s0 s3 L (H - n) H p.sw g13 are.sw) (left s3 (dead3 L) (H + n)) (block_later f s0 s3 L (H - n) (H + n) p.below_sw g13 are.below_sw) dsw in
      let d : IsBlock f s5 (L + 1) H H se = block_four f s4 s5 L H H (H + n) (H + n) p.se z p.below_se z se refl refl
      (block_later f s0 s4 L H H p.se g14 are.se) (right s4 (dead4 L) H) (block_later f s0 s4 L H (H + n) p.below_se g14 are.below_se) (right s4 (dead4 L) (H + n)) dse in
      let a5 = block_later f s4 s5 (L + 1) (H - (n + n)) (H - (n + n)) nw g5 (block_later f s3 s4 (L + 1) (H - (n + n)) (H - (n + n)) nw g4 (block_later f s2 s3 (L + 1) (H - (n + n)) (H - (n + n)) nw g3 a)) in
      let b5 = block_later f s4 s5 (L + 1) H (H - (n + n)) ne g5 (block_later f s3 s4 (L + 1) H (H - (n + n)) ne g4 b) in
      let c5 = block_later f s4 s5 (L + 1) (H - (n + n)) H sw g5 c in
      let under = λ (column : ℕ). dead_block f s5 (L + 1) column (H + (n + n)) z (dead5 (L + 1)) (λ u v hu hv. w.below (column + u) (H + (n + n) + v) (omega arith)) in
      let made : AreAbout f s5 (record { level = L + 1; nw = nw; ne = ne; sw = sw; se = se; below_sw = z; below_se = z }) = record {
        within = record {
          left = λ u v h. w.left u v (omega (arith, h, two));
          right = λ u v h. w.right u v (omega (arith, h, two));
          above = λ u v h. w.above u v (omega (arith, h, two));
          below = λ u v h. w.below u v (omega (arith, h, two));
        };
        nw = subst (λ m. IsBlock f s5 (L + 1) (H - m) (H - m) nw) (sym two) a5;
        ne = subst (λ m. IsBlock f s5 (L + 1) H (H - m) ne) (sym two) b5;
        sw = subst (λ m. IsBlock f s5 (L + 1) (H - m) H sw) (sym two) c5;
        se = d;
        below_sw = subst (λ m. IsBlock f s5 (L + 1) (H - m) (H + m) z) (sym two) (under (H - (n + n)));
        below_se = subst (λ m. IsBlock f s5 (L + 1) H (H + m) z) (sym two) (under H);
      } in
      subst (λ l. AreAbout f s5 (record { level = l; nw = nw; ne = ne; sw = sw; se = se; below_sw = z; below_se = z })) (sym up) made

-- ---- the universe

pub root_drawn : (f : Place → ℕ) (s t : Held EngineLeaf) (p : Parts) (root : ℕ) → p.level ≡ 29 → AreAbout f s p → Draws leaf_grid 8 t 30 (four_grid leaf_grid 8 s 29 (p.nw ∷ p.ne ∷ p.sw ∷ p.se ∷ [])) root → Draws leaf_grid 8 t 30 (grid_in_universe f) root
root_drawn f s t p root is are whole =
    let H : ℕ = half_universe in
    let n : side_at 8 p.level ≡ 4294967296 = ap (side_at 8) is in
    let none : H - side_at 8 p.level ≡ 0 = omega (arith, n) in
    let at = λ (column row x y q : ℕ) (e : x ≡ column) (g : y ≡ row) (h : IsBlock f s p.level x y q).
    subst (λ l. IsBlock f s l column row q) is (subst (λ c. IsBlock f s p.level c row q) e (subst (λ r. IsBlock f s p.level x r q) g h)) in
    draws_as leaf_grid 8 t 30 (grid_from 0 0 (grid_in_universe f)) (grid_in_universe f) root (λ u v hu hv. moved_grid (grid_in_universe f) (0 + u) (0 + v) u v (omega arith) (omega arith))
    (block_four f s t 29 0 0 H H p.nw p.ne p.sw p.se root refl refl (at 0 0 _ _ p.nw none none are.nw) (at H 0 _ _ p.ne refl none are.ne) (at 0 H _ _ p.sw none refl are.sw) (at H H _ _ p.se refl refl are.se) whole)
