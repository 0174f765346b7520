-- Squares of a universe from columns and rows on, and those about its middle.
use Rattle.std.proofs.Common.{◌≡◌, ℕ, suc, ◌+◌, ◌-◌, ◌*◌, ◌/◌, ◌%◌, ◌^◌, ◌<◌, ◌≤◌, arith, Bool, List, refl, sym, ap, subst, ◌∙◌, inl, inr}
use Rattle.std.specs.Prelude.{slice_index, slice_index_or}
use Rattle.std.proofs.Math.Nat.{pow-le-pow_right}
use Rattle.std.proofs.lemmas.Bool.{cases_lt}
use Rattle.stamped_writes.specs.declared.write.Write.{Write}
use Rattle.bitplane_kernel.specs.Square.{state_at}
use Rattle.square_store.specs.Grid.{Grid}
use Rattle.square_store.specs.Seen.{AreQuartersAt}
use Rattle.square_store.specs.Squares.{Held, IsAt, grid_at, side_at}
use Rattle.square_store.proofs.Drawn.{twice_below}
use Rattle.square_store.proofs.Quarters.{quarter_nw, quarter_ne, quarter_sw, quarter_se}
use Rattle.generation_engine.specs.declared.leaf_kind.EngineLeaf.{EngineLeaf}
use Rattle.generation_engine.specs.EngineLeaf.{leaf_grid}
use Rattle.macrocell_lines.specs.declared.line.Line.TheVariants as lines
use Rattle.macrocell_lines.specs.declared.lines.Lines.{Lines}
use Rattle.macrocell_lines.specs.declared.middle.Middle.{Middle}
use Rattle.macrocell_lines.specs.Squares.{Four, seen_from, square_of}
use Rattle.macrocell_lines.specs.Listing.{IsWalked}
use Rattle.macrocell_lines.specs.Raised.{raised_states, square_of_pair}
use Rattle.macrocell_lines.specs.Middle.{IsMiddle, IsSeenAt, half_universe, states_about}
use Rattle.macrocell_lines.proofs.PairSquares.{high, pair_at, side_is}
use Rattle.macrocell_lines.proofs.Rows.{raised_in, raised_last}
use Rattle.macrocell_lines.proofs.States.{double as double_of, is_square, same_square}
use Rattle.macrocell_lines.proofs.Walked.{IsPut, four_walked}

pub root_seen : (s : Held EngineLeaf) (root : ℕ) → IsAt s 30 root → IsSeenAt s root 30 0 0 root
root_seen s root at = record { stands = at; same = λ u v hu hv. let x : u ≡ 0 + u = omega arith in let y : v ≡ 0 + v = omega arith in λ i. grid_at leaf_grid 8 s 30 root (x i) (y i) }

pub seen_same : (s : Held EngineLeaf) (root level c r c' r' part : ℕ) → c ≡ c' → r ≡ r' → IsSeenAt s root level c r part → IsSeenAt s root level c' r' part
seen_same s root level c r c' r' part e g is = subst (λ x. IsSeenAt s root level x r' part) e (subst (λ y. IsSeenAt s root level c y part) g is)

-- the quarters of what is seen
module _ (s : Held EngineLeaf) (root level c r part : ℕ) (xs : List ℕ) (some : 0 < level) (is : IsSeenAt s root level c r part) (cut : AreQuartersAt leaf_grid 8 s level part xs) where
  n : ℕ
  n = side_at 8 (level - 1)

  two : side_at 8 level ≡ side_at 8 (level - 1) + side_at 8 (level - 1)
  two = twice_below 8 level some

  below : ℕ → Grid
  below i = grid_at leaf_grid 8 s (level - 1) (slice_index_or xs i 0)

  pub nw_seen : IsSeenAt s root (level - 1) c r (slice_index_or xs 0 0)
  unfolding n below
  nw_seen = record {
    stands = cut.stand 0 (omega arith);
    same = λ u v hu hv.
        sym (quarter_nw n (below 0) (below 1) (below 2) (below 3) u v hu hv) ∙ sym (cut.draws.same u v (omega (arith, hu, two)) (omega (arith, hv, two))) ∙ is.same u v (omega (arith, hu, two)) (omega (arith, hv, two));
  }

  pub ne_seen : IsSeenAt s root (level - 1) (c + side_at 8 (level - 1)) r (slice_index_or xs 1 0)
  unfolding n below
  ne_seen = record {
    stands = cut.stand 1 (omega arith);
    same = λ u v hu hv. let x : c + (n + u) ≡ c + n + u = omega arith in
        sym (quarter_ne n (below 0) (below 1) (below 2) (below 3) u v hv) ∙ sym (cut.draws.same (n + u) v (omega (arith, hu, two)) (omega (arith, hv, two))) ∙ is.same (n + u) v (omega (arith, hu, two)) (omega (arith, hv, two))
        ∙ ap (λ z. grid_at leaf_grid 8 s 30 root z (r + v)) x;
  }

  pub sw_seen : IsSeenAt s root (level - 1) c (r + side_at 8 (level - 1)) (slice_index_or xs 2 0)
  unfolding n below
  sw_seen = record {
    stands = cut.stand 2 (omega arith);
    same = λ u v hu hv. let y : r + (n + v) ≡ r + n + v = omega arith in
        sym (quarter_sw n (below 0) (below 1) (below 2) (below 3) u v hu) ∙ sym (cut.draws.same u (n + v) (omega (arith, hu, two)) (omega (arith, hv, two))) ∙ is.same u (n + v) (omega (arith, hu, two)) (omega (arith, hv, two))
        ∙ ap (λ z. grid_at leaf_grid 8 s 30 root (c + u) z) y;
  }

  pub se_seen : IsSeenAt s root (level - 1) (c + side_at 8 (level - 1)) (r + side_at 8 (level - 1)) (slice_index_or xs 3 0)
  unfolding n below
  se_seen = record {
    stands = cut.stand 3 (omega arith);
    same = λ u v hu hv. let x : c + (n + u) ≡ c + n + u = omega arith in let y : r + (n + v) ≡ r + n + v = omega arith in
        sym (quarter_se n (below 0) (below 1) (below 2) (below 3) u v) ∙ sym (cut.draws.same (n + u) (n + v) (omega (arith, hu, two)) (omega (arith, hv, two))) ∙ is.same (n + u) (n + v) (omega (arith, hu, two)) (omega (arith, hv, two))
        ∙ (λ i. grid_at leaf_grid 8 s 30 root (x i) (y i));
  }

-- a square of at most level 29 above a leaf is no wider than half a universe
pub within_half : (level : ℕ) → level ≤ 29 → side_at 8 level ≤ half_universe
within_half level h = let most : 2 ^ level ≤ 2 ^ 29 = pow-le-pow_right {n = 2} (omega arith) {i = level} {j = 29} h in go (2 ^ level) most
  where
    go : (m : ℕ) → m ≤ 2 ^ 29 → 8 * m ≤ half_universe
    go m g = omega (arith, g)

-- ---- pairs about the middle

-- the states of a pair, from the universe's columns and rows
pub pair_seen : (s : Held EngineLeaf) (root j c r r' upper lower : ℕ) → IsSeenAt s root j c r upper → IsSeenAt s root j c r' lower → r' ≡ r + side_at 8 j
    → (u v : ℕ) → u < side_at 8 j → v < side_at 8 j → raised_states s (pair_at j upper lower) u v ≡ (grid_at leaf_grid 8 s 30 root (c + u) (r + suc v)).state
pair_seen s root j c r r' upper lower up low e u v hu hv =
    let n = side_at 8 j in
    let a = grid_at leaf_grid 8 s j upper in
    let b = grid_at leaf_grid 8 s j lower in
    elim (cases_lt (suc v) n) [
      | inl more ↦ ap (λ (w : Write). w.state) (raised_in n a b u v more ∙ up.same u (suc v) hu more)
      | inr last ↦ (let y : r' + 0 ≡ r + suc v = omega (arith, e, last, hv) in
          ap (λ (w : Write). w.state) (raised_last n a b u v last ∙ low.same u 0 hu (omega (arith, hv)) ∙ ap (λ z. grid_at leaf_grid 8 s 30 root (c + u) z) y))
    ]

-- the square about the middle, by four pairs
pub about_parts : (s : Held EngineLeaf) (root level j u1 l1 u2 l2 u3 l3 u4 l4 : ℕ) → level ≡ suc (j + 3) → j ≤ 28
    → IsSeenAt s root j (half_universe - side_at 8 j) (half_universe - side_at 8 j) u1 → IsSeenAt s root j (half_universe - side_at 8 j) half_universe l1
    → IsSeenAt s root j half_universe (half_universe - side_at 8 j) u2 → IsSeenAt s root j half_universe half_universe l2
    → IsSeenAt s root j (half_universe - side_at 8 j) half_universe u3 → IsSeenAt s root j (half_universe - side_at 8 j) (half_universe + side_at 8 j) l3
    → IsSeenAt s root j half_universe half_universe u4 → IsSeenAt s root j half_universe (half_universe + side_at 8 j) l4
    → square_of level (states_about s root (2 ^ (level - 1))) ≡ Four (square_of_pair s (pair_at j u1 l1)) (square_of_pair s (pair_at j u2 l2)) (square_of_pair s (pair_at j u3 l3)) (square_of_pair s (pair_at j u4 l4))
unfolding square_of
about_parts s root level j u1 l1 u2 l2 u3 l3 u4 l4 e few su1 sl1 su2 sl2 su3 sl3 su4 sl4 =
    let K = j + 3 in
    let n = side_at 8 j in
    let H = half_universe in
    let side : 2 ^ K ≡ n = side_is j in
    let down : level - 1 ≡ K = omega (arith, e) in
    let half : 2 ^ (level - 1) ≡ n = ap (λ m. 2 ^ m) down ∙ side in
    let fits : n ≤ H = within_half j (omega (arith, few)) in
    let G : ℕ → ℕ → ℕ = states_about s root (2 ^ (level - 1)) in
    let is : (u v : ℕ) → G u v ≡ (grid_at leaf_grid 8 s 30 root (H - n + u) (H - n + suc v)).state = λ u v. ap (λ m. (grid_at leaf_grid 8 s 30 root (H - m + u) (H - m + suc v)).state) half in
    let a : square_of K G ≡ square_of_pair s (pair_at j u1 l1) = same_square K G _ (λ u v hu hv.
    is u v ∙ sym (pair_seen s root j (H - n) (H - n) H u1 l1 su1 sl1 (omega (arith, fits)) u v (omega (arith, hu, side)) (omega (arith, hv, side)))) in
    let b : square_of K (seen_from (2 ^ K) 0 G) ≡ square_of_pair s (pair_at j u2 l2) = same_square K _ _ (λ u v hu hv.
    let x : H - n + (2 ^ K + u) ≡ H + u = omega (arith, fits, side) in let y : H - n + suc (0 + v) ≡ H - n + suc v = omega arith in
    is (2 ^ K + u) (0 + v) ∙ (λ i. (grid_at leaf_grid 8 s 30 root (x i) (y i)).state)
    ∙ sym (pair_seen s root j H (H - n) H u2 l2 su2 sl2 (omega (arith, fits)) u v (omega (arith, hu, side)) (omega (arith, hv, side)))) in
    let c : square_of K (seen_from 0 (2 ^ K) G) ≡ square_of_pair s (pair_at j u3 l3) = same_square K _ _ (λ u v hu hv.
    let x : H - n + (0 + u) ≡ H - n + u = omega arith in let y : H - n + suc (2 ^ K + v) ≡ H + suc v = omega (arith, fits, side) in
    is (0 + u) (2 ^ K + v) ∙ (λ i. (grid_at leaf_grid 8 s 30 root (x i) (y i)).state)
    ∙ sym (pair_seen s root j (H - n) H (H + n) u3 l3 su3 sl3 refl u v (omega (arith, hu, side)) (omega (arith, hv, side)))) in
    let d : square_of K (seen_from (2 ^ K) (2 ^ K) G) ≡ square_of_pair s (pair_at j u4 l4) = same_square K _ _ (λ u v hu hv.
    let x : H - n + (2 ^ K + u) ≡ H + u = omega (arith, fits, side) in let y : H - n + suc (2 ^ K + v) ≡ H + suc v = omega (arith, fits, side) in
    is (2 ^ K + u) (2 ^ K + v) ∙ (λ i. (grid_at leaf_grid 8 s 30 root (x i) (y i)).state)
    ∙ sym (pair_seen s root j H H (H + n) u4 l4 su4 sl4 refl u v (omega (arith, hu, side)) (omega (arith, hv, side)))) in
    ap (λ m. square_of m G) e ∙ (λ i. Four (a i) (b i) (c i) (d i))

-- it is walked over by walks over the four
pub about_walked : (of_two : Bool) (s : Held EngineLeaf) (root level j u1 l1 u2 l2 u3 l3 u4 l4 na nb nc nd n : ℕ) (s0 s1 s2 s3 s4 s5 : Lines) → level ≡ suc (j + 3) → j ≤ 28
    → IsSeenAt s root j (half_universe - side_at 8 j) (half_universe - side_at 8 j) u1 → IsSeenAt s root j (half_universe - side_at 8 j) half_universe l1
    → IsSeenAt s root j half_universe (half_universe - side_at 8 j) u2 → IsSeenAt s root j half_universe half_universe l2
    → IsSeenAt s root j (half_universe - side_at 8 j) half_universe u3 → IsSeenAt s root j (half_universe - side_at 8 j) (half_universe + side_at 8 j) l3
    → IsSeenAt s root j half_universe half_universe u4 → IsSeenAt s root j half_universe (half_universe + side_at 8 j) l4
    → IsWalked of_two (square_of_pair s) s0 s1 (square_of_pair s (pair_at j u1 l1)) na → IsWalked of_two (square_of_pair s) s1 s2 (square_of_pair s (pair_at j u2 l2)) nb
    → IsWalked of_two (square_of_pair s) s2 s3 (square_of_pair s (pair_at j u3 l3)) nc → IsWalked of_two (square_of_pair s) s3 s4 (square_of_pair s (pair_at j u4 l4)) nd
    → IsPut s4 s5 (lines.Four level na nb nc nd) n → IsWalked of_two (square_of_pair s) s0 s5 (square_of level (states_about s root (2 ^ (level - 1)))) n
about_walked of_two s root level j u1 l1 u2 l2 u3 l3 u4 l4 na nb nc nd n s0 s1 s2 s3 s4 s5 e few su1 sl1 su2 sl2 su3 sl3 su4 sl4 wa wb wc wd put =
    let K = j + 3 in
    subst (λ q. IsWalked of_two (square_of_pair s) s0 s5 q n) (sym (about_parts s root level j u1 l1 u2 l2 u3 l3 u4 l4 e few su1 sl1 su2 sl2 su3 sl3 su4 sl4))
    (four_walked of_two (square_of_pair s) s0 s1 s2 s3 s4 s5 K level na nb nc nd n
    (square_of_pair s (pair_at j u1 l1)) (square_of_pair s (pair_at j u2 l2)) (square_of_pair s (pair_at j u3 l3)) (square_of_pair s (pair_at j u4 l4))
    (is_square K _) (is_square K _) (is_square K _) (is_square K _)
    (high of_two j (square_of_pair s (pair_at j u1 l1)) (square_of_pair s (pair_at j u2 l2)) (square_of_pair s (pair_at j u3 l3)) (square_of_pair s (pair_at j u4 l4)) (is_square K _)) e wa wb wc wd put)

-- ---- blocks about the middle

pub block_about : (s : Held EngineLeaf) (root level half c r : ℕ) (states : List ℕ) → 1 ≤ level → level ≤ 3 → half ≡ 2 ^ (level - 1) → c ≡ 4 - half → r ≡ 4 - half
    → ((i : ℕ) → i < 64 → slice_index states i ≡ states_about s root 4 (i % 8) (i / 8))
    → square_of level (seen_from c r (state_at 8 states)) ≡ square_of level (states_about s root (2 ^ (level - 1)))
block_about s root level half c r states some few hs ec er is =
    let most : 2 ^ (level - 1) ≤ 2 ^ 2 = pow-le-pow_right {n = 2} (omega arith) {i = level - 1} {j = 2} (omega (arith, few)) in
    let double : 2 ^ level ≡ 2 ^ (level - 1) + 2 ^ (level - 1) = (let up : level ≡ suc (level - 1) = omega (arith, some) in ap (λ m. 2 ^ m) up ∙ double_of (level - 1)) in
    same_square level _ _ (λ u v hu hv.
    let i = 8 * (r + v) + (c + u) in
    let h = 2 ^ (level - 1) in
    let small : c + u < 8 = omega (arith, hu, ec, hs, most, double) in
    let low : r + v < 8 = omega (arith, hv, er, hs, most, double) in
    let x : i % 8 ≡ c + u = omega (arith, small) in
    let y : i / 8 ≡ r + v = omega (arith, small) in
    let column : half_universe - 4 + i % 8 ≡ half_universe - h + u = omega (arith, x, ec, hs, most) in
    let row : half_universe - 4 + suc (i / 8) ≡ half_universe - h + suc v = omega (arith, y, er, hs, most) in
    is i (omega (arith, small, low)) ∙ (λ j. (grid_at leaf_grid 8 s 30 root (column j) (row j)).state))

-- ---- four squares about the middle, and those of the level below

part_is : (s : Held EngineLeaf) (root level c r a b : ℕ) → a ≡ b → IsSeenAt s root level c r b → IsSeenAt s root level c r a
part_is s root level c r a b e is = subst (λ p. IsSeenAt s root level c r p) (sym e) is

module _ (s : Held EngineLeaf) (root : ℕ) (m : Middle) (xa xb xc xd : List ℕ) (some : 0 < m.level) (few : m.level ≤ 29) (is : IsMiddle s root m)
    (ca : AreQuartersAt leaf_grid 8 s m.level m.nw xa) (cb : AreQuartersAt leaf_grid 8 s m.level m.ne xb) (cc : AreQuartersAt leaf_grid 8 s m.level m.sw xc) (cd : AreQuartersAt leaf_grid 8 s m.level m.se xd) where
  step : half_universe - side_at 8 m.level + side_at 8 (m.level - 1) ≡ half_universe - side_at 8 (m.level - 1)
  step = let double = twice_below 8 m.level some in let fits = within_half m.level few in omega (arith, double, fits)

  pub nw_inner : IsSeenAt s root (m.level - 1) (half_universe - side_at 8 (m.level - 1)) (half_universe - side_at 8 (m.level - 1)) (slice_index_or xa 3 0)
  nw_inner = seen_same s root (m.level - 1) _ _ _ _ _ step step (se_seen s root m.level _ _ m.nw xa some is.nw ca)

  pub ne_inner : IsSeenAt s root (m.level - 1) half_universe (half_universe - side_at 8 (m.level - 1)) (slice_index_or xb 2 0)
  ne_inner = seen_same s root (m.level - 1) _ _ _ _ _ refl step (sw_seen s root m.level _ _ m.ne xb some is.ne cb)

  pub sw_inner : IsSeenAt s root (m.level - 1) (half_universe - side_at 8 (m.level - 1)) half_universe (slice_index_or xc 1 0)
  sw_inner = seen_same s root (m.level - 1) _ _ _ _ _ step refl (ne_seen s root m.level _ _ m.sw xc some is.sw cc)

  pub se_inner : IsSeenAt s root (m.level - 1) half_universe half_universe (slice_index_or xd 0 0)
  se_inner = nw_seen s root m.level _ _ m.se xd some is.se cd

  -- and those below the two in the south
  pub sw_below : IsSeenAt s root (m.level - 1) (half_universe - side_at 8 (m.level - 1)) (half_universe + side_at 8 (m.level - 1)) (slice_index_or xc 3 0)
  sw_below = seen_same s root (m.level - 1) _ _ _ _ _ step refl (se_seen s root m.level _ _ m.sw xc some is.sw cc)

  pub se_below : IsSeenAt s root (m.level - 1) half_universe (half_universe + side_at 8 (m.level - 1)) (slice_index_or xd 2 0)
  se_below = sw_seen s root m.level _ _ m.se xd some is.se cd

  pub inner_middle : (a b c d : ℕ) → a ≡ slice_index_or xa 3 0 → b ≡ slice_index_or xb 2 0 → c ≡ slice_index_or xc 1 0 → d ≡ slice_index_or xd 0 0
      → IsMiddle s root (record { level = m.level - 1; nw = a; ne = b; sw = c; se = d })
  inner_middle a b c d ea eb ec ed = record {
    nw = part_is s root (m.level - 1) _ _ a _ ea nw_inner;
    ne = part_is s root (m.level - 1) _ _ b _ eb ne_inner;
    sw = part_is s root (m.level - 1) _ _ c _ ec sw_inner;
    se = part_is s root (m.level - 1) _ _ d _ ed se_inner;
  }

  pub squares_walked : (of_two : Bool) (level u1 l1 u2 l2 u3 l3 u4 l4 na nb nc nd n : ℕ) (s0 s1 s2 s3 s4 s5 : Lines) → 4 ≤ level → m.level ≡ level - 3
      → u1 ≡ slice_index_or xa 3 0 → l1 ≡ slice_index_or xc 1 0 → u2 ≡ slice_index_or xb 2 0 → l2 ≡ slice_index_or xd 0 0
      → u3 ≡ slice_index_or xc 1 0 → l3 ≡ slice_index_or xc 3 0 → u4 ≡ slice_index_or xd 0 0 → l4 ≡ slice_index_or xd 2 0
      → IsWalked of_two (square_of_pair s) s0 s1 (square_of_pair s (pair_at (m.level - 1) u1 l1)) na → IsWalked of_two (square_of_pair s) s1 s2 (square_of_pair s (pair_at (m.level - 1) u2 l2)) nb
      → IsWalked of_two (square_of_pair s) s2 s3 (square_of_pair s (pair_at (m.level - 1) u3 l3)) nc → IsWalked of_two (square_of_pair s) s3 s4 (square_of_pair s (pair_at (m.level - 1) u4 l4)) nd
      → IsPut s4 s5 (lines.Four level na nb nc nd) n → IsWalked of_two (square_of_pair s) s0 s5 (square_of level (states_about s root (2 ^ (level - 1)))) n
  squares_walked of_two level u1 l1 u2 l2 u3 l3 u4 l4 na nb nc nd n s0 s1 s2 s3 s4 s5 least e e1 f1 e2 f2 e3 f3 e4 f4 wa wb wc wd put =
      about_walked of_two s root level (m.level - 1) u1 l1 u2 l2 u3 l3 u4 l4 na nb nc nd n s0 s1 s2 s3 s4 s5 (omega (arith, least, e)) (omega (arith, few))
      (part_is s root (m.level - 1) _ _ u1 _ e1 nw_inner) (part_is s root (m.level - 1) _ _ l1 _ f1 sw_inner) (part_is s root (m.level - 1) _ _ u2 _ e2 ne_inner) (part_is s root (m.level - 1) _ _ l2 _ f2 se_inner)
      (part_is s root (m.level - 1) _ _ u3 _ e3 sw_inner) (part_is s root (m.level - 1) _ _ l3 _ f3 sw_below) (part_is s root (m.level - 1) _ _ u4 _ e4 se_inner) (part_is s root (m.level - 1) _ _ l4 _ f4 se_below)
      wa wb wc wd put

-- the quarters of a universe lie about its middle
pub outermost_middle : (s : Held EngineLeaf) (root : ℕ) (xs : List ℕ) (a b c d : ℕ) → IsAt s 30 root → AreQuartersAt leaf_grid 8 s 30 root xs
    → a ≡ slice_index_or xs 0 0 → b ≡ slice_index_or xs 1 0 → c ≡ slice_index_or xs 2 0 → d ≡ slice_index_or xs 3 0 → IsMiddle s root (record { level = 29; nw = a; ne = b; sw = c; se = d })
outermost_middle s root xs a b c d at cut ea eb ec ed =
    let whole = root_seen s root at in
    let some : 0 < 30 = omega arith in
    record {
      nw = part_is s root 29 _ _ a _ ea (nw_seen s root 30 0 0 root xs some whole cut);
      ne = part_is s root 29 _ _ b _ eb (ne_seen s root 30 0 0 root xs some whole cut);
      sw = part_is s root 29 _ _ c _ ec (sw_seen s root 30 0 0 root xs some whole cut);
      se = part_is s root 29 _ _ d _ ed (se_seen s root 30 0 0 root xs some whole cut);
    }

-- the states of a leaf that is seen
pub leaf_seen : (s : Held EngineLeaf) (root c r part : ℕ) (states : List ℕ) → IsSeenAt s root 0 c r part → ((i : ℕ) → i < 64 → slice_index states i ≡ (grid_at leaf_grid 8 s 0 part (i % 8) (i / 8)).state)
    → (i : ℕ) → i < 64 → slice_index states i ≡ (grid_at leaf_grid 8 s 30 root (c + i % 8) (r + i / 8)).state
leaf_seen s root c r part states is told i h = told i h ∙ ap (λ (w : Write). w.state) (is.same (i % 8) (i / 8) (omega arith) (omega (arith, h)))
