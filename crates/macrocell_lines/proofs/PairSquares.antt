-- Squares one row on, of pairs of squares of a store.
use Rattle.std.proofs.Common.{◌≡◌, ℕ, suc, ◌+◌, ◌-◌, ◌*◌, ◌/◌, ◌%◌, ◌^◌, ◌<◌, arith, Bool, true, false, cond, List, length, refl, sym, ap, subst, ◌∙◌, Some, ◌⊎◌, inl, inr, pow-suc, rules, Option}
use Rattle.indexmap.specs.IndexMap.{get}
use Rattle.std.specs.Prelude.{Result, Ok, Err, IfOk, OnOk, ◌&&◌, ◌==◌, if◌then◌else◌, nat_lt, slice_index, slice_index_or}
use Rattle.std.proofs.lemmas.Bool.{cases_lt, eqb-true}
use Rattle.stamped_writes.specs.declared.write.Write.{Write}
use Rattle.bitplane_kernel.specs.Square.{state_at}
use Rattle.square_store.specs.Grid.{Grid, quartered}
use Rattle.square_store.specs.Seen.{AreQuartersAt, IsBlankAt}
use Rattle.square_store.specs.Squares.{Held, grid_at, side_at}
use Rattle.square_store.proofs.Drawn.{twice_below}
use Rattle.square_store.proofs.Quarters.{lt_false, lt_true}
use Rattle.generation_engine.specs.declared.leaf_kind.EngineLeaf.{EngineLeaf}
use Rattle.generation_engine.specs.EngineLeaf.{leaf_grid}
use Rattle.macrocell_lines.specs.declared.line.Line.TheVariants as lines
use Rattle.macrocell_lines.specs.declared.lines.Pair.{Pair}
use Rattle.macrocell_lines.specs.declared.lines.Lines.{Lines}
use Rattle.macrocell_lines.specs.Squares.{StateSquare, Four, is_dead, is_told_by_states, level_of, seen_from, square_of}
use Rattle.macrocell_lines.specs.Lines.{line_of}
use Rattle.macrocell_lines.specs.Listing.{IsSquare, IsWalked, is_pair}
use Rattle.macrocell_lines.specs.Raised.{raised, raised_states, square_of_pair}
use Rattle.macrocell_lines.proofs.Rows.{ne_raised, nw_raised, raised_in, raised_last, raised_same, se_raised, sw_raised}
use Rattle.macrocell_lines.proofs.States.{dead_square, is_square, level_is, same_square, states_back}
use Rattle.macrocell_lines.proofs.Walked.{IsPut, four_walked, then_noted, told_walked}

abbrev pub pair_at : ℕ → ℕ → ℕ → Pair
pair_at level upper lower = record { level = level; upper = upper; lower = lower }

-- a square of 2^(k + 3) columns is one of level k above a leaf
pub side_is : (k : ℕ) → 2 ^ (k + 3) ≡ side_at 8 k
side_is k = let e : k + 3 ≡ suc (suc (suc k)) = omega arith in ap (λ n. 2 ^ n) e ∙ pow-suc 2 (suc (suc k)) ∙ ap (λ n. n * 2) (pow-suc 2 (suc k)) ∙ ap (λ n. n * 2 * 2) (pow-suc 2 k) ∙ eight (2 ^ k)
  where
    eight : (n : ℕ) → n * 2 * 2 * 2 ≡ 8 * n
    eight n = omega arith

-- ---- blanks

pub pair_dead : (s : Held EngineLeaf) (pair : Pair) (t t' : ℕ) → IsBlankAt leaf_grid 8 s t pair.upper → IsBlankAt leaf_grid 8 s t' pair.lower → is_dead (square_of_pair s pair) ≡ true
pair_dead s pair t t' upper lower =
    let k = pair.level in
    let n = side_at 8 k in
    let up = grid_at leaf_grid 8 s k pair.upper in
    let low = grid_at leaf_grid 8 s k pair.lower in
    let zeros : square_of_pair s pair ≡ square_of (k + 3) (λ u v. 0) = same_square (k + 3) (raised_states s pair) (λ u v. 0) (λ u v hu hv.
    let side = side_is k in
    elim (cases_lt (suc v) n) [
      | inl more ↦ ap (λ (w : Write). w.state) (raised_in n up low u v more ∙ (upper k).same u (suc v) (omega (arith, hu, side)) more)
      | inr last ↦ ap (λ (w : Write). w.state) (raised_last n up low u v last ∙ (lower k).same u 0 (omega (arith, hu, side)) (omega (arith, hv, side)))
    ]) in
    subst (λ (q : StateSquare). is_dead q ≡ true) (sym zeros) (dead_square (k + 3) (λ u v. 0) (λ u v. refl))

-- ---- four quarters

pub pair_parts : (s : Held EngineLeaf) (level upper lower : ℕ) (xs ys : List ℕ) → 0 < level → AreQuartersAt leaf_grid 8 s level upper xs → AreQuartersAt leaf_grid 8 s level lower ys
    → square_of_pair s (pair_at level upper lower)
    ≡ Four (square_of_pair s (pair_at (level - 1) (slice_index_or xs 0 0) (slice_index_or xs 2 0))) (square_of_pair s (pair_at (level - 1) (slice_index_or xs 1 0) (slice_index_or xs 3 0)))
    (square_of_pair s (pair_at (level - 1) (slice_index_or xs 2 0) (slice_index_or ys 0 0))) (square_of_pair s (pair_at (level - 1) (slice_index_or xs 3 0) (slice_index_or ys 1 0)))
unfolding square_of
pair_parts s level upper lower xs ys some cx cy =
    let k = level - 1 in
    let n = side_at 8 k in
    let K = k + 3 in
    let two : side_at 8 level ≡ n + n = twice_below 8 level some in
    let side : 2 ^ K ≡ n = side_is k in
    let above : level + 3 ≡ suc K = omega (arith, some) in
    let below : List ℕ → ℕ → Grid = λ parts i. grid_at leaf_grid 8 s k (slice_index_or parts i 0) in
    let G = raised_states s (pair_at level upper lower) in
    let qx : Grid = quartered n (below xs 0) (below xs 1) (below xs 2) (below xs 3) in
    let qy : Grid = quartered n (below ys 0) (below ys 1) (below ys 2) (below ys 3) in
    let is : (u v : ℕ) → u < n + n → v < n + n → G u v ≡ (raised (n + n) qx qy u v).state = λ u v hu hv.
    ap (λ (w : Write). w.state)
    (ap (λ m. raised m (grid_at leaf_grid 8 s level upper) (grid_at leaf_grid 8 s level lower) u v) two
    ∙ raised_same (n + n) (grid_at leaf_grid 8 s level upper) qx (grid_at leaf_grid 8 s level lower) qy
    (λ w z hw hz. cx.draws.same w z (omega (arith, hw, two)) (omega (arith, hz, two))) (λ w z hw hz. cy.draws.same w z (omega (arith, hw, two)) (omega (arith, hz, two))) u v hu hv) in
    let a : square_of K G ≡ square_of_pair s (pair_at k (slice_index_or xs 0 0) (slice_index_or xs 2 0)) = same_square K G _ (λ u v hu hv.
    is u v (omega (arith, hu, side)) (omega (arith, hv, side))
    ∙ ap (λ (w : Write). w.state) (sym (nw_raised n (below xs 0) (below xs 1) (below xs 2) (below xs 3) (below ys 0) (below ys 1) (below ys 2) (below ys 3) u v (omega (arith, hu, side)) (omega (arith, hv, side))))) in
    let b : square_of K (seen_from (2 ^ K) 0 G) ≡ square_of_pair s (pair_at k (slice_index_or xs 1 0) (slice_index_or xs 3 0)) = same_square K _ _ (λ u v hu hv.
    let x : 2 ^ K + u ≡ n + u = omega (arith, side) in let z : 0 + v ≡ v = omega arith in
    (λ i. G (x i) (z i)) ∙ is (n + u) v (omega (arith, hu, side)) (omega (arith, hv, side))
    ∙ ap (λ (w : Write). w.state) (sym (ne_raised n (below xs 0) (below xs 1) (below xs 2) (below xs 3) (below ys 0) (below ys 1) (below ys 2) (below ys 3) u v (omega (arith, hu, side)) (omega (arith, hv, side))))) in
    let c : square_of K (seen_from 0 (2 ^ K) G) ≡ square_of_pair s (pair_at k (slice_index_or xs 2 0) (slice_index_or ys 0 0)) = same_square K _ _ (λ u v hu hv.
    let x : 2 ^ K + v ≡ n + v = omega (arith, side) in let z : 0 + u ≡ u = omega arith in
    (λ i. G (z i) (x i)) ∙ is u (n + v) (omega (arith, hu, side)) (omega (arith, hv, side))
    ∙ ap (λ (w : Write). w.state) (sym (sw_raised n (below xs 0) (below xs 1) (below xs 2) (below xs 3) (below ys 0) (below ys 1) (below ys 2) (below ys 3) u v (omega (arith, hu, side)) (omega (arith, hv, side))))) in
    let d : square_of K (seen_from (2 ^ K) (2 ^ K) G) ≡ square_of_pair s (pair_at k (slice_index_or xs 3 0) (slice_index_or ys 1 0)) = same_square K _ _ (λ u v hu hv.
    let x : 2 ^ K + u ≡ n + u = omega (arith, side) in let z : 2 ^ K + v ≡ n + v = omega (arith, side) in
    (λ i. G (x i) (z i)) ∙ is (n + u) (n + v) (omega (arith, hu, side)) (omega (arith, hv, side))
    ∙ ap (λ (w : Write). w.state) (sym (se_raised n (below xs 0) (below xs 1) (below xs 2) (below xs 3) (below ys 0) (below ys 1) (below ys 2) (below ys 3) u v (omega (arith, hu, side)) (omega (arith, hv, side))))) in
    ap (λ m. square_of m G) above ∙ (λ i. Four (a i) (b i) (c i) (d i))

-- a square above level 3 is not told by its states
pub high : (of_two : Bool) (k : ℕ) (a b c d : StateSquare) → IsSquare (k + 3) a → is_told_by_states of_two (Four a b c d) ≡ false
high of_two k a b c d is = go of_two (suc (level_of a) == 3) refl
  where
    go : (t x : Bool) → (suc (level_of a) == 3) ≡ x → (t && x) ≡ false
    go false x e = refl
    go true false e = refl
    go true true e = (let level = level_is (k + 3) a is in let three = eqb-true (suc (level_of a)) 3 e in absurd (omega (arith, level, three)))

pub pair_four : (of_two : Bool) (s : Held EngineLeaf) (s0 s1 s2 s3 s4 s5 : Lines) (level upper lower na nb nc nd n : ℕ) (xs ys : List ℕ) (x0 x1 x2 x3 x2' x3' y0 y1 : ℕ) → 0 < level
    → AreQuartersAt leaf_grid 8 s level upper xs → AreQuartersAt leaf_grid 8 s level lower ys
    → x0 ≡ slice_index_or xs 0 0 → x1 ≡ slice_index_or xs 1 0 → x2 ≡ slice_index_or xs 2 0 → x3 ≡ slice_index_or xs 3 0 → x2' ≡ slice_index_or xs 2 0 → x3' ≡ slice_index_or xs 3 0
    → y0 ≡ slice_index_or ys 0 0 → y1 ≡ slice_index_or ys 1 0
    → IsWalked of_two (square_of_pair s) s0 s1 (square_of_pair s (pair_at (level - 1) x0 x2)) na → IsWalked of_two (square_of_pair s) s1 s2 (square_of_pair s (pair_at (level - 1) x1 x3)) nb
    → IsWalked of_two (square_of_pair s) s2 s3 (square_of_pair s (pair_at (level - 1) x2' y0)) nc → IsWalked of_two (square_of_pair s) s3 s4 (square_of_pair s (pair_at (level - 1) x3' y1)) nd
    → IsPut s4 s5 (lines.Four (level + 3) na nb nc nd) n → IsWalked of_two (square_of_pair s) s0 s5 (square_of_pair s (pair_at level upper lower)) n
pair_four of_two s s0 s1 s2 s3 s4 s5 level upper lower na nb nc nd n xs ys x0 x1 x2 x3 x2' x3' y0 y1 some cx cy e0 e1 e2 e3 e2' e3' f0 f1 wa wb wc wd put =
    let k = level - 1 in
    let P : (s s' : Lines) (m a b : ℕ) → Type 0 = λ s' t m a b. IsWalked of_two (square_of_pair s) s' t (square_of_pair s (pair_at k a b)) m in
    let above : level + 3 ≡ suc (k + 3) = omega (arith, some) in
    subst (λ q. IsWalked of_two (square_of_pair s) s0 s5 q n) (sym (pair_parts s level upper lower xs ys some cx cy))
    (four_walked of_two (square_of_pair s) s0 s1 s2 s3 s4 s5 (k + 3) (level + 3) na nb nc nd n _ _ _ _ (is_square (k + 3) _) (is_square (k + 3) _) (is_square (k + 3) _) (is_square (k + 3) _)
    (high of_two k (square_of_pair s (pair_at k (slice_index_or xs 0 0) (slice_index_or xs 2 0))) (square_of_pair s (pair_at k (slice_index_or xs 1 0) (slice_index_or xs 3 0)))
    (square_of_pair s (pair_at k (slice_index_or xs 2 0) (slice_index_or ys 0 0))) (square_of_pair s (pair_at k (slice_index_or xs 3 0) (slice_index_or ys 1 0))) (is_square (k + 3) _)) above
    (subst (λ a. P s0 s1 na a (slice_index_or xs 2 0)) e0 (subst (λ b. P s0 s1 na x0 b) e2 wa)) (subst (λ a. P s1 s2 nb a (slice_index_or xs 3 0)) e1 (subst (λ b. P s1 s2 nb x1 b) e3 wb))
    (subst (λ a. P s2 s3 nc a (slice_index_or ys 0 0)) e2' (subst (λ b. P s2 s3 nc x2' b) f0 wc)) (subst (λ a. P s3 s4 nd a (slice_index_or ys 1 0)) e3' (subst (λ b. P s3 s4 nd x3' b) f1 wd)) put)

-- ---- leaves

-- the states of a pair of leaves, of all rows of the upper one but the first and the first of the lower one
pub leaf_square : (s : Held EngineLeaf) (upper lower : ℕ) (a b states : List ℕ)
    → ((i : ℕ) → i < 64 → slice_index a i ≡ (grid_at leaf_grid 8 s 0 upper (i % 8) (i / 8)).state) → ((i : ℕ) → i < 64 → slice_index b i ≡ (grid_at leaf_grid 8 s 0 lower (i % 8) (i / 8)).state)
    → ((i : ℕ) → i < 64 → slice_index states i ≡ (if nat_lt i 56 then slice_index a (i + 8) else slice_index b (i - 56)))
    → square_of 3 (state_at 8 states) ≡ square_of_pair s (pair_at 0 upper lower)
leaf_square s upper lower a b states ha hb hs = same_square 3 (state_at 8 states) (raised_states s (pair_at 0 upper lower)) (λ u v hu hv.
    let i = 8 * v + u in
    let up = grid_at leaf_grid 8 s 0 upper in
    let low = grid_at leaf_grid 8 s 0 lower in
    hs i (omega (arith, hu, hv)) ∙ elim (cases_lt (suc v) 8) [
      | inl more ↦ (let x : (i + 8) % 8 ≡ u = omega (arith, hu) in let y : (i + 8) / 8 ≡ suc v = omega (arith, hu) in
          ap (λ t. if t then slice_index a (i + 8) else slice_index b (i - 56)) (lt_true i 56 (omega (arith, hu, more)))
          ∙ ha (i + 8) (omega (arith, hu, more)) ∙ (λ j. (up (x j) (y j)).state) ∙ sym (ap (λ (w : Write). w.state) (raised_in 8 up low u v more)))
      | inr last ↦ (let x : (i - 56) % 8 ≡ u = omega (arith, hu, hv, last) in let y : (i - 56) / 8 ≡ 0 = omega (arith, hu, hv, last) in
          ap (λ t. if t then slice_index a (i + 8) else slice_index b (i - 56)) (lt_false i 56 (omega (arith, last)))
          ∙ hb (i - 56) (omega (arith, hu, hv, last)) ∙ (λ j. (low (x j) (y j)).state) ∙ sym (ap (λ (w : Write). w.state) (raised_last 8 up low u v last)))
    ])

-- a leaf of two states is told by them
pub leaf_walked : (of_two : Bool) (meaning : Pair → StateSquare) (old new : Lines) (states leaf : List ℕ) (n : ℕ) → of_two ≡ true → length states ≡ 64 → leaf ≡ states → IsPut old new (lines.Leaf leaf) n → IsWalked of_two meaning old new (square_of 3 (state_at 8 states)) n
unfolding square_of
leaf_walked of_two meaning old new states leaf n two long is put =
    let f = state_at 8 states in
    let line : (l : List StateSquare) → lines.Leaf leaf ≡ line_of of_two l (square_of 3 f) = λ l. ap (λ x. lines.Leaf x) (is ∙ sym (states_back states long)) ∙ sym (ap (λ t. line_of t l (square_of 3 f)) two) in
    told_walked of_two meaning old new 2 n (square_of 2 f) (square_of 2 (seen_from 4 0 f)) (square_of 2 (seen_from 0 4 f)) (square_of 2 (seen_from 4 4 f)) (lines.Leaf leaf)
    (is_square 2 f) (is_square 2 (seen_from 4 0 f)) (is_square 2 (seen_from 0 4 f)) (is_square 2 (seen_from 4 4 f)) (ap (λ t. is_told_by_states t (square_of 3 f)) two) line put

pub whole_block : (f : ℕ → ℕ → ℕ) → square_of 3 (seen_from 0 0 f) ≡ square_of 3 f
whole_block f = same_square 3 (seen_from 0 0 f) f (λ u v hu hv. let x : 0 + u ≡ u = omega arith in let y : 0 + v ≡ v = omega arith in λ i. f (x i) (y i))

-- ---- what is noted

pair_exact : (a b : Pair) → is_pair a b ≡ true → a ≡ b
pair_exact a b h = search (rules, h)

pub noted_or_before : {m n : ℕ} {before after : Option ℕ} (key other : Pair) → after ≡ cond (is_pair key other) (Some n) before → after ≡ Some m → (before ≡ Some m) ⊎ ((key ≡ other) × (m ≡ n))
noted_or_before {m} {n} {before} {after} key other e h = go (is_pair key other) refl
  where
    some_is : {x y : ℕ} → Some x ≡ Some y → x ≡ y
    some_is z = cc

    go : (t : Bool) → is_pair key other ≡ t → (before ≡ Some m) ⊎ ((key ≡ other) × (m ≡ n))
    go true t = inr (pair_exact key other t, some_is (sym h ∙ e ∙ ap (λ b. cond b (Some n) before) t))
    go false t = inl (sym (ap (λ b. cond b (Some n) before) t) ∙ sym e ∙ h)

-- the pair that was walked over was noted
pub pair_noted : (of_two : Bool) (meaning : Pair → StateSquare) (s0 s1 s2 : Lines) (key : Pair) (n m : ℕ) → IsWalked of_two meaning s0 s1 (meaning key) n → m ≡ n → s2.lines ≡ s1.lines
    → ((other : Pair) → get is_pair s2.numbers other ≡ cond (is_pair key other) (Some n) (get is_pair s1.numbers other)) → IsWalked of_two meaning s0 s2 (meaning key) m
pair_noted of_two meaning s0 s1 s2 key n m w is same found =
    subst (λ x. IsWalked of_two meaning s0 s2 (meaning key) x) (sym is) (then_noted of_two meaning s0 s1 s2 key n w same (λ other x at. noted_or_before key other (found other) at))

pub both_told : {A E : Type 0} (P : A → Type 0) (Q R : Type 0) (r : Result A E) → IfOk r P → OnOk r Q → OnOk r R → IfOk r (λ x. P x × (Q × R))
both_told P Q R (Ok x) p q s = (p, (q, s))
both_told P Q R (Err e) p q s = tt

-- the same of a pair
pub leaf_pair : (s : Held EngineLeaf) (pair : Pair) (a b states : List ℕ) → pair.level ≡ 0
    → ((i : ℕ) → i < 64 → slice_index a i ≡ (grid_at leaf_grid 8 s 0 pair.upper (i % 8) (i / 8)).state) → ((i : ℕ) → i < 64 → slice_index b i ≡ (grid_at leaf_grid 8 s 0 pair.lower (i % 8) (i / 8)).state)
    → ((i : ℕ) → i < 64 → slice_index states i ≡ (if nat_lt i 56 then slice_index a (i + 8) else slice_index b (i - 56)))
    → square_of 3 (state_at 8 states) ≡ square_of_pair s pair
leaf_pair s pair a b states none ha hb hs = leaf_square s pair.upper pair.lower a b states ha hb hs ∙ ap (λ l. square_of_pair s (pair_at l pair.upper pair.lower)) (sym none)
