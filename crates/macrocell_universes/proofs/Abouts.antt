-- Squares of a macrocell one row further down, about the middle of a universe.
use Rattle.std.proofs.Common.{◌≡◌, ℕ, zero, suc, ◌+◌, ◌-◌, ◌*◌, ◌/◌, ◌%◌, ◌^◌, ◌≤◌, ◌<◌, List, refl, sym, ◌∙◌, ap, arith, subst, ◌⊎◌, inl, inr}
use Rattle.std.specs.Prelude.{slice_index}
use Rattle.std.proofs.Math.Pow.{pow_mono}
use Rattle.generations_rule.specs.Place.{Place}
use Rattle.square_store.specs.Grid.{Grid, AreSameWithin, blank_grid}
use Rattle.square_store.specs.Pieces.{grid_from}
use Rattle.square_store.specs.Squares.{Draws, Held, side_at}
use Rattle.square_store.specs.Store.{IsGrown}
use Rattle.square_store.proofs.Drawn.{draws_as, draws_later, grown_more}
use Rattle.generation_engine.specs.declared.leaf_kind.EngineLeaf.{EngineLeaf}
use Rattle.generation_engine.specs.EngineLeaf.{leaf_grid, unstamped}
use Rattle.macrocell_lines.specs.Middle.{half_universe}
use Rattle.macrocell_lines.specs.Squares.{StateSquare, level_of, state_in}
use Rattle.macrocell_lines.proofs.States.{level_is, put, put_nw, put_ne, put_sw, put_se}
use Rattle.macrocell_lines.proofs.PairSquares.{side_is}
use Rattle.macrocell_text.specs.declared.entry.Entry.{Entry}
use Rattle.macrocell_text.specs.Maps.{map_of_root}
use Rattle.macrocell_universes.specs.declared.middle.Middle.{Middle}
use Rattle.macrocell_universes.specs.declared.quarters.Numbered.{Numbered}
use Rattle.macrocell_universes.specs.declared.widening.Parts.{Parts}
use Rattle.macrocell_universes.specs.declared.lowering.Lowering.{Lowering}
use Rattle.macrocell_universes.specs.declared.lowering.Pair.{Pair}
use Rattle.macrocell_universes.specs.Lowered.{IsLowered, grid_of, lowered, lowered_pair, numbered_above}
use Rattle.macrocell_universes.specs.Middles.{AreAbout, IsBlock, IsMiddleOf, IsWithin, at_level, grid_in_universe, place_at, square_about}
use Rattle.macrocell_universes.specs.Numbered.{IsNumbered, square_at, square_of}
use Rattle.macrocell_universes.proofs.Inside.{dead_above, dead_below, dead_left, dead_right, read_at}
use Rattle.macrocell_universes.proofs.Lowerings.{grown_itself}
use Rattle.macrocell_universes.proofs.LoweredRows.{pair_at}
use Rattle.macrocell_universes.proofs.StatesIn.{four_state, zero_state}
use Rattle.macrocell_universes.proofs.Widenings.{block_later, dead_block}

module _ (es : List Entry) (f : Place → ℕ) (m : Middle) (l : ℕ) (is : IsMiddleOf es f m) (level : m.level ≡ l + 3) (few : m.level ≤ 31) where
  abbrev H : ℕ
  H = half_universe

  abbrev n : ℕ
  n = side_at 8 l

  n_is : side_at 8 l ≡ 2 ^ m.level
  n_is = sym (ap (λ k. 2 ^ k) level ∙ side_is l)

  n_few : side_at 8 l ≤ 2147483648
  n_few = let e : 2 ^ m.level ≤ 2 ^ 31 = pow_mono {j = 31} (omega (arith, few)) in omega (arith, e, n_is)

  within_universe : side_at 8 l ≤ half_universe
  within_universe = omega (arith, n_few)

  q_level : level_of (square_about es m) ≡ suc m.level
  q_level = ap suc (level_is m.level (square_at es m.level m.four.nw) is.nw.square)

  half_is : side_at 8 l ≡ 2 ^ (suc m.level - 1)
  half_is = let e : m.level ≡ suc m.level - 1 = omega arith in n_is ∙ ap (λ k. 2 ^ k) e

  -- the states of the four squares at their places
  at : (x y u w : ℕ) → x ≡ half_universe - side_at 8 l + u → y ≡ half_universe - side_at 8 l + suc w → u < side_at 8 l + side_at 8 l → w < side_at 8 l + side_at 8 l
      → f (place_at x y) ≡ put (side_at 8 l) (state_in (square_at es m.level m.four.nw)) (state_in (square_at es m.level m.four.ne)) (state_in (square_at es m.level m.four.sw)) (state_in (square_at es m.level m.four.se)) u w
  at x y u w ex ey hu hw =
      (λ i. f (place_at (ex i) (ey i))) ∙ sym (is.map (place_at (half_universe - side_at 8 l + u) (half_universe - side_at 8 l + suc w)))
      ∙ read_at (square_about es m) (suc m.level) (side_at 8 l) q_level half_is within_universe u w hu hw
      ∙ four_state m.level (square_at es m.level m.four.nw) (square_at es m.level m.four.ne) (square_at es m.level m.four.sw) (square_at es m.level m.four.se) u w (level_is m.level (square_at es m.level m.four.nw) is.nw.square)
      ∙ ap (λ k. put k (state_in (square_at es m.level m.four.nw)) (state_in (square_at es m.level m.four.ne)) (state_in (square_at es m.level m.four.sw)) (state_in (square_at es m.level m.four.se)) u w) (sym n_is)

  nw_at : (x y u w : ℕ) → x ≡ half_universe - side_at 8 l + u → y ≡ half_universe - side_at 8 l + suc w → u < side_at 8 l → w < side_at 8 l → f (place_at x y) ≡ state_in (square_at es m.level m.four.nw) u w
  nw_at x y u w ex ey hu hw = at x y u w ex ey (omega (arith, hu)) (omega (arith, hw)) ∙ put_nw (side_at 8 l) (state_in (square_at es m.level m.four.nw)) (state_in (square_at es m.level m.four.ne)) (state_in (square_at es m.level m.four.sw)) (state_in (square_at es m.level m.four.se)) u w hu hw

  ne_at : (x y u w : ℕ) → x ≡ half_universe + u → y ≡ half_universe - side_at 8 l + suc w → u < side_at 8 l → w < side_at 8 l → f (place_at x y) ≡ state_in (square_at es m.level m.four.ne) u w
  ne_at x y u w ex ey hu hw =
      let back : side_at 8 l + u - side_at 8 l ≡ u = omega arith in
      at x y (side_at 8 l + u) w (omega (arith, ex, n_few)) ey (omega (arith, hu)) (omega (arith, hw))
      ∙ put_ne (side_at 8 l) (state_in (square_at es m.level m.four.nw)) (state_in (square_at es m.level m.four.ne)) (state_in (square_at es m.level m.four.sw)) (state_in (square_at es m.level m.four.se)) (side_at 8 l + u) w (omega arith) hw
      ∙ ap (λ x. state_in (square_at es m.level m.four.ne) x w) back

  sw_at : (x y u w : ℕ) → x ≡ half_universe - side_at 8 l + u → y ≡ half_universe + suc w → u < side_at 8 l → w < side_at 8 l → f (place_at x y) ≡ state_in (square_at es m.level m.four.sw) u w
  sw_at x y u w ex ey hu hw =
      let back : side_at 8 l + w - side_at 8 l ≡ w = omega arith in
      at x y u (side_at 8 l + w) ex (omega (arith, ey, n_few)) (omega (arith, hu)) (omega (arith, hw))
      ∙ put_sw (side_at 8 l) (state_in (square_at es m.level m.four.nw)) (state_in (square_at es m.level m.four.ne)) (state_in (square_at es m.level m.four.sw)) (state_in (square_at es m.level m.four.se)) u (side_at 8 l + w) hu (omega arith)
      ∙ ap (state_in (square_at es m.level m.four.sw) u) back

  se_at : (x y u w : ℕ) → x ≡ half_universe + u → y ≡ half_universe + suc w → u < side_at 8 l → w < side_at 8 l → f (place_at x y) ≡ state_in (square_at es m.level m.four.se) u w
  se_at x y u w ex ey hu hw =
      let back : side_at 8 l + u - side_at 8 l ≡ u = omega arith in let back' : side_at 8 l + w - side_at 8 l ≡ w = omega arith in
      at x y (side_at 8 l + u) (side_at 8 l + w) (omega (arith, ex, n_few)) (omega (arith, ey, n_few)) (omega (arith, hu)) (omega (arith, hw))
      ∙ put_se (side_at 8 l) (state_in (square_at es m.level m.four.nw)) (state_in (square_at es m.level m.four.ne)) (state_in (square_at es m.level m.four.sw)) (state_in (square_at es m.level m.four.se)) (side_at 8 l + u) (side_at 8 l + w) (omega arith) (omega arith)
      ∙ (λ i. state_in (square_at es m.level m.four.se) (back i) (back' i))

  over : (x y : ℕ) → y ≤ half_universe - side_at 8 l → f (place_at x y) ≡ 0
  over x y h = sym (is.map (place_at x y)) ∙ dead_above (square_about es m) (suc m.level) (side_at 8 l) q_level half_is within_universe x y h

  under : (x y : ℕ) → half_universe + side_at 8 l < y → f (place_at x y) ≡ 0
  under x y h = sym (is.map (place_at x y)) ∙ dead_below (square_about es m) (suc m.level) (side_at 8 l) q_level half_is within_universe x y h

  pub middle_within : IsWithin (side_at 8 l) f
  middle_within = record {
    left = λ u v h. sym (is.map (place_at u v)) ∙ dead_left (square_about es m) (suc m.level) (side_at 8 l) q_level half_is within_universe u v h;
    right = λ u v h. sym (is.map (place_at u v)) ∙ dead_right (square_about es m) (suc m.level) (side_at 8 l) q_level half_is within_universe u v h;
    above = λ u v h. over u v (omega (arith, h));
    below = λ u v h. under u v (omega (arith, h, side_some l));
  }
    where
      side_some : (k : ℕ) → 0 < side_at 8 k
      side_some k = let e : 2 ^ 0 ≤ 2 ^ k = pow_mono {i = 0} (omega arith) in omega (arith, e)

  -- a pair one row further down at its place
  block : (s : Held EngineLeaf) (column row a b p : ℕ) → Draws leaf_grid 8 s l (lowered_pair es (pair_at l a b)) p
      → ((u : ℕ) → u < side_at 8 l → f (place_at (column + u) (row + 0)) ≡ state_in (square_at es m.level a) u (side_at 8 l - 1))
      → ((u w : ℕ) → u < side_at 8 l → suc w < side_at 8 l → f (place_at (column + u) (row + suc w)) ≡ state_in (square_at es m.level b) u w) → IsBlock f s l column row p
  block s column row a b p drawn first rest = draws_as leaf_grid 8 s l (lowered_pair es (pair_at l a b)) (grid_from column row (grid_in_universe f)) p same drawn
    where
      same : AreSameWithin (side_at 8 l) (lowered_pair es (pair_at l a b)) (grid_from column row (grid_in_universe f))
      same u zero hu hv = ap (λ k. unstamped (state_in (square_at es k a) u (side_at 8 l - 1))) (sym level) ∙ ap unstamped (sym (first u hu))
      same u (suc w) hu hv = ap (λ k. unstamped (state_in (square_at es k b) u w)) (sym level) ∙ ap unstamped (sym (rest u w hu hv))

  none : (u v : ℕ) → 0 ≡ state_in (square_at es m.level 0) u v
  none u v = sym (zero_state es (record { level = m.level; number = 0 }) u v refl)

  pub nw_block : (s : Held EngineLeaf) (p : ℕ) → Draws leaf_grid 8 s l (lowered_pair es (pair_at l 0 m.four.nw)) p → IsBlock f s l (half_universe - side_at 8 l) (half_universe - side_at 8 l) p
  nw_block s p drawn = block s (half_universe - side_at 8 l) (half_universe - side_at 8 l) 0 m.four.nw p drawn
      (λ u hu. over (half_universe - side_at 8 l + u) (half_universe - side_at 8 l + 0) (omega arith) ∙ none u (side_at 8 l - 1)) (λ u w hu hw. nw_at (half_universe - side_at 8 l + u) (half_universe - side_at 8 l + suc w) u w refl refl hu (omega (arith, hw)))

  pub ne_block : (s : Held EngineLeaf) (p : ℕ) → Draws leaf_grid 8 s l (lowered_pair es (pair_at l 0 m.four.ne)) p → IsBlock f s l half_universe (half_universe - side_at 8 l) p
  ne_block s p drawn = block s half_universe (half_universe - side_at 8 l) 0 m.four.ne p drawn
      (λ u hu. over (half_universe + u) (half_universe - side_at 8 l + 0) (omega arith) ∙ none u (side_at 8 l - 1)) (λ u w hu hw. ne_at (half_universe + u) (half_universe - side_at 8 l + suc w) u w refl refl hu (omega (arith, hw)))

  pub sw_block : (s : Held EngineLeaf) (p : ℕ) → Draws leaf_grid 8 s l (lowered_pair es (pair_at l m.four.nw m.four.sw)) p → IsBlock f s l (half_universe - side_at 8 l) half_universe p
  sw_block s p drawn = block s (half_universe - side_at 8 l) half_universe m.four.nw m.four.sw p drawn
      (λ u hu. nw_at (half_universe - side_at 8 l + u) (half_universe + 0) u (side_at 8 l - 1) refl (omega (arith, hu, n_few)) hu (omega (arith, hu))) (λ u w hu hw. sw_at (half_universe - side_at 8 l + u) (half_universe + suc w) u w refl refl hu (omega (arith, hw)))

  pub se_block : (s : Held EngineLeaf) (p : ℕ) → Draws leaf_grid 8 s l (lowered_pair es (pair_at l m.four.ne m.four.se)) p → IsBlock f s l half_universe half_universe p
  se_block s p drawn = block s half_universe half_universe m.four.ne m.four.se p drawn
      (λ u hu. ne_at (half_universe + u) (half_universe + 0) u (side_at 8 l - 1) refl (omega (arith, hu, n_few)) hu (omega (arith, hu))) (λ u w hu hw. se_at (half_universe + u) (half_universe + suc w) u w refl refl hu (omega (arith, hw)))

  pub below_sw_block : (s : Held EngineLeaf) (p : ℕ) → Draws leaf_grid 8 s l (lowered_pair es (pair_at l m.four.sw 0)) p → IsBlock f s l (half_universe - side_at 8 l) (half_universe + side_at 8 l) p
  below_sw_block s p drawn = block s (half_universe - side_at 8 l) (half_universe + side_at 8 l) m.four.sw 0 p drawn
      (λ u hu. sw_at (half_universe - side_at 8 l + u) (half_universe + side_at 8 l + 0) u (side_at 8 l - 1) refl (omega (arith, hu)) hu (omega (arith, hu))) (λ u w hu hw. under (half_universe - side_at 8 l + u) (half_universe + side_at 8 l + suc w) (omega arith) ∙ none u w)

  pub below_se_block : (s : Held EngineLeaf) (p : ℕ) → Draws leaf_grid 8 s l (lowered_pair es (pair_at l m.four.se 0)) p → IsBlock f s l half_universe (half_universe + side_at 8 l) p
  below_se_block s p drawn = block s half_universe (half_universe + side_at 8 l) m.four.se 0 p drawn
      (λ u hu. se_at (half_universe + u) (half_universe + side_at 8 l + 0) u (side_at 8 l - 1) refl (omega (arith, hu)) hu (omega (arith, hu))) (λ u w hu hw. under (half_universe + u) (half_universe + side_at 8 l + suc w) (omega arith) ∙ none u w)

-- six pairs that were put one after another
module _ (es : List Entry) (f : Place → ℕ) (m : Middle) (l j : ℕ) (is : IsMiddleOf es f m) (level : m.level ≡ l + 3) (few : m.level ≤ 31) (same : j ≡ l)
    (w0 w1 w2 w3 w4 w5 w6 : Lowering) (nw ne sw se bw be : ℕ)
    (h1 : IsLowered es w0 w1 (pair_at l 0 m.four.nw) nw) (h2 : IsLowered es w1 w2 (pair_at l 0 m.four.ne) ne) (h3 : IsLowered es w2 w3 (pair_at l m.four.nw m.four.sw) sw) (h4 : IsLowered es w3 w4 (pair_at l m.four.ne m.four.se) se)
    (h5 : IsLowered es w4 w5 (pair_at l m.four.sw 0) bw) (h6 : IsLowered es w5 w6 (pair_at l m.four.se 0) be) where
  g56 : IsGrown leaf_grid 8 w5.store w6.store
  g56 = h6.grows

  g46 : IsGrown leaf_grid 8 w4.store w6.store
  g46 = grown_more leaf_grid 8 w4.store w5.store w6.store h5.grows g56

  g36 : IsGrown leaf_grid 8 w3.store w6.store
  g36 = grown_more leaf_grid 8 w3.store w4.store w6.store h4.grows g46

  g26 : IsGrown leaf_grid 8 w2.store w6.store
  g26 = grown_more leaf_grid 8 w2.store w3.store w6.store h3.grows g36

  g16 : IsGrown leaf_grid 8 w1.store w6.store
  g16 = grown_more leaf_grid 8 w1.store w2.store w6.store h2.grows g26

  pub six_grown : IsGrown leaf_grid 8 w0.store w6.store
  six_grown = grown_more leaf_grid 8 w0.store w1.store w6.store h1.grows g16

  drawn : (s : Held EngineLeaf) (a b q : ℕ) → IsGrown leaf_grid 8 s w6.store → Draws leaf_grid 8 s l (lowered_pair es (pair_at l a b)) q → Draws leaf_grid 8 w6.store l (lowered_pair es (pair_at l a b)) q
  drawn s a b q g h = draws_later leaf_grid 8 s w6.store l (lowered_pair es (pair_at l a b)) q g h

  pub six_about : AreAbout f w6.store (record { level = j; nw = nw; ne = ne; sw = sw; se = se; below_sw = bw; below_se = be })
  six_about = subst (λ k. AreAbout f w6.store (record { level = k; nw = nw; ne = ne; sw = sw; se = se; below_sw = bw; below_se = be })) (sym same) (record {
    within = middle_within es f m l is level few;
    nw = nw_block es f m l is level few w6.store nw (drawn w1.store 0 m.four.nw nw g16 h1.draws);
    ne = ne_block es f m l is level few w6.store ne (drawn w2.store 0 m.four.ne ne g26 h2.draws);
    sw = sw_block es f m l is level few w6.store sw (drawn w3.store m.four.nw m.four.sw sw g36 h3.draws);
    se = se_block es f m l is level few w6.store se (drawn w4.store m.four.ne m.four.se se g46 h4.draws);
    below_sw = below_sw_block es f m l is level few w6.store bw (drawn w5.store m.four.sw 0 bw g56 h5.draws);
    below_se = below_se_block es f m l is level few w6.store be (drawn w6.store m.four.se 0 be (grown_itself w6.store) h6.draws);
  })

-- squares of a level as those of a level above a leaf
pub numbered_again : (es : List Entry) (level n : ℕ) → 3 ≤ level → IsNumbered es (at_level level n) → IsNumbered es (numbered_above (level - 3) n)
numbered_again es level n least is = let e : level ≡ level - 3 + 3 = omega (arith, least) in subst (λ l. IsNumbered es (record { level = l; number = n })) e is
