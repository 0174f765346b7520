-- Leaves about the middle of a universe, of a root of few cells; and what stands for the root.
use Rattle.std.proofs.Common.{◌≡◌, ℕ, zero, suc, ◌+◌, ◌-◌, ◌*◌, ◌/◌, ◌%◌, ◌^◌, ◌≤◌, ◌<◌, Bool, true, false, List, [], ◌∷◌, length, refl, sym, ◌∙◌, ap, arith, subst, ◌⊎◌, inl, inr}
use Rattle.std.specs.Prelude.{Option, Some, None, slice_index, slice_get, if◌then◌else◌}
use Rattle.std.proofs.Math.Pow.{pow_mono}
use Rattle.std.proofs.lemmas.Bool.{ne_eqb}
use Rattle.generations_rule.specs.Place.{Place}
use Rattle.square_store.specs.Grid.{Grid, AreSameWithin, blank_grid}
use Rattle.square_store.specs.Pieces.{grid_from}
use Rattle.square_store.specs.Squares.{Draws, Held, side_at}
use Rattle.square_store.specs.Store.{IsGrown}
use Rattle.square_store.proofs.Counting.{moved_grid}
use Rattle.square_store.proofs.Drawn.{draws_as}
use Rattle.generation_engine.specs.declared.leaf_kind.EngineLeaf.{EngineLeaf}
use Rattle.generation_engine.specs.EngineLeaf.{leaf_grid, unstamped}
use Rattle.macrocell_lines.specs.Middle.{half_universe}
use Rattle.macrocell_lines.specs.Roots.{is_in_root}
use Rattle.macrocell_lines.specs.Squares.{StateSquare, level_of, state_in}
use Rattle.macrocell_lines.proofs.States.{level_is}
use Rattle.macrocell_text.specs.declared.entry.Entry.{Entry}
use Rattle.macrocell_text.specs.Macrocells.{squares_of}
use Rattle.macrocell_text.specs.Maps.{column_in_root, map_of, map_of_root, map_of_squares, root_of_squares, row_in_root}
use Rattle.macrocell_text.proofs.Prefixes.{length_squares}
use Rattle.macrocell_universes.specs.declared.quarters.Numbered.{Numbered}
use Rattle.macrocell_universes.specs.declared.widening.Parts.{Parts}
use Rattle.macrocell_universes.specs.Middles.{AreAbout, IsBlock, IsWithin, grid_in_universe, place_at}
use Rattle.macrocell_universes.specs.Numbered.{IsNumbered, square_at, square_of}
use Rattle.macrocell_universes.proofs.Inside.{dead_above, dead_below, dead_left, dead_right, read_at}
use Rattle.macrocell_universes.proofs.Numbers.{none_past}
use Rattle.macrocell_universes.proofs.StatesIn.{zero_state}
use Rattle.macrocell_universes.proofs.Widenings.{block_later, dead_block}

-- ---- what stands for the root

pub root_map : (es : List Entry) (q : Numbered) (c : Place) → IsNumbered es q → 1 ≤ q.level → q.number ≡ length es → 0 < length es → map_of_root (square_of es q) c ≡ map_of_squares (squares_of es) c
root_map es q c is above last some = by (root_of_squares (squares_of es)) refl
  where
    place : length (squares_of es) - 1 ≡ q.number - 1
    place = omega (arith, length_squares es, last)

    by : (o : Option StateSquare) → root_of_squares (squares_of es) ≡ o → map_of_root (square_of es q) c ≡ map_of o c
    by None e = absurd (let past = none_past (squares_of es) (length (squares_of es) - 1) e in omega (arith, past, length_squares es, some))
    by (Some s) e =
        let here : slice_get (squares_of es) (q.number - 1) ≡ Some s = ap (slice_get (squares_of es)) (sym place) ∙ e in
        let above' : q.level ≡ 0 → ⊥ = λ z. omega (arith, z, above) in
        let some' : q.number ≡ 0 → ⊥ = λ z. omega (arith, z, last, some) in
        let same : square_of es q ≡ s = rw (ne_eqb q.level 0 above', ne_eqb q.number 0 some', here) refl in
        ap (λ x. map_of_root x c) same

pub empty_map : (es : List Entry) (q : Numbered) (c : Place) → q.number ≡ 0 → length es ≡ 0 → map_of_root (square_of es q) c ≡ map_of_squares (squares_of es) c
empty_map es q c none empty =
    by (is_in_root (level_of (square_of es q)) c) refl ∙ sym (no_root (root_of_squares (squares_of es)) refl)
  where
    by : (b : Bool) → is_in_root (level_of (square_of es q)) c ≡ b → (if b then state_in (square_of es q) (column_in_root (level_of (square_of es q)) c) (row_in_root (level_of (square_of es q)) c) else 0) ≡ 0
    by true e = zero_state es q (column_in_root (level_of (square_of es q)) c) (row_in_root (level_of (square_of es q)) c) none
    by false e = refl

    no_root : (o : Option StateSquare) → root_of_squares (squares_of es) ≡ o → map_of o c ≡ 0
    no_root None e = refl
    no_root (Some s) e = absurd (let w = within (squares_of es) (length (squares_of es) - 1) s e in omega (arith, w, length_squares es, empty))
      where
        within : (xs : List StateSquare) (i : ℕ) (x : StateSquare) → slice_get xs i ≡ Some x → i < length xs
        within [] i x e = absurd (cc)
        within (y ∷ xs) zero x e = omega arith
        within (y ∷ xs) (suc i) x e = let h = within xs i x e in omega (arith, h)

-- ---- a root of few cells

module _ (es : List Entry) (q : Numbered) (half : ℕ) (is : IsNumbered es q) (few : q.level ≤ 3) (half_is : half ≡ 2 ^ (q.level - 1)) where
  few_half : half ≤ 4
  few_half = let e : 2 ^ (q.level - 1) ≤ 2 ^ 2 = pow_mono {j = 2} (omega (arith, few)) in omega (arith, e, half_is)

  within_universe : half ≤ half_universe
  within_universe = let h = few_half in omega (arith, h)

  q_level : level_of (square_of es q) ≡ q.level
  q_level = level_is q.level (square_of es q) is.square

  pub corner_left : (u v : ℕ) → u + half < 8 → map_of_root (square_of es q) (place_at (half_universe - 8 + u) (half_universe - 8 + v)) ≡ 0
  corner_left u v h = dead_left (square_of es q) q.level half q_level half_is within_universe (half_universe - 8 + u) (half_universe - 8 + v) (omega (arith, h))

  pub corner_right : (u v : ℕ) → 8 + half ≤ u → map_of_root (square_of es q) (place_at (half_universe - 8 + u) (half_universe - 8 + v)) ≡ 0
  corner_right u v h = dead_right (square_of es q) q.level half q_level half_is within_universe (half_universe - 8 + u) (half_universe - 8 + v) (omega (arith, h))

  pub corner_above : (u v : ℕ) → v + half < 9 → map_of_root (square_of es q) (place_at (half_universe - 8 + u) (half_universe - 8 + v)) ≡ 0
  corner_above u v h = dead_above (square_of es q) q.level half q_level half_is within_universe (half_universe - 8 + u) (half_universe - 8 + v) (let f = few_half in omega (arith, h, f))

  pub corner_below : (u v : ℕ) → 9 + half ≤ v → map_of_root (square_of es q) (place_at (half_universe - 8 + u) (half_universe - 8 + v)) ≡ 0
  corner_below u v h = dead_below (square_of es q) q.level half q_level half_is within_universe (half_universe - 8 + u) (half_universe - 8 + v) (omega (arith, h))

  pub corner_at : (u v : ℕ) → 8 ≤ u + half → u < 8 + half → 9 ≤ v + half → v < 9 + half → map_of_root (square_of es q) (place_at (half_universe - 8 + u) (half_universe - 8 + v)) ≡ state_in (square_of es q) (u + half - 8) (v + half - 9)
  corner_at u v hl hr ht hb =
      let f = few_half in
      let x : half_universe - 8 + u ≡ half_universe - half + (u + half - 8) = omega (arith, hl, f) in
      let y : half_universe - 8 + v ≡ half_universe - half + suc (v + half - 9) = omega (arith, ht, f) in
      (λ i. map_of_root (square_of es q) (place_at (x i) (y i)))
      ∙ read_at (square_of es q) q.level half q_level half_is within_universe (u + half - 8) (v + half - 9) (omega (arith, hr)) (omega (arith, hb))

  pub leaves_within : IsWithin 8 (map_of_root (square_of es q))
  leaves_within = let f = few_half in record {
    left = λ u v h. dead_left (square_of es q) q.level half q_level half_is within_universe u v (omega (arith, h, f));
    right = λ u v h. dead_right (square_of es q) q.level half q_level half_is within_universe u v (omega (arith, h, f));
    above = λ u v h. dead_above (square_of es q) q.level half q_level half_is within_universe u v (omega (arith, h, f));
    below = λ u v h. dead_below (square_of es q) q.level half q_level half_is within_universe u v (omega (arith, h, f));
  }

  pub leaves_under : (u v : ℕ) → half_universe + 8 ≤ v → map_of_root (square_of es q) (place_at u v) ≡ 0
  leaves_under u v h = dead_below (square_of es q) q.level half q_level half_is within_universe u v (let f = few_half in omega (arith, h, f))

-- a leaf of these states
pub leaf_block : (f : Place → ℕ) (s : Held EngineLeaf) (l : EngineLeaf) (states : List ℕ) (column row p : ℕ) → l.leaf ≡ states
    → ((i : ℕ) → i < 64 → slice_index states i ≡ f (place_at (half_universe - 8 + (column + i % 8)) (half_universe - 8 + (row + i / 8))))
    → Draws leaf_grid 8 s 0 (leaf_grid l) p → IsBlock f s 0 (half_universe - 8 + column) (half_universe - 8 + row) p
leaf_block f s l states column row p is h drawn = draws_as leaf_grid 8 s 0 (leaf_grid l) (grid_from (half_universe - 8 + column) (half_universe - 8 + row) (grid_in_universe f)) p
    (λ u v hu hv.
    let x : half_universe - 8 + (column + (8 * v + u) % 8) ≡ half_universe - 8 + column + u = omega (arith, hu) in
    let y : half_universe - 8 + (row + (8 * v + u) / 8) ≡ half_universe - 8 + row + v = omega (arith, hu) in
    ap (λ xs. unstamped (slice_index xs (8 * v + u))) is ∙ ap unstamped (h (8 * v + u) (omega (arith, hu, hv))) ∙ (λ i. unstamped (f (place_at (x i) (y i))))) drawn

-- the four of them, one after another, and what is dead below
pub corners_about : (f : Place → ℕ) (s1 s2 s3 s4 s5 : Held EngineLeaf) (nw ne sw se z : ℕ) → IsWithin 8 f → IsGrown leaf_grid 8 s1 s2 → IsGrown leaf_grid 8 s2 s3 → IsGrown leaf_grid 8 s3 s4 → IsGrown leaf_grid 8 s4 s5
    → IsBlock f s1 0 (half_universe - 8 + 0) (half_universe - 8 + 0) nw → IsBlock f s2 0 (half_universe - 8 + 8) (half_universe - 8 + 0) ne
    → IsBlock f s3 0 (half_universe - 8 + 0) (half_universe - 8 + 8) sw → IsBlock f s4 0 (half_universe - 8 + 8) (half_universe - 8 + 8) se
    → Draws leaf_grid 8 s5 0 (blank_grid 0) z → ((u v : ℕ) → half_universe + 8 ≤ v → f (place_at u v) ≡ 0)
    → AreAbout f s5 (record { level = 0; nw = nw; ne = ne; sw = sw; se = se; below_sw = z; below_se = z })
corners_about f s1 s2 s3 s4 s5 nw ne sw se z within g2 g3 g4 g5 hnw hne hsw hse dead under = record {
  within = within;
  nw = block_later f s4 s5 0 (half_universe - 8) (half_universe - 8) nw g5 (block_later f s3 s4 0 (half_universe - 8) (half_universe - 8) nw g4 (block_later f s2 s3 0 (half_universe - 8) (half_universe - 8) nw g3 (block_later f s1 s2 0 (half_universe - 8) (half_universe - 8) nw g2 hnw)));
  ne = block_later f s4 s5 0 half_universe (half_universe - 8) ne g5 (block_later f s3 s4 0 half_universe (half_universe - 8) ne g4 (block_later f s2 s3 0 half_universe (half_universe - 8) ne g3 hne));
  sw = block_later f s4 s5 0 (half_universe - 8) half_universe sw g5 (block_later f s3 s4 0 (half_universe - 8) half_universe sw g4 hsw);
  se = block_later f s4 s5 0 half_universe half_universe se g5 hse;
  below_sw = dead_block f s5 0 (half_universe - 8) (half_universe + 8) z dead (λ u v hu hv. under (half_universe - 8 + u) (half_universe + 8 + v) (omega arith));
  below_se = dead_block f s5 0 half_universe (half_universe + 8) z dead (λ u v hu hv. under (half_universe + u) (half_universe + 8 + v) (omega arith));
}
