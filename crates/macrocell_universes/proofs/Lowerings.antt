-- Pairs that are put into a store, one row further down, quarter by quarter.
use Rattle.std.proofs.Common.{◌≡◌, ℕ, zero, suc, ◌+◌, ◌-◌, ◌*◌, ◌/◌, ◌%◌, ◌<◌, ◌≤◌, Bool, true, false, cond, List, [], ◌∷◌, length, refl, sym, ◌∙◌, ap, subst, arith, inl, inr, ◌⊎◌, rules}
use Rattle.std.specs.Prelude.{Err, IfOk, OnOk, Ok, Result, Some, slice_index, slice_index_or}
use Rattle.indexmap.specs.IndexMap.{get}
use Rattle.stamped_writes.specs.declared.write.Write.{Write}
use Rattle.square_store.specs.Grid.{Grid, AreSameWithin}
use Rattle.square_store.specs.Pieces.{AddsPiecesOfGrid}
use Rattle.square_store.specs.Squares.{Held, Draws, IsAt, four_grid, grid_at, side_at}
use Rattle.square_store.specs.Store.{IsAbsent, IsAdded, IsFullFor, IsGrown, IsStore}
use Rattle.square_store.proofs.Counting.{AreItsQuarters, absent_as, adds_all, adds_as, adds_more, adds_nothing, adds_nw, adds_one, adds_three, adds_two, lacks_ne, lacks_nw, lacks_se, lacks_sw}
use Rattle.square_store.proofs.Drawn.{draws_as, draws_four, draws_later, four_at, grown_more}
use Rattle.square_store.proofs.PieceLaws.{four_as}
use Rattle.square_store.specs.Seen.{AreAt}
use Rattle.generation_engine.specs.declared.leaf_kind.EngineLeaf.{EngineLeaf}
use Rattle.generation_engine.specs.EngineLeaf.{IsEngineLeaf, leaf_grid, unstamped}
use Rattle.generation_engine.specs.Loading.{IsStoreFull}
use Rattle.macrocell_text.specs.declared.entry.Entry.{Entry}
use Rattle.macrocell_universes.specs.declared.lowering.Pair.{Pair}
use Rattle.macrocell_universes.specs.declared.lowering.Lowering.{Lowering}
use Rattle.macrocell_universes.specs.Lowered.{AreNoted, IsFullBefore, IsLowered, grid_of, is_pair, lowered, lowered_pair, numbered_above}
use Rattle.macrocell_universes.specs.declared.quarters.Numbered.{Numbered}
use Rattle.macrocell_universes.specs.declared.quarters.Quarters.{Quarters}
use Rattle.macrocell_universes.specs.Numbered.{AreQuarters, IsNumbered, IsQuarter, square_of}
use Rattle.macrocell_universes.proofs.LoweredRows.{pair_at, pair_quarters}

pub grown_itself : (s : Held EngineLeaf) → IsGrown leaf_grid 8 s s
grown_itself s = record { room = refl; held = λ p there. there; stands = λ k p there. there; same = λ k p there. refl }

-- ---- what is noted

pair_exact : (a b : Pair) → is_pair a b ≡ true → a ≡ b
pair_exact a b h = search (rules, h)

-- a pair stands in a store
abbrev pub StandsIn : List Entry → Held EngineLeaf → Pair → ℕ → Type 0
StandsIn es s pair p = Draws leaf_grid 8 s pair.level (lowered_pair es pair) p

-- a pair was noted that stands
pub noted_more : (es : List Entry) (old : Lowering) (new : Lowering) (t : Held EngineLeaf) (pair : Pair) (p : ℕ) → AreNoted es old → IsGrown leaf_grid 8 old.store t → new.store ≡ t → StandsIn es t pair p
    → ((other : Pair) → get is_pair new.notes other ≡ cond (is_pair pair other) (Some p) (get is_pair old.notes other)) → AreNoted es new
noted_more es old new t pair p are grown same stands found other q at = by (is_pair pair other) refl
  where
    some_is : {x y : ℕ} → Some x ≡ Some y → x ≡ y
    some_is z = cc

    in_new : (x : Pair) (r : ℕ) → StandsIn es t x r → StandsIn es new.store x r
    in_new x r h = subst (λ s. StandsIn es s x r) (sym same) h

    by : (b : Bool) → is_pair pair other ≡ b → StandsIn es new.store other q
    by true e =
        let is = some_is (sym (ap (λ b. cond b (Some p) (get is_pair old.notes other)) e) ∙ sym (found other) ∙ at) in
        in_new other q (subst (λ x. StandsIn es t x q) (pair_exact pair other e) (subst (StandsIn es t pair) is stands))
    by false e =
        let before = sym (ap (λ b. cond b (Some p) (get is_pair old.notes other)) e) ∙ sym (found other) ∙ at in
        in_new other q (draws_later leaf_grid 8 old.store t other.level (lowered_pair es other) q grown (are other q before))

-- a pair that was noted is looked up
pub lowered_before : (es : List Entry) (w : Lowering) (pair : Pair) (p : ℕ) → AreNoted es w → get is_pair w.notes pair ≡ Some p → IsLowered es w w pair p
lowered_before es w pair p are at = record {
  grows = grown_itself w.store;
  noted = are;
  draws = are pair p at;
  adds = adds_nothing leaf_grid 8 w.store w.store pair.level (lowered_pair es pair) refl;
}

-- what was put stands, and is noted
pub lowered_noted : (es : List Entry) (s0 old new : Lowering) (t : Held EngineLeaf) (pair : Pair) (p : ℕ) → old.store ≡ t → AreNoted es old → IsGrown leaf_grid 8 s0.store t → StandsIn es t pair p → AddsPiecesOfGrid leaf_grid 8 s0.store t pair.level (lowered_pair es pair)
    → new.store ≡ old.store → ((other : Pair) → get is_pair new.notes other ≡ cond (is_pair pair other) (Some p) (get is_pair old.notes other)) → IsLowered es s0 new pair p
lowered_noted es s0 old new t pair p here are grown stands adds same found =
    let there : new.store ≡ t = same ∙ here in
    record {
      grows = subst (λ s. IsGrown leaf_grid 8 s0.store s) (sym there) grown;
      noted = noted_more es old new t pair p are (subst (λ s. IsGrown leaf_grid 8 old.store s) here (grown_itself old.store)) there stands found;
      draws = subst (λ s. StandsIn es s pair p) (sym there) stands;
      adds = subst (λ s. AddsPiecesOfGrid leaf_grid 8 s0.store s pair.level (lowered_pair es pair)) (sym there) adds;
    }

-- those that were noted in a store that has grown
pub noted_later : (es : List Entry) (old new : Lowering) → AreNoted es old → IsGrown leaf_grid 8 old.store new.store → ((other : Pair) → get is_pair new.notes other ≡ get is_pair old.notes other) → AreNoted es new
noted_later es old new are grown same pair p at = draws_later leaf_grid 8 old.store new.store pair.level (lowered_pair es pair) p grown (are pair p (sym (same pair) ∙ at))

-- ---- leaves

pub leaf_same : (es : List Entry) (pair : Pair) (l : EngineLeaf) (states : List ℕ) → pair.level ≡ 0 → l.leaf ≡ states
    → ((i : ℕ) → i < 64 → slice_index states i ≡ (lowered 8 (grid_of (square_of es (numbered_above pair.level pair.upper))) (grid_of (square_of es (numbered_above pair.level pair.lower))) (i % 8) (i / 8)).state)
    → AreSameWithin (side_at 8 pair.level) (leaf_grid l) (lowered_pair es pair)
leaf_same es pair l states none is h u v hu hv =
    let wide : side_at 8 pair.level ≡ 8 = ap (side_at 8) none in
    let f = grid_of (square_of es (numbered_above pair.level pair.upper)) in
    let g = grid_of (square_of es (numbered_above pair.level pair.lower)) in
    let hu' : u < 8 = omega (arith, hu, wide) in
    let hv' : v < 8 = omega (arith, hv, wide) in
    let x : (8 * v + u) % 8 ≡ u = omega (arith, hu') in
    let y : (8 * v + u) / 8 ≡ v = omega (arith, hu') in
    ap (λ xs. unstamped (slice_index xs (8 * v + u))) is
    ∙ ap unstamped (h (8 * v + u) (omega (arith, hu', hv')))
    ∙ (λ i. unstamped (lowered 8 f g (x i) (y i)).state)
    ∙ plain v
    ∙ ap (λ m. lowered m f g u v) (sym wide)
  where
    plain : (w : ℕ) → unstamped (lowered 8 (grid_of (square_of es (numbered_above pair.level pair.upper))) (grid_of (square_of es (numbered_above pair.level pair.lower))) u w).state
        ≡ lowered 8 (grid_of (square_of es (numbered_above pair.level pair.upper))) (grid_of (square_of es (numbered_above pair.level pair.lower))) u w
    plain zero = refl
    plain (suc w) = refl

module _ (es : List Entry) (pair : Pair) (l : EngineLeaf) (none : pair.level ≡ 0) (same : AreSameWithin (side_at 8 pair.level) (leaf_grid l) (lowered_pair es pair)) where
  pub leaf_stands : (s : Held EngineLeaf) (p : ℕ) → Draws leaf_grid 8 s 0 (leaf_grid l) p → StandsIn es s pair p
  leaf_stands s p drawn = draws_as leaf_grid 8 s pair.level (leaf_grid l) (lowered_pair es pair) p same (subst (λ k. Draws leaf_grid 8 s k (leaf_grid l) p) (sym none) drawn)

  pub leaf_adds : (s t : Held EngineLeaf) (p : ℕ) → IsAdded leaf_grid 8 s t 0 (leaf_grid l) p → Draws leaf_grid 8 t 0 (leaf_grid l) p → AddsPiecesOfGrid leaf_grid 8 s t pair.level (lowered_pair es pair)
  leaf_adds s t p added drawn = adds_one leaf_grid 8 s t 0 pair.level (leaf_grid l) (lowered_pair es pair) p added (leaf_stands t p drawn)

  pub leaf_full : (s t : Held EngineLeaf) → t ≡ s → IsFullFor leaf_grid 8 s 0 (leaf_grid l) → IsFullBefore s t pair.level (lowered_pair es pair)
  leaf_full s t e full = subst (λ x. IsFullBefore s x pair.level (lowered_pair es pair)) (sym e) (record {
    grows = grown_itself s;
    adds = adds_nothing leaf_grid 8 s s pair.level (lowered_pair es pair) refl;
    full = full.full;
    absent = λ is. absent_as leaf_grid 8 s pair.level (leaf_grid l) (lowered_pair es pair) same (subst (λ k. IsAbsent leaf_grid 8 s k (leaf_grid l)) (sym none) full.absent);
  })

-- ---- four quarters

module _ (k : ℕ) (f a b c d : Grid) (above : 0 < k) (are : AreItsQuarters (side_at 8 (k - 1)) f a b c d) where
  pub nw_full : (s0 s1 : Held EngineLeaf) → IsFullBefore s0 s1 (k - 1) a → IsFullBefore s0 s1 k f
  nw_full s0 s1 h = record { grows = h.grows; adds = adds_nw leaf_grid 8 k f a b c d above are s0 s1 h.adds; full = h.full; absent = λ is. lacks_nw leaf_grid 8 k f a b c d above are IsEngineLeaf s1 is.canonical (h.absent is) }

  pub ne_full : (s0 s1 s2 : Held EngineLeaf) → IsGrown leaf_grid 8 s0 s1 → AddsPiecesOfGrid leaf_grid 8 s0 s1 (k - 1) a → IsFullBefore s1 s2 (k - 1) b → IsFullBefore s0 s2 k f
  ne_full s0 s1 s2 g1 x1 h = record {
    grows = grown_more leaf_grid 8 s0 s1 s2 g1 h.grows;
    adds = adds_two leaf_grid 8 k f a b c d above are s0 s1 s2 h.grows x1 h.adds;
    full = h.full;
    absent = λ is. lacks_ne leaf_grid 8 k f a b c d above are IsEngineLeaf s2 is.canonical (h.absent is);
  }

  pub sw_full : (s0 s1 s2 s3 : Held EngineLeaf) → IsGrown leaf_grid 8 s0 s1 → IsGrown leaf_grid 8 s1 s2 → AddsPiecesOfGrid leaf_grid 8 s0 s1 (k - 1) a → AddsPiecesOfGrid leaf_grid 8 s1 s2 (k - 1) b → IsFullBefore s2 s3 (k - 1) c → IsFullBefore s0 s3 k f
  sw_full s0 s1 s2 s3 g1 g2 x1 x2 h = record {
    grows = grown_more leaf_grid 8 s0 s1 s3 g1 (grown_more leaf_grid 8 s1 s2 s3 g2 h.grows);
    adds = adds_three leaf_grid 8 k f a b c d above are s0 s1 s2 s3 g2 h.grows x1 x2 h.adds;
    full = h.full;
    absent = λ is. lacks_sw leaf_grid 8 k f a b c d above are IsEngineLeaf s3 is.canonical (h.absent is);
  }

  pub se_full : (s0 s1 s2 s3 s4 : Held EngineLeaf) → IsGrown leaf_grid 8 s0 s1 → IsGrown leaf_grid 8 s1 s2 → IsGrown leaf_grid 8 s2 s3
      → AddsPiecesOfGrid leaf_grid 8 s0 s1 (k - 1) a → AddsPiecesOfGrid leaf_grid 8 s1 s2 (k - 1) b → AddsPiecesOfGrid leaf_grid 8 s2 s3 (k - 1) c → IsFullBefore s3 s4 (k - 1) d → IsFullBefore s0 s4 k f
  se_full s0 s1 s2 s3 s4 g1 g2 g3 x1 x2 x3 h = record {
    grows = grown_more leaf_grid 8 s0 s1 s4 g1 (grown_more leaf_grid 8 s1 s2 s4 g2 (grown_more leaf_grid 8 s2 s3 s4 g3 h.grows));
    adds = adds_all leaf_grid 8 k f a b c d above are s0 s1 s2 s3 s4 g2 g3 h.grows x1 x2 x3 h.adds;
    full = h.full;
    absent = λ is. lacks_se leaf_grid 8 k f a b c d above are IsEngineLeaf s4 is.canonical (h.absent is);
  }

  module _ (s0 s1 s2 s3 s4 : Held EngineLeaf) (nw ne sw se : ℕ) (g1 : IsGrown leaf_grid 8 s0 s1) (g2 : IsGrown leaf_grid 8 s1 s2) (g3 : IsGrown leaf_grid 8 s2 s3) (g4 : IsGrown leaf_grid 8 s3 s4)
      (dnw : Draws leaf_grid 8 s1 (k - 1) a nw) (dne : Draws leaf_grid 8 s2 (k - 1) b ne) (dsw : Draws leaf_grid 8 s3 (k - 1) c sw) (dse : Draws leaf_grid 8 s4 (k - 1) d se) where
    later_nw : Draws leaf_grid 8 s4 (k - 1) a nw
    later_nw = draws_later leaf_grid 8 s3 s4 (k - 1) a nw g4 (draws_later leaf_grid 8 s2 s3 (k - 1) a nw g3 (draws_later leaf_grid 8 s1 s2 (k - 1) a nw g2 dnw))

    later_ne : Draws leaf_grid 8 s4 (k - 1) b ne
    later_ne = draws_later leaf_grid 8 s3 s4 (k - 1) b ne g4 (draws_later leaf_grid 8 s2 s3 (k - 1) b ne g3 dne)

    later_sw : Draws leaf_grid 8 s4 (k - 1) c sw
    later_sw = draws_later leaf_grid 8 s3 s4 (k - 1) c sw g4 dsw

    pub four_stand : AreAt s4 (k - 1) (nw ∷ ne ∷ sw ∷ se ∷ [])
    four_stand = four_at s4 (k - 1) nw ne sw se later_nw.stands later_ne.stands later_sw.stands dse.stands

    pub four_grown : IsGrown leaf_grid 8 s0 s4
    four_grown = grown_more leaf_grid 8 s0 s1 s4 g1 (grown_more leaf_grid 8 s1 s2 s4 g2 (grown_more leaf_grid 8 s2 s3 s4 g3 g4))

    -- the four put together are the square
    four_same : AreSameWithin (side_at 8 k) (four_grid leaf_grid 8 s4 (k - 1) (nw ∷ ne ∷ sw ∷ se ∷ [])) f
    four_same = four_as leaf_grid 8 s4 k nw ne sw se f above (side_at 8 (k - 1)) refl
        (λ u v hu hv. later_nw.same u v hu hv ∙ are.nw u v hu hv) (λ u v hu hv. later_ne.same u v hu hv ∙ are.ne u v hu hv)
        (λ u v hu hv. later_sw.same u v hu hv ∙ are.sw u v hu hv) (λ u v hu hv. dse.same u v hu hv ∙ are.se u v hu hv)

    pub four_drawn : (t : Held EngineLeaf) (p : ℕ) → Draws leaf_grid 8 t k (four_grid leaf_grid 8 s4 (k - 1) (nw ∷ ne ∷ sw ∷ se ∷ [])) p → Draws leaf_grid 8 t k f p
    four_drawn t p drawn = draws_as leaf_grid 8 t k (four_grid leaf_grid 8 s4 (k - 1) (nw ∷ ne ∷ sw ∷ se ∷ [])) f p four_same drawn

    module _ (x1 : AddsPiecesOfGrid leaf_grid 8 s0 s1 (k - 1) a) (x2 : AddsPiecesOfGrid leaf_grid 8 s1 s2 (k - 1) b) (x3 : AddsPiecesOfGrid leaf_grid 8 s2 s3 (k - 1) c) (x4 : AddsPiecesOfGrid leaf_grid 8 s3 s4 (k - 1) d) where
      so_far : AddsPiecesOfGrid leaf_grid 8 s0 s4 k f
      so_far = adds_all leaf_grid 8 k f a b c d above are s0 s1 s2 s3 s4 g2 g3 g4 x1 x2 x3 x4

      pub four_adds : (t : Held EngineLeaf) (p : ℕ) → IsGrown leaf_grid 8 s4 t → IsAdded leaf_grid 8 s4 t k (four_grid leaf_grid 8 s4 (k - 1) (nw ∷ ne ∷ sw ∷ se ∷ [])) p
          → Draws leaf_grid 8 t k (four_grid leaf_grid 8 s4 (k - 1) (nw ∷ ne ∷ sw ∷ se ∷ [])) p → AddsPiecesOfGrid leaf_grid 8 s0 t k f
      four_adds t p g added drawn =
          adds_more leaf_grid 8 s0 s4 t k f g so_far (adds_one leaf_grid 8 s4 t k k (four_grid leaf_grid 8 s4 (k - 1) (nw ∷ ne ∷ sw ∷ se ∷ [])) f p added (four_drawn t p drawn))

      pub four_full : (t : Held EngineLeaf) → t ≡ s4 → IsFullFor leaf_grid 8 s4 k (four_grid leaf_grid 8 s4 (k - 1) (nw ∷ ne ∷ sw ∷ se ∷ [])) → IsFullBefore s0 t k f
      four_full t e full = subst (λ x. IsFullBefore s0 x k f) (sym e) (record {
        grows = four_grown;
        adds = so_far;
        full = full.full;
        absent = λ is. absent_as leaf_grid 8 s4 k (four_grid leaf_grid 8 s4 (k - 1) (nw ∷ ne ∷ sw ∷ se ∷ [])) f four_same full.absent;
      })

-- ---- a pair, by those of its quarters

module _ (es : List Entry) (pair : Pair) (x y : Quarters) (above : 0 < pair.level) (two : Numbered × Numbered) (are : two ≡ (numbered_above pair.level pair.upper, numbered_above pair.level pair.lower))
    (hx : AreQuarters es two.0 x) (hy : AreQuarters es two.1 y) where
  k : ℕ
  k = pair.level - 1

  cut : AreItsQuarters (side_at 8 (pair.level - 1)) (lowered_pair es pair) (lowered_pair es (pair_at (pair.level - 1) x.sw y.nw)) (lowered_pair es (pair_at (pair.level - 1) x.se y.ne))
      (lowered_pair es (pair_at (pair.level - 1) y.nw y.sw)) (lowered_pair es (pair_at (pair.level - 1) y.ne y.se))
  cut = pair_quarters es pair.level pair.upper pair.lower x y above
      (subst (λ z. AreQuarters es z x) (ap (λ (p : Numbered × Numbered). p.0) are) hx) (subst (λ z. AreQuarters es z y) (ap (λ (p : Numbered × Numbered). p.1) are) hy)

  full_at : (s t : Held EngineLeaf) (b b' : Pair) → b ≡ b' → IsFullBefore s t b.level (lowered_pair es b) → IsFullBefore s t b'.level (lowered_pair es b')
  full_at s t b b' e h = subst (λ (z : Pair). IsFullBefore s t z.level (lowered_pair es z)) e h

  at : (s t : Lowering) (b b' : Pair) (p : ℕ) → b ≡ b' → IsLowered es s t b p → IsLowered es s t b' p
  at s t b b' p e h = subst (λ z. IsLowered es s t z p) e h

  module _ (s0 s1 : Lowering) (b1 : Pair) (e1 : b1 ≡ pair_at (pair.level - 1) x.sw y.nw) where
    pub pair_nw_full : IsFullBefore s0.store s1.store b1.level (lowered_pair es b1) → IsFullBefore s0.store s1.store pair.level (lowered_pair es pair)
    pair_nw_full h = nw_full pair.level _ _ _ _ _ above cut s0.store s1.store (full_at s0.store s1.store b1 _ e1 h)

    module _ (nw : ℕ) (h1 : IsLowered es s0 s1 b1 nw) (s2 : Lowering) (b2 : Pair) (e2 : b2 ≡ pair_at (pair.level - 1) x.se y.ne) where
      l1 : IsLowered es s0 s1 (pair_at (pair.level - 1) x.sw y.nw) nw
      l1 = at s0 s1 b1 _ nw e1 h1

      pub pair_ne_full : IsFullBefore s1.store s2.store b2.level (lowered_pair es b2) → IsFullBefore s0.store s2.store pair.level (lowered_pair es pair)
      pair_ne_full h = ne_full pair.level _ _ _ _ _ above cut s0.store s1.store s2.store l1.grows l1.adds (full_at s1.store s2.store b2 _ e2 h)

      module _ (ne : ℕ) (h2 : IsLowered es s1 s2 b2 ne) (s3 : Lowering) (b3 : Pair) (e3 : b3 ≡ pair_at (pair.level - 1) y.nw y.sw) where
        l2 : IsLowered es s1 s2 (pair_at (pair.level - 1) x.se y.ne) ne
        l2 = at s1 s2 b2 _ ne e2 h2

        pub pair_sw_full : IsFullBefore s2.store s3.store b3.level (lowered_pair es b3) → IsFullBefore s0.store s3.store pair.level (lowered_pair es pair)
        pair_sw_full h = sw_full pair.level _ _ _ _ _ above cut s0.store s1.store s2.store s3.store l1.grows l2.grows l1.adds l2.adds (full_at s2.store s3.store b3 _ e3 h)

        module _ (sw : ℕ) (h3 : IsLowered es s2 s3 b3 sw) (s4 : Lowering) (b4 : Pair) (e4 : b4 ≡ pair_at (pair.level - 1) y.ne y.se) where
          l3 : IsLowered es s2 s3 (pair_at (pair.level - 1) y.nw y.sw) sw
          l3 = at s2 s3 b3 _ sw e3 h3

          pub pair_se_full : IsFullBefore s3.store s4.store b4.level (lowered_pair es b4) → IsFullBefore s0.store s4.store pair.level (lowered_pair es pair)
          pair_se_full h = se_full pair.level _ _ _ _ _ above cut s0.store s1.store s2.store s3.store s4.store l1.grows l2.grows l3.grows l1.adds l2.adds l3.adds (full_at s3.store s4.store b4 _ e4 h)

          module _ (se : ℕ) (h4 : IsLowered es s3 s4 b4 se) where
            l4 : IsLowered es s3 s4 (pair_at (pair.level - 1) y.ne y.se) se
            l4 = at s3 s4 b4 _ se e4 h4

            pub pair_full : (j : ℕ) → j ≡ pair.level → (t : Held EngineLeaf) → t ≡ s4.store → IsFullFor leaf_grid 8 s4.store j (four_grid leaf_grid 8 s4.store (j - 1) (nw ∷ ne ∷ sw ∷ se ∷ [])) → IsFullBefore s0.store t pair.level (lowered_pair es pair)
            pair_full j level t e full = four_full pair.level _ _ _ _ _ above cut s0.store s1.store s2.store s3.store s4.store nw ne sw se l1.grows l2.grows l3.grows l4.grows l1.draws l2.draws l3.draws l4.draws l1.adds l2.adds l3.adds l4.adds t e
                (subst (λ i. IsFullFor leaf_grid 8 s4.store i (four_grid leaf_grid 8 s4.store (i - 1) (nw ∷ ne ∷ sw ∷ se ∷ []))) level full)

            pub pair_lowered : (j : ℕ) → j ≡ pair.level → (t : Held EngineLeaf) (p : ℕ) (old new : Lowering) → old.store ≡ t → ((other : Pair) → get is_pair old.notes other ≡ get is_pair s4.notes other) → IsGrown leaf_grid 8 s4.store t
                → IsAdded leaf_grid 8 s4.store t j (four_grid leaf_grid 8 s4.store (j - 1) (nw ∷ ne ∷ sw ∷ se ∷ [])) p → Draws leaf_grid 8 t j (four_grid leaf_grid 8 s4.store (j - 1) (nw ∷ ne ∷ sw ∷ se ∷ [])) p
                → new.store ≡ old.store → ((other : Pair) → get is_pair new.notes other ≡ cond (is_pair pair other) (Some p) (get is_pair old.notes other)) → IsLowered es s0 new pair p
            pair_lowered j level t p old new here notes g added' drawn' same found =
                let added = subst (λ i. IsAdded leaf_grid 8 s4.store t i (four_grid leaf_grid 8 s4.store (i - 1) (nw ∷ ne ∷ sw ∷ se ∷ [])) p) level added' in
                let drawn = subst (λ i. Draws leaf_grid 8 t i (four_grid leaf_grid 8 s4.store (i - 1) (nw ∷ ne ∷ sw ∷ se ∷ [])) p) level drawn' in
                let grown = four_grown pair.level _ _ _ _ _ above cut s0.store s1.store s2.store s3.store s4.store nw ne sw se l1.grows l2.grows l3.grows l4.grows l1.draws l2.draws l3.draws l4.draws in
                lowered_noted es s0 old new t pair p here (noted_later es s4 old l4.noted (subst (IsGrown leaf_grid 8 s4.store) (sym here) g) notes)
                (grown_more leaf_grid 8 s0.store s4.store t grown g)
                (four_drawn pair.level _ _ _ _ _ above cut s0.store s1.store s2.store s3.store s4.store nw ne sw se l1.grows l2.grows l3.grows l4.grows l1.draws l2.draws l3.draws l4.draws t p drawn)
                (four_adds pair.level _ _ _ _ _ above cut s0.store s1.store s2.store s3.store s4.store nw ne sw se l1.grows l2.grows l3.grows l4.grows l1.draws l2.draws l3.draws l4.draws l1.adds l2.adds l3.adds l4.adds t p g added drawn)
                same found

pub both_told : {A E : Type 0} (P : A → Type 0) (Q R : Type 0) (r : Result A E) → IfOk r P → OnOk r Q → OnOk r R → IfOk r (λ x. P x × (Q × R))
both_told P Q R (Ok x) p q s = (p, (q, s))
both_told P Q R (Err e) p q s = tt

-- the squares of a pair of the level below
pub pair_below : (es : List Entry) (pair b : Pair) (q r : Numbered) (m n : ℕ) → 0 < pair.level → b ≡ pair_at (pair.level - 1) m n → q.level ≡ pair.level + 3 → r.level ≡ pair.level + 3 → IsQuarter es q m → IsQuarter es r n
    → IsNumbered es (numbered_above b.level b.upper) × IsNumbered es (numbered_above b.level b.lower)
pair_below es pair b q r m n above e hq hr hm hn =
    let down : pair.level + 3 - 1 ≡ pair.level - 1 + 3 = omega (arith, above) in
    let at = λ (z : Numbered) (x : ℕ) (level : z.level ≡ pair.level + 3) (is : IsQuarter es z x).
    subst (λ l. IsNumbered es (record { level = l; number = x })) (ap (λ l. l - 1) level ∙ down) is.is in
    subst (λ (p : Pair). IsNumbered es (numbered_above p.level p.upper) × IsNumbered es (numbered_above p.level p.lower)) (sym e) (at q m hq hm, at r n hr hn)

pub states_of_two : (es : List Entry) (pair : Pair) (two : Numbered × Numbered) (states : List ℕ) → two ≡ (numbered_above pair.level pair.upper, numbered_above pair.level pair.lower)
    → ((i : ℕ) → i < 64 → slice_index states i ≡ (lowered 8 (grid_of (square_of es two.0)) (grid_of (square_of es two.1)) (i % 8) (i / 8)).state)
    → (i : ℕ) → i < 64 → slice_index states i ≡ (lowered 8 (grid_of (square_of es (numbered_above pair.level pair.upper))) (grid_of (square_of es (numbered_above pair.level pair.lower))) (i % 8) (i / 8)).state
states_of_two es pair two states e h = subst (λ (p : Numbered × Numbered). (i : ℕ) → i < 64 → slice_index states i ≡ (lowered 8 (grid_of (square_of es p.0)) (grid_of (square_of es p.1)) (i % 8) (i / 8)).state) e h
