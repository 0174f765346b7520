-- Squares of a store that grows, and what they are cut into.
use Rattle.std.proofs.Common.{◌≡◌, ℕ, ◌+◌, ◌-◌, ◌<◌, List, [], ◌∷◌, length, refl, sym, ◌∙◌, ap, subst, arith}
use Rattle.std.specs.Prelude.{slice_index_or}
use Rattle.square_store.specs.Grid.{Grid, quartered, blank_grid, AreSameWithin}
use Rattle.square_store.specs.Squares.{Held, side_at, IsAt, grid_at, four_grid, Draws}
use Rattle.square_store.specs.Store.{IsGrown}
use Rattle.square_store.specs.Seen.{AreQuartersAt, IsBlankAt}
use Rattle.square_store.proofs.Drawn.{draws_later, each_of_four, twice_below}
use Rattle.generation_engine.specs.declared.leaf_kind.EngineLeaf.{EngineLeaf}
use Rattle.generation_engine.specs.EngineLeaf.{leaf_grid}
use Rattle.generation_engine.specs.Loading.{centred}
use Rattle.stamped_tree.proofs.Parts.{same_default}
use Rattle.generation_engine.specs.Walk.{AreMiddleParts}
use Rattle.generation_engine.proofs.Grids.{quartered_same, middle_drawn, middle_is}

-- a square of four that stood in a store, in one that has grown
four_later : (s t : Held EngineLeaf) (k p : ℕ) (a b c d : ℕ) (fa fb fc fd : Grid) → 0 < k → Draws leaf_grid 8 s (k - 1) fa a → Draws leaf_grid 8 s (k - 1) fb b → Draws leaf_grid 8 s (k - 1) fc c → Draws leaf_grid 8 s (k - 1) fd d
    → Draws leaf_grid 8 t k (four_grid leaf_grid 8 s (k - 1) (a ∷ b ∷ c ∷ d ∷ [])) p → Draws leaf_grid 8 t k (quartered (side_at 8 (k - 1)) fa fb fc fd) p
four_later s t k p a b c d fa fb fc fd some da db dc dd drawn = record {
  stands = drawn.stands;
  same = λ u v hu hv. (let e = twice_below 8 k some in
      drawn.same u v hu hv ∙ quartered_same (side_at 8 (k - 1)) _ _ _ _ fa fb fc fd da.same db.same dc.same dd.same u v (omega (arith, hu, e)) (omega (arith, hv, e)));
}

grid : Held EngineLeaf → ℕ → ℕ → Grid
grid s k p = grid_at leaf_grid 8 s k p

own : (s : Held EngineLeaf) (k p : ℕ) → IsAt s k p → Draws leaf_grid 8 s k (grid s k p) p
unfolding grid
own s k p at = record { stands = at; same = λ u v hu hv. refl }

-- a square that was put in the middle of a dead one
module _ (s0 s1 s2 s3 s4 s5 s6 : Held EngineLeaf) (k p : ℕ) (parts : List ℕ) (q0 q1 q2 q3 z a b c d w : ℕ) (some : 0 < k) (at : IsAt s0 k p)
    (g1 : IsGrown leaf_grid 8 s0 s1) (g2 : IsGrown leaf_grid 8 s1 s2) (g3 : IsGrown leaf_grid 8 s2 s3) (g4 : IsGrown leaf_grid 8 s3 s4) (g5 : IsGrown leaf_grid 8 s4 s5)
    (dead : IsBlankAt leaf_grid 8 s1 0 z) (cut : AreQuartersAt leaf_grid 8 s1 k p parts)
    (e0 : q0 ≡ slice_index_or parts 0 0) (e1 : q1 ≡ slice_index_or parts 1 0) (e2 : q2 ≡ slice_index_or parts 2 0) (e3 : q3 ≡ slice_index_or parts 3 0) where
  part_at : (i q : ℕ) → i < 4 → q ≡ slice_index_or parts i 0 → Draws leaf_grid 8 s1 (k - 1) (grid s1 (k - 1) q) q
  part_at i q h e = own s1 (k - 1) q (subst (λ r. IsAt s1 (k - 1) r) (sym e) (cut.stand i h))

  -- the four of them make the square in the middle of a dead one
  pub padded_same : Draws leaf_grid 8 s2 k (four_grid leaf_grid 8 s1 (k - 1) (z ∷ z ∷ z ∷ q0 ∷ [])) a → Draws leaf_grid 8 s3 k (four_grid leaf_grid 8 s2 (k - 1) (z ∷ z ∷ q1 ∷ z ∷ [])) b
      → Draws leaf_grid 8 s4 k (four_grid leaf_grid 8 s3 (k - 1) (z ∷ q2 ∷ z ∷ z ∷ [])) c → Draws leaf_grid 8 s5 k (four_grid leaf_grid 8 s4 (k - 1) (q3 ∷ z ∷ z ∷ z ∷ [])) d
      → AreSameWithin (side_at 8 (k + 1)) (four_grid leaf_grid 8 s5 (k + 1 - 1) (a ∷ b ∷ c ∷ d ∷ [])) (centred (side_at 8 (k - 1)) (grid_at leaf_grid 8 s0 k p))
  unfolding grid
  padded_same da db dc dd u v hu hv =
      let n = side_at 8 (k - 1) in
      let dead1 : Draws leaf_grid 8 s1 (k - 1) (blank_grid 0) z = dead (k - 1) in
      let p0 = part_at 0 q0 (omega arith) e0 in let p1 = part_at 1 q1 (omega arith) e1 in let p2 = part_at 2 q2 (omega arith) e2 in let p3 = part_at 3 q3 (omega arith) e3 in
      let f0 = grid s1 (k - 1) q0 in let f1 = grid s1 (k - 1) q1 in let f2 = grid s1 (k - 1) q2 in let f3 = grid s1 (k - 1) q3 in
      let dead2 = draws_later leaf_grid 8 s1 s2 (k - 1) (blank_grid 0) z g2 dead1 in let dead3 = draws_later leaf_grid 8 s2 s3 (k - 1) (blank_grid 0) z g3 dead2 in let dead4 = draws_later leaf_grid 8 s3 s4 (k - 1) (blank_grid 0) z g4 dead3 in
      let r1 = draws_later leaf_grid 8 s1 s2 (k - 1) f1 q1 g2 p1 in
      let r2 = draws_later leaf_grid 8 s2 s3 (k - 1) f2 q2 g3 (draws_later leaf_grid 8 s1 s2 (k - 1) f2 q2 g2 p2) in
      let r3 = draws_later leaf_grid 8 s3 s4 (k - 1) f3 q3 g4 (draws_later leaf_grid 8 s2 s3 (k - 1) f3 q3 g3 (draws_later leaf_grid 8 s1 s2 (k - 1) f3 q3 g2 p3)) in
      let za = blank_grid 0 in
      let wa = draws_later leaf_grid 8 s4 s5 k _ a g5 (draws_later leaf_grid 8 s3 s4 k _ a g4 (draws_later leaf_grid 8 s2 s3 k _ a g3 (four_later s1 s2 k a z z z q0 za za za f0 some dead1 dead1 dead1 p0 da))) in
      let wb = draws_later leaf_grid 8 s4 s5 k _ b g5 (draws_later leaf_grid 8 s3 s4 k _ b g4 (four_later s2 s3 k b z z q1 z za za f1 za some dead2 dead2 r1 dead2 db)) in
      let wc = draws_later leaf_grid 8 s4 s5 k _ c g5 (four_later s3 s4 k c z q2 z z za f2 za za some dead3 r2 dead3 dead3 dc) in
      let wd = four_later s4 s5 k d q3 z z z f3 za za za some r3 dead4 dead4 dead4 dd in
      let level : k + 1 - 1 ≡ k = omega arith in
      let e = twice_below 8 k some in
      let e' : side_at 8 (k + 1) ≡ side_at 8 k + side_at 8 k = twice_below 8 (k + 1) (omega arith) ∙ (λ i. side_at 8 (level i) + side_at 8 (level i)) in
      let four : AreSameWithin (n + n) (quartered n f0 f1 f2 f3) (grid_at leaf_grid 8 s0 k p) = λ u v hu hv.
      rw (e0, e1, e2, e3) (sym (cut.draws.same u v (omega (arith, hu, e)) (omega (arith, hv, e)))) ∙ ap (λ (g : Grid). g u v) (g1.same k p at) in
      ap (λ j. four_grid leaf_grid 8 s5 j (a ∷ b ∷ c ∷ d ∷ []) u v) level
      ∙ ap (λ m. quartered m (grid_at leaf_grid 8 s5 k a) (grid_at leaf_grid 8 s5 k b) (grid_at leaf_grid 8 s5 k c) (grid_at leaf_grid 8 s5 k d) u v) e
      ∙ middle_drawn n f0 f1 f2 f3 (grid_at leaf_grid 8 s0 k p) four (grid_at leaf_grid 8 s5 k a) (grid_at leaf_grid 8 s5 k b) (grid_at leaf_grid 8 s5 k c) (grid_at leaf_grid 8 s5 k d)
      (narrow wa.same e) (narrow wb.same e) (narrow wc.same e) (narrow wd.same e) u v (omega (arith, hu, e, e')) (omega (arith, hv, e, e'))
    where
      narrow : {m n : ℕ} {f g : Grid} → AreSameWithin m f g → m ≡ n → AreSameWithin n f g
      narrow same e u v hu hv = same u v (omega (arith, hu, e)) (omega (arith, hv, e))

  pub padded_drawn : Draws leaf_grid 8 s2 k (four_grid leaf_grid 8 s1 (k - 1) (z ∷ z ∷ z ∷ q0 ∷ [])) a → Draws leaf_grid 8 s3 k (four_grid leaf_grid 8 s2 (k - 1) (z ∷ z ∷ q1 ∷ z ∷ [])) b
      → Draws leaf_grid 8 s4 k (four_grid leaf_grid 8 s3 (k - 1) (z ∷ q2 ∷ z ∷ z ∷ [])) c → Draws leaf_grid 8 s5 k (four_grid leaf_grid 8 s4 (k - 1) (q3 ∷ z ∷ z ∷ z ∷ [])) d
      → Draws leaf_grid 8 s6 (k + 1) (four_grid leaf_grid 8 s5 (k + 1 - 1) (a ∷ b ∷ c ∷ d ∷ [])) w
      → Draws leaf_grid 8 s6 (k + 1) (centred (side_at 8 (k - 1)) (grid_at leaf_grid 8 s0 k p)) w
  padded_drawn da db dc dd dw = record { stands = dw.stands; same = λ u v hu hv. dw.same u v hu hv ∙ padded_same da db dc dd u v hu hv }

-- the four of them, made one after another, stand
pub padded_parts : (s2 s3 s4 s5 : Held EngineLeaf) (k a b c d : ℕ) → IsGrown leaf_grid 8 s2 s3 → IsGrown leaf_grid 8 s3 s4 → IsGrown leaf_grid 8 s4 s5
    → IsAt s2 k a → IsAt s3 k b → IsAt s4 k c → IsAt s5 k d → (i : ℕ) → i < 4 → IsAt s5 (k + 1 - 1) (slice_index_or (a ∷ b ∷ c ∷ d ∷ []) i 0)
padded_parts s2 s3 s4 s5 k a b c d g3 g4 g5 ha hb hc hd =
    let level : k + 1 - 1 ≡ k = omega arith in
    subst (λ j. (i : ℕ) → i < 4 → IsAt s5 j (slice_index_or (a ∷ b ∷ c ∷ d ∷ []) i 0)) (sym level)
    (each_of_four (λ q. IsAt s5 k q) a b c d (g5.stands k a (g4.stands k a (g3.stands k a ha))) (g5.stands k b (g4.stands k b hb)) (g5.stands k c hc) hd)

pub full_kept : (old new : Held EngineLeaf) → new ≡ old → length old.squares ≡ old.room → length new.squares ≡ new.room
full_kept old new e h = subst (λ (s : Held EngineLeaf). length s.squares ≡ s.room) (sym e) h

-- the middle of a square that was cut twice
module _ (s : Held EngineLeaf) (k p : ℕ) (outer nw ne sw se : List ℕ) (o0 o1 o2 o3 q0 q1 q2 q3 : ℕ) (more : 1 < k) (cut : AreQuartersAt leaf_grid 8 s k p outer)
    (cut_nw : AreQuartersAt leaf_grid 8 s (k - 1) (slice_index_or outer 0 o0) nw) (cut_ne : AreQuartersAt leaf_grid 8 s (k - 1) (slice_index_or outer 1 o1) ne) (cut_sw : AreQuartersAt leaf_grid 8 s (k - 1) (slice_index_or outer 2 o2) sw) (cut_se : AreQuartersAt leaf_grid 8 s (k - 1) (slice_index_or outer 3 o3) se) where
  listed : (parts : List ℕ) → length parts ≡ 4 → (i d : ℕ) → i < 4 → slice_index_or parts i d ≡ slice_index_or parts i 0
  listed parts four i d h = same_default parts i d 0 (omega (arith, h, four))

  below : ℕ → Grid
  below q = grid_at leaf_grid 8 s (k - 1 - 1) q

  pub middle_cut : AreMiddleParts s k p (slice_index_or nw 3 q0 ∷ slice_index_or ne 2 q1 ∷ slice_index_or sw 1 q2 ∷ slice_index_or se 0 q3 ∷ [])
  unfolding below
  middle_cut =
      let stands = λ (q : ℕ). IsAt s (k - 1 - 1) q in
      let e = twice_below 8 k (omega (arith, more)) in
      let e' = twice_below 8 (k - 1) (omega (arith, more)) in
      let n = side_at 8 (k - 1 - 1) in
      let l0 = listed outer cut.four 0 o0 (omega arith) in let l1 = listed outer cut.four 1 o1 (omega arith) in let l2 = listed outer cut.four 2 o2 (omega arith) in let l3 = listed outer cut.four 3 o3 (omega arith) in
      let g = λ (q : ℕ). grid_at leaf_grid 8 s (k - 1) q in
      let whole : AreSameWithin (n + n + (n + n)) (grid_at leaf_grid 8 s k p) (quartered (n + n) (g (slice_index_or outer 0 o0)) (g (slice_index_or outer 1 o1)) (g (slice_index_or outer 2 o2)) (g (slice_index_or outer 3 o3))) = λ u v hu hv.
      rw (l0, l1, l2, l3, ← e') (cut.draws.same u v (omega (arith, hu, e, e')) (omega (arith, hv, e, e'))) in
      record {
        four = refl;
        stand = each_of_four stands _ _ _ _
            (subst stands (sym (listed nw cut_nw.four 3 q0 (omega arith))) (cut_nw.stand 3 (omega arith))) (subst stands (sym (listed ne cut_ne.four 2 q1 (omega arith))) (cut_ne.stand 2 (omega arith)))
            (subst stands (sym (listed sw cut_sw.four 1 q2 (omega arith))) (cut_sw.stand 1 (omega arith))) (subst stands (sym (listed se cut_se.four 0 q3 (omega arith))) (cut_se.stand 0 (omega arith)));
        same = λ u v hu hv.
            rw (listed nw cut_nw.four 3 q0 (omega arith), listed ne cut_ne.four 2 q1 (omega arith), listed sw cut_sw.four 1 q2 (omega arith), listed se cut_se.four 0 q3 (omega arith))
            (middle_is n (grid_at leaf_grid 8 s k p) (g (slice_index_or outer 0 o0)) (g (slice_index_or outer 1 o1)) (g (slice_index_or outer 2 o2)) (g (slice_index_or outer 3 o3))
            (below (slice_index_or nw 3 0)) (below (slice_index_or nw 0 0)) (below (slice_index_or nw 1 0)) (below (slice_index_or nw 2 0))
            (below (slice_index_or ne 2 0)) (below (slice_index_or ne 0 0)) (below (slice_index_or ne 1 0)) (below (slice_index_or ne 3 0))
            (below (slice_index_or sw 1 0)) (below (slice_index_or sw 0 0)) (below (slice_index_or sw 2 0)) (below (slice_index_or sw 3 0))
            (below (slice_index_or se 0 0)) (below (slice_index_or se 1 0)) (below (slice_index_or se 2 0)) (below (slice_index_or se 3 0))
            whole (narrower cut_nw.draws.same e') (narrower cut_ne.draws.same e') (narrower cut_sw.draws.same e') (narrower cut_se.draws.same e') u v (omega (arith, hu, e')) (omega (arith, hv, e')));
      }
    where
      narrower : {m n : ℕ} {f g : Grid} → AreSameWithin m f g → m ≡ n → AreSameWithin n f g
      narrower same e u v hu hv = same u v (omega (arith, hu, e)) (omega (arith, hv, e))
