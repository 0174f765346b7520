-- Squares of a plane, brought into a store that grows.
use Rattle.std.proofs.Common.{◌≡◌, ℕ, ◌+◌, ◌-◌, ◌*◌, ◌<◌, ◌≤◌, Bool, true, false, List, [], ◌∷◌, length, refl, sym, ◌∙◌, ap, subst, arith}
use Rattle.std.specs.Prelude.{slice_index_or, slice_index, Some, cond, eqb, nat_lt, if◌then◌else◌}
use Rattle.std.proofs.lemmas.List.{get_or-map}
use Rattle.stamped_writes.specs.declared.write.Write.{Write}
use Rattle.stamped_writes.specs.Write.{unwritten}
use Rattle.leaf_merge_lanes.specs.Leaf.{states_of, write_on_leaf}
use Rattle.square_store.specs.Grid.{Grid, quartered, blank_grid, AreSameWithin}
use Rattle.square_store.specs.Squares.{Held, side_at, IsAt, grid_at, four_grid, Draws}
use Rattle.square_store.specs.Store.{IsGrown}
use Rattle.square_store.specs.Seen.{AreAt, IsBlankAt, IsLeafAt}
use Rattle.square_store.proofs.Nodes.{nat_same}
use Rattle.square_store.proofs.Drawn.{draws_later, each_of_four, twice_below}
use Rattle.stamped_tree.specs.Copy.{Copies, copy_of}
use Rattle.stamped_tree.specs.PlaneSquare.{PlaneSquare}
use Rattle.stamped_tree.specs.View.{AreQuartersSeen}
use Rattle.stamped_tree.specs.declared.leaf_kind.PlaneLeaf.{PlaneLeaf}
use Rattle.stamped_tree.specs.LeafKind.{plane_grid}
use Rattle.generation_engine.specs.declared.leaf_kind.EngineLeaf.{EngineLeaf}
use Rattle.generation_engine.specs.EngineLeaf.{leaf_grid, states_on, unstamped}
use Rattle.generation_engine.specs.Loading.{AreBrought, IsBrought, IsBroughtNoted}
use Rattle.generation_engine.proofs.Grids.{quartered_same}

pub brought_later : (source : Held PlaneLeaf) (old new : Held EngineLeaf) (a b : ℕ) → IsGrown leaf_grid 8 old new → IsBrought source old a b → IsBrought source new a b
brought_later source old new a b grown copy = record { draws = λ k at. draws_later leaf_grid 8 old new k _ b grown (copy.draws k at) }

pub all_later : (source : Held PlaneLeaf) (old new : Held EngineLeaf) (copies : Copies) → IsGrown leaf_grid 8 old new → AreBrought source old copies → AreBrought source new copies
all_later source old new copies grown are = record { each = λ a b e. brought_later source old new a b grown (are.each a b e) }

pub all_noted : (source : Held PlaneLeaf) (s : Held EngineLeaf) (copies noted : Copies) (a b : ℕ) → AreBrought source s copies → IsBrought source s a b → IsBroughtNoted copies noted a b → AreBrought source s noted
all_noted source s copies noted a b are copy note = record { each = λ q c e. go q c e (eqb a q) refl }
  where
    same_copy : {x y : ℕ} → Some x ≡ Some y → x ≡ y
    same_copy z = cc

    go : (q c : ℕ) → copy_of noted q ≡ Some c → (x : Bool) → eqb a q ≡ x → IsBrought source s q c
    go q c e true t =
        let found : Some b ≡ Some c = sym (ap (λ x. cond x (Some b) (copy_of copies q)) t) ∙ sym (note.found q) ∙ e in
        subst (λ z. IsBrought source s z c) (nat_same a q t) (subst (λ z. IsBrought source s a z) (same_copy found) copy)
    go q c e false t = are.each q c (sym (ap (λ x. cond x (Some b) (copy_of copies q)) t) ∙ sym (note.found q) ∙ e)

-- a blank is brought as the dead square
pub blank_brought : (source : Held PlaneLeaf) (new : Held EngineLeaf) (t a b : ℕ) → IsBlankAt plane_grid 8 source t a → ((k : ℕ) → Draws leaf_grid 8 new k (blank_grid 0) b) → IsBrought source new a b
blank_brought source new t a b blank drawn = record {
  draws = λ k at. record { stands = (drawn k).stands; same = λ u v hu hv. (drawn k).same u v hu hv ∙ sym (ap (λ (w : Write). unstamped w.state) ((blank k).same u v hu hv)) };
}

-- a leaf is brought by its states
pub leaf_brought : (source : Held PlaneLeaf) (new : Held EngineLeaf) (l : PlaneLeaf) (states : EngineLeaf) (a b : ℕ) → ((i : ℕ) → i < 64 → slice_index states.leaf i ≡ (write_on_leaf l.leaf i).state) → IsLeafAt plane_grid 8 source l a → Draws leaf_grid 8 new 0 (leaf_grid states) b → IsBrought source new a b
leaf_brought source new l states a b is leaf drawn = record {
  draws = λ k at. subst (λ j. Draws leaf_grid 8 new j (states_on (grid_at plane_grid 8 source j a)) b) (sym (leaf.level k at)) (record {
    stands = drawn.stands;
    same = λ u v hu hv. drawn.same u v hu hv ∙ ap unstamped (is (8 * v + u) (omega (arith, hu, hv))) ∙ sym (ap (λ (w : Write). unstamped w.state) (leaf.draws.same u v hu hv));
  });
}

-- the states of four squares put together are their states, put together
states_of_four : (n : ℕ) (a b c d : Grid) (u v : ℕ) → quartered n (states_on a) (states_on b) (states_on c) (states_on d) u v ≡ states_on (quartered n a b c d) u v
states_of_four n a b c d u v = go (nat_lt v n) (nat_lt u n)
  where
    go : (x y : Bool) → (if x then (if y then states_on a u v else states_on b (u - n) v) else (if y then states_on c u (v - n) else states_on d (u - n) (v - n)))
        ≡ unstamped (if x then (if y then a u v else b (u - n) v) else (if y then c u (v - n) else d (u - n) (v - n))).state
    go true true = refl
    go true false = refl
    go false true = refl
    go false false = refl

-- four squares were brought one after another, and put together
module _ (q nw ne sw se : PlaneSquare) (s1 s2 s3 s4 s5 : Held EngineLeaf) (k a b c d w : ℕ) (seen : AreQuartersSeen q nw ne sw se) (at : IsAt q.store k q.part)
    (g2 : IsGrown leaf_grid 8 s1 s2) (g3 : IsGrown leaf_grid 8 s2 s3) (g4 : IsGrown leaf_grid 8 s3 s4)
    (ba : IsBrought q.store s1 nw.part a) (bb : IsBrought q.store s2 ne.part b) (bc : IsBrought q.store s3 sw.part c) (bd : IsBrought q.store s4 se.part d) where
  level : k ≡ seen.level
  level = seen.four.level k at

  stands : (i : ℕ) → i < 4 → IsAt q.store (k - 1) (slice_index_or (nw.part ∷ ne.part ∷ sw.part ∷ se.part ∷ []) i 0)
  stands i h = subst (λ j. IsAt q.store (j - 1) (slice_index_or (nw.part ∷ ne.part ∷ sw.part ∷ se.part ∷ []) i 0)) (sym level) (seen.four.parts_stand i h)

  da : Draws leaf_grid 8 s4 (k - 1) (states_on (grid_at plane_grid 8 q.store (k - 1) nw.part)) a
  da = draws_later leaf_grid 8 s3 s4 (k - 1) _ a g4 (draws_later leaf_grid 8 s2 s3 (k - 1) _ a g3 (draws_later leaf_grid 8 s1 s2 (k - 1) _ a g2 (ba.draws (k - 1) (stands 0 (omega arith)))))

  db : Draws leaf_grid 8 s4 (k - 1) (states_on (grid_at plane_grid 8 q.store (k - 1) ne.part)) b
  db = draws_later leaf_grid 8 s3 s4 (k - 1) _ b g4 (draws_later leaf_grid 8 s2 s3 (k - 1) _ b g3 (bb.draws (k - 1) (stands 1 (omega arith))))

  dc : Draws leaf_grid 8 s4 (k - 1) (states_on (grid_at plane_grid 8 q.store (k - 1) sw.part)) c
  dc = draws_later leaf_grid 8 s3 s4 (k - 1) _ c g4 (bc.draws (k - 1) (stands 2 (omega arith)))

  dd : Draws leaf_grid 8 s4 (k - 1) (states_on (grid_at plane_grid 8 q.store (k - 1) se.part)) d
  dd = bd.draws (k - 1) (stands 3 (omega arith))

  pub four_stand : AreAt s4 (k - 1) (a ∷ b ∷ c ∷ d ∷ [])
  four_stand = each_of_four (λ p. IsAt s4 (k - 1) p) a b c d da.stands db.stands dc.stands dd.stands

  -- the four make a square with the states of the one brought
  pub four_same : AreSameWithin (side_at 8 k) (four_grid leaf_grid 8 s4 (k - 1) (a ∷ b ∷ c ∷ d ∷ [])) (states_on (grid_at plane_grid 8 q.store k q.part))
  four_same u v hu hv =
      let n = side_at 8 (k - 1) in
      let some : 0 < k = (let h = seen.four.positive in omega (arith, h, level)) in
      let e = twice_below 8 k some in
      let fa = grid_at plane_grid 8 q.store (k - 1) nw.part in let fb = grid_at plane_grid 8 q.store (k - 1) ne.part in
      let fc = grid_at plane_grid 8 q.store (k - 1) sw.part in let fd = grid_at plane_grid 8 q.store (k - 1) se.part in
      let source : AreSameWithin (side_at 8 k) (grid_at plane_grid 8 q.store k q.part) (quartered n fa fb fc fd) =
      subst (λ i. AreSameWithin (side_at 8 i) (grid_at plane_grid 8 q.store i q.part) (four_grid plane_grid 8 q.store (i - 1) (nw.part ∷ ne.part ∷ sw.part ∷ se.part ∷ []))) (sym level) seen.four.draws.same in
      quartered_same n _ _ _ _ (states_on fa) (states_on fb) (states_on fc) (states_on fd) da.same db.same dc.same dd.same u v (omega (arith, hu, e)) (omega (arith, hv, e))
      ∙ states_of_four n fa fb fc fd u v
      ∙ sym (ap (λ (x : Write). unstamped x.state) (source u v hu hv))

  pub four_brought : Draws leaf_grid 8 s5 k (four_grid leaf_grid 8 s4 (k - 1) (a ∷ b ∷ c ∷ d ∷ [])) w → IsBrought q.store s5 q.part w
  four_brought drawn = record {
    draws = λ j here. subst (λ i. Draws leaf_grid 8 s5 i (states_on (grid_at plane_grid 8 q.store i q.part)) w) (level ∙ sym (seen.four.level j here))
        (record { stands = drawn.stands; same = λ u v hu hv. drawn.same u v hu hv ∙ four_same u v hu hv });
  }

pub moved_source : (s t : Held PlaneLeaf) (target : Held EngineLeaf) (a b : ℕ) → s ≡ t → IsBrought s target a b → IsBrought t target a b
moved_source s t target a b e is = subst (λ z. IsBrought z target a b) e is

pub states_listed : (writes : List Write) (states : List ℕ) → length writes ≡ 64 → states ≡ states_of writes → (i : ℕ) → i < 64 → slice_index states i ≡ (write_on_leaf writes i).state
states_listed writes states long e i h = ap (λ l. slice_index l i) e ∙ get_or-map (λ (w : Write). w.state) writes i unwritten 0 (omega (arith, long, h))

pub all_moved : (s t : Held PlaneLeaf) (target : Held EngineLeaf) (copies : Copies) → s ≡ t → AreBrought s target copies → AreBrought t target copies
all_moved s t target copies e are = subst (λ z. AreBrought z target copies) e are

-- the parts that are seen stand at the level below
module _ (q nw ne sw se : PlaneSquare) (k : ℕ) (seen : AreQuartersSeen q nw ne sw se) (at : IsAt q.store k q.part) where
  pub some_above : 0 < k
  some_above = let level = seen.four.level k at in let h = seen.four.positive in omega (arith, h, level)

  pub above_leaves : 1 ≤ k
  above_leaves = let some = some_above in omega (arith, some)

  part_seen : (i : ℕ) → i < 4 → IsAt q.store (k - 1) (slice_index_or (nw.part ∷ ne.part ∷ sw.part ∷ se.part ∷ []) i 0)
  part_seen i h = subst (λ j. IsAt q.store (j - 1) (slice_index_or (nw.part ∷ ne.part ∷ sw.part ∷ se.part ∷ []) i 0)) (sym (seen.four.level k at)) (seen.four.parts_stand i h)

  pub nw_seen : IsAt nw.store (k - 1) nw.part
  nw_seen = subst (λ s. IsAt s (k - 1) nw.part) (sym seen.nw_store) (part_seen 0 (omega arith))

  pub ne_seen : IsAt ne.store (k - 1) ne.part
  ne_seen = subst (λ s. IsAt s (k - 1) ne.part) (sym seen.ne_store) (part_seen 1 (omega arith))

  pub sw_seen : IsAt sw.store (k - 1) sw.part
  sw_seen = subst (λ s. IsAt s (k - 1) sw.part) (sym seen.sw_store) (part_seen 2 (omega arith))

  pub se_seen : IsAt se.store (k - 1) se.part
  se_seen = subst (λ s. IsAt s (k - 1) se.part) (sym seen.se_store) (part_seen 3 (omega arith))

pub bring_falls : (k t : ℕ) → 1 ≤ k → k ≡ t → k - 1 < t
bring_falls k t some is = omega (arith, some, is)
