-- What a load adds to a store, and what a full store lacks.
use Rattle.std.proofs.Common.{◌≡◌, ℕ, suc, ◌+◌, ◌-◌, ◌*◌, ◌<◌, ◌⊎◌, List, [], ◌∷◌, length, inl, inr, refl, sym, ◌∙◌, ap, subst, arith}
use Rattle.std.specs.Prelude.{slice_index, slice_index_or}
use Rattle.stamped_writes.specs.declared.write.Write.{Write}
use Rattle.leaf_merge_lanes.specs.Leaf.{write_on_leaf}
use Rattle.square_store.specs.Grid.{Grid, quartered, blank_grid, AreSameWithin}
use Rattle.square_store.specs.Squares.{Held, side_at, IsAt, grid_at, four_grid, Draws}
use Rattle.square_store.specs.Store.{IsHeld, IsStore, IsGrown, IsAdded, IsAbsent, IsOnePartEach}
use Rattle.square_store.specs.Seen.{AreQuartersAt, IsBlankAt, IsLeafAt}
use Rattle.square_store.specs.Pieces.{IsPieceOfGrid, AddsPiecesOfGrid, grid_from}
use Rattle.square_store.proofs.Counting.{AreItsQuarters, AreShared, cut_quarters, adds_as, adds_one, adds_nw, adds_ne, adds_sw, adds_se, adds_quarter, adds_quarter_of, adds_nothing, absent_as, absent_quarter, absent_quarter_of, lacks_nw, lacks_ne, lacks_sw, lacks_se, shared_piece, no_room, piece_later}
use Rattle.stamped_tree.specs.PlaneSquare.{PlaneSquare}
use Rattle.stamped_tree.specs.View.{AreQuartersSeen}
use Rattle.stamped_tree.specs.declared.leaf_kind.PlaneLeaf.{PlaneLeaf}
use Rattle.stamped_tree.specs.LeafKind.{plane_grid}
use Rattle.square_store.proofs.Drawn.{draws_as, draws_later, twice_below}
use Rattle.stamped_tree.specs.Plane.{StampedPlane}
use Rattle.generation_engine.specs.declared.leaf_kind.EngineLeaf.{EngineLeaf}
use Rattle.generation_engine.specs.EngineLeaf.{leaf_grid, states_on, unstamped, IsEngineLeaf}
use Rattle.generation_engine.specs.Loading.{centred, plane_in_universe, states_of_square, DrawsUniverse, IsTooSmallFor}
use Rattle.generation_engine.proofs.Grids.{quartered_same, middle_drawn, before_middle, centred_beside, centred_same}

states_quarters : (n : ℕ) (f a b c d : Grid) → AreItsQuarters n f a b c d → AreItsQuarters n (states_on f) (states_on a) (states_on b) (states_on c) (states_on d)
states_quarters n f a b c d are = record {
  nw = λ u v hu hv. ap (λ (w : Write). unstamped w.state) (are.nw u v hu hv);
  ne = λ u v hu hv. ap (λ (w : Write). unstamped w.state) (are.ne u v hu hv);
  sw = λ u v hu hv. ap (λ (w : Write). unstamped w.state) (are.sw u v hu hv);
  se = λ u v hu hv. ap (λ (w : Write). unstamped w.state) (are.se u v hu hv);
}

-- the states of four squares that are seen are quarters of those of the square
pub quarters_seen : (q nw ne sw se : PlaneSquare) (k : ℕ) → AreQuartersSeen q nw ne sw se → IsAt q.store k q.part
    → AreItsQuarters (side_at 8 (k - 1)) (states_of_square q.store k q.part) (states_of_square nw.store (k - 1) nw.part) (states_of_square ne.store (k - 1) ne.part) (states_of_square sw.store (k - 1) sw.part) (states_of_square se.store (k - 1) se.part)
quarters_seen q nw ne sw se k seen at =
    let n = side_at 8 (k - 1) in
    let level : k ≡ seen.level = seen.four.level k at in
    let e = twice_below 8 k (let h = seen.four.positive in omega (arith, h, level)) in
    let grid = λ (p : ℕ). grid_at plane_grid 8 q.store (k - 1) p in
    let source : AreSameWithin (side_at 8 k) (grid_at plane_grid 8 q.store k q.part) (quartered n (grid nw.part) (grid ne.part) (grid sw.part) (grid se.part)) =
    subst (λ i. AreSameWithin (side_at 8 i) (grid_at plane_grid 8 q.store i q.part) (four_grid plane_grid 8 q.store (i - 1) (nw.part ∷ ne.part ∷ sw.part ∷ se.part ∷ []))) (sym level) seen.four.draws.same in
    let are = states_quarters n (grid_at plane_grid 8 q.store k q.part) (grid nw.part) (grid ne.part) (grid sw.part) (grid se.part)
    (cut_quarters n (grid_at plane_grid 8 q.store k q.part) (grid nw.part) (grid ne.part) (grid sw.part) (grid se.part) (λ u v hu hv. sym (source u v (omega (arith, hu, e)) (omega (arith, hv, e))))) in
    record {
      nw = λ u v hu hv. ap (λ s. states_of_square s (k - 1) nw.part u v) seen.nw_store ∙ are.nw u v hu hv;
      ne = λ u v hu hv. ap (λ s. states_of_square s (k - 1) ne.part u v) seen.ne_store ∙ are.ne u v hu hv;
      sw = λ u v hu hv. ap (λ s. states_of_square s (k - 1) sw.part u v) seen.sw_store ∙ are.sw u v hu hv;
      se = λ u v hu hv. ap (λ s. states_of_square s (k - 1) se.part u v) seen.se_store ∙ are.se u v hu hv;
    }

pub absent_kept : (old new : Held EngineLeaf) (k : ℕ) (f : Grid) → new ≡ old → IsAbsent leaf_grid 8 old k f → IsAbsent leaf_grid 8 new k f
absent_kept old new k f e absent = subst (λ (s : Held EngineLeaf). IsAbsent leaf_grid 8 s k f) (sym e) absent

-- where the dead square is absent, so are the states of a blank
pub blank_absent : (source : Held PlaneLeaf) (s : Held EngineLeaf) (t a k : ℕ) → IsBlankAt plane_grid 8 source t a → IsAbsent leaf_grid 8 s k (blank_grid 0) → IsAbsent leaf_grid 8 s k (states_of_square source k a)
blank_absent source s t a k blank absent = absent_as leaf_grid 8 s k (blank_grid 0) (states_of_square source k a) (λ u v hu hv. sym (ap (λ (w : Write). unstamped w.state) ((blank k).same u v hu hv))) absent

-- where the states of a leaf are absent, so is the leaf
pub leaf_absent : (source : Held PlaneLeaf) (s : Held EngineLeaf) (l : PlaneLeaf) (states : EngineLeaf) (a k : ℕ) → ((i : ℕ) → i < 64 → slice_index states.leaf i ≡ (write_on_leaf l.leaf i).state) → IsLeafAt plane_grid 8 source l a → IsAt source k a
    → IsAbsent leaf_grid 8 s 0 (leaf_grid states) → IsAbsent leaf_grid 8 s k (states_of_square source k a)
leaf_absent source s l states a k is leaf at absent =
    subst (λ j. IsAbsent leaf_grid 8 s j (states_of_square source j a)) (sym (leaf.level k at))
    (absent_as leaf_grid 8 s 0 (leaf_grid states) (states_of_square source 0 a)
    (λ u v hu hv. ap unstamped (is (8 * v + u) (omega (arith, hu, hv))) ∙ sym (ap (λ (w : Write). unstamped w.state) (leaf.draws.same u v hu hv))) absent)

-- ---- a square in the middle of a dead one

-- what a quarter of a quarter lacks, the square lacks
pub no_dead : (s : Held EngineLeaf) (k : ℕ) (f : Grid) → 0 < k → IsStore leaf_grid 8 IsEngineLeaf s → IsAbsent leaf_grid 8 s (k - 1) (blank_grid 0) → IsAbsent leaf_grid 8 s (k + 1) (centred (side_at 8 (k - 1)) f)
no_dead s k f above is absent =
    let n = side_at 8 (k - 1) in
    let whole = centred n f in
    let up : suc k ≡ k + 1 = omega arith in
    subst (λ j. IsAbsent leaf_grid 8 s j whole) up
    (absent_quarter leaf_grid 8 IsEngineLeaf s is.canonical k 0 0 whole (record { left = inl refl; upper = inl refl })
    (absent_quarter_of leaf_grid 8 IsEngineLeaf s is.canonical k 0 0 (grid_from 0 0 whole) above (record { left = inl refl; upper = inl refl })
    (absent_as leaf_grid 8 s (k - 1) (blank_grid 0) (grid_from 0 0 (grid_from 0 0 whole)) (λ u v hu hv. sym (centred_beside n f (0 + (0 + u)) (0 + (0 + v)) (before_middle n (0 + (0 + u)) (omega (arith, hu))))) absent)))

pub dead_added : (s t : Held EngineLeaf) (k z : ℕ) (f : Grid) → 0 < k → ((j : ℕ) → IsAdded leaf_grid 8 s t j (blank_grid 0) z) → IsBlankAt leaf_grid 8 t 0 z → AddsPiecesOfGrid leaf_grid 8 s t (k + 1) (centred (side_at 8 (k - 1)) f)
dead_added s t k z f above added dead =
    let n = side_at 8 (k - 1) in
    let whole = centred n f in
    let up : suc k ≡ k + 1 = omega arith in
    subst (λ j. AddsPiecesOfGrid leaf_grid 8 s t j whole) up
    (adds_quarter leaf_grid 8 s t k whole 0 0 (record { left = inl refl; upper = inl refl })
    (adds_quarter_of leaf_grid 8 s t k (grid_from 0 0 whole) 0 0 above (record { left = inl refl; upper = inl refl })
    (adds_as leaf_grid 8 s t (k - 1) (blank_grid 0) (grid_from 0 0 (grid_from 0 0 whole)) (λ u v hu hv. sym (centred_beside n f (0 + (0 + u)) (0 + (0 + v)) (before_middle n (0 + (0 + u)) (omega (arith, hu)))))
    (adds_one leaf_grid 8 s t (k - 1) (k - 1) (blank_grid 0) (blank_grid 0) z (added (k - 1)) (dead (k - 1))))))

-- the store is as it was
pub adds_still : (s t r : Held EngineLeaf) (k : ℕ) (f : Grid) → r ≡ t → AddsPiecesOfGrid leaf_grid 8 s t k f → AddsPiecesOfGrid leaf_grid 8 s r k f
adds_still s t r k f e adds = subst (λ (x : Held EngineLeaf). AddsPiecesOfGrid leaf_grid 8 s x k f) (sym e) adds

pub grown_itself : (s : Held EngineLeaf) → IsGrown leaf_grid 8 s s
grown_itself s = record { room = refl; held = λ p there. there; stands = λ k p there. there; same = λ k p there. refl }

-- a square's quarters at the middle of a dead one, in a store that has grown
module _ (s0 s1 : Held EngineLeaf) (k p : ℕ) (parts : List ℕ) (q0 q1 q2 q3 z : ℕ) (some : 0 < k) (at : IsAt s0 k p) (g1 : IsGrown leaf_grid 8 s0 s1) (dead : IsBlankAt leaf_grid 8 s1 0 z) (cut : AreQuartersAt leaf_grid 8 s1 k p parts)
    (e0 : q0 ≡ slice_index_or parts 0 0) (e1 : q1 ≡ slice_index_or parts 1 0) (e2 : q2 ≡ slice_index_or parts 2 0) (e3 : q3 ≡ slice_index_or parts 3 0) where
  abbrev part : ℕ → Grid
  part q = grid_at leaf_grid 8 s1 (k - 1) q

  abbrev north_west : Grid
  north_west = quartered (side_at 8 (k - 1)) (blank_grid 0) (blank_grid 0) (blank_grid 0) (part q0)

  abbrev north_east : Grid
  north_east = quartered (side_at 8 (k - 1)) (blank_grid 0) (blank_grid 0) (part q1) (blank_grid 0)

  abbrev south_west : Grid
  south_west = quartered (side_at 8 (k - 1)) (blank_grid 0) (part q2) (blank_grid 0) (blank_grid 0)

  abbrev south_east : Grid
  south_east = quartered (side_at 8 (k - 1)) (part q3) (blank_grid 0) (blank_grid 0) (blank_grid 0)

  abbrev whole : Grid
  whole = centred (side_at 8 (k - 1)) (grid_at leaf_grid 8 s0 k p)

  padded_quarters : AreItsQuarters (side_at 8 (k + 1 - 1)) whole north_west north_east south_west south_east
  padded_quarters =
      let n = side_at 8 (k - 1) in
      let level : k ≡ k + 1 - 1 = omega arith in
      let e : side_at 8 k ≡ n + n = twice_below 8 k some in
      let four : AreSameWithin (n + n) (quartered n (part q0) (part q1) (part q2) (part q3)) (grid_at leaf_grid 8 s0 k p) = λ u v hu hv.
      rw (e0, e1, e2, e3) (sym (cut.draws.same u v (omega (arith, hu, e)) (omega (arith, hv, e)))) ∙ ap (λ (g : Grid). g u v) (g1.same k p at) in
      subst (λ j. AreItsQuarters (side_at 8 j) whole north_west north_east south_west south_east) level
      (subst (λ m. AreItsQuarters m whole north_west north_east south_west south_east) (sym e)
      (cut_quarters (n + n) whole north_west north_east south_west south_east
      (middle_drawn n (part q0) (part q1) (part q2) (part q3) (grid_at leaf_grid 8 s0 k p) four north_west north_east south_west south_east (λ u v hu hv. refl) (λ u v hu hv. refl) (λ u v hu hv. refl) (λ u v hu hv. refl))))

  -- four parts that stand are drawn put together
  four_is : (t : Held EngineLeaf) (a b c d : ℕ) (fa fb fc fd : Grid) → Draws leaf_grid 8 t (k - 1) fa a → Draws leaf_grid 8 t (k - 1) fb b → Draws leaf_grid 8 t (k - 1) fc c → Draws leaf_grid 8 t (k - 1) fd d
      → AreSameWithin (side_at 8 k) (four_grid leaf_grid 8 t (k - 1) (a ∷ b ∷ c ∷ d ∷ [])) (quartered (side_at 8 (k - 1)) fa fb fc fd)
  four_is t a b c d fa fb fc fd da db dc dd u v hu hv =
      let e = twice_below 8 k some in
      quartered_same (side_at 8 (k - 1)) _ _ _ _ fa fb fc fd da.same db.same dc.same dd.same u v (omega (arith, hu, e)) (omega (arith, hv, e))

  module _ (t : Held EngineLeaf) (g : IsGrown leaf_grid 8 s1 t) where
    dead_in : Draws leaf_grid 8 t (k - 1) (blank_grid 0) z
    dead_in = draws_later leaf_grid 8 s1 t (k - 1) (blank_grid 0) z g (dead (k - 1))

    part_in : (i q : ℕ) → i < 4 → q ≡ slice_index_or parts i 0 → Draws leaf_grid 8 t (k - 1) (part q) q
    part_in i q h e = draws_later leaf_grid 8 s1 t (k - 1) (part q) q g (record { stands = subst (λ r. IsAt s1 (k - 1) r) (sym e) (cut.stand i h); same = λ u v hu hv. refl })

    nw_is : AreSameWithin (side_at 8 k) (four_grid leaf_grid 8 t (k - 1) (z ∷ z ∷ z ∷ q0 ∷ [])) north_west
    nw_is = four_is t z z z q0 (blank_grid 0) (blank_grid 0) (blank_grid 0) (part q0) dead_in dead_in dead_in (part_in 0 q0 (omega arith) e0)

    ne_is : AreSameWithin (side_at 8 k) (four_grid leaf_grid 8 t (k - 1) (z ∷ z ∷ q1 ∷ z ∷ [])) north_east
    ne_is = four_is t z z q1 z (blank_grid 0) (blank_grid 0) (part q1) (blank_grid 0) dead_in dead_in (part_in 1 q1 (omega arith) e1) dead_in

    sw_is : AreSameWithin (side_at 8 k) (four_grid leaf_grid 8 t (k - 1) (z ∷ q2 ∷ z ∷ z ∷ [])) south_west
    sw_is = four_is t z q2 z z (blank_grid 0) (part q2) (blank_grid 0) (blank_grid 0) dead_in (part_in 2 q2 (omega arith) e2) dead_in dead_in

    se_is : AreSameWithin (side_at 8 k) (four_grid leaf_grid 8 t (k - 1) (q3 ∷ z ∷ z ∷ z ∷ [])) south_east
    se_is = four_is t q3 z z z (part q3) (blank_grid 0) (blank_grid 0) (blank_grid 0) (part_in 3 q3 (omega arith) e3) dead_in dead_in dead_in

    up : 0 < k + 1
    up = omega arith

    -- a quarter that was added
    module _ (r : Held EngineLeaf) (a : ℕ) where
      quarter_added : (f h : Grid) → AreSameWithin (side_at 8 k) f h → IsAdded leaf_grid 8 t r k f a → Draws leaf_grid 8 r k f a → AddsPiecesOfGrid leaf_grid 8 t r (k + 1 - 1) h
      quarter_added f h same added drawn =
          let level : k ≡ k + 1 - 1 = omega arith in
          subst (λ j. AddsPiecesOfGrid leaf_grid 8 t r j h) level (adds_one leaf_grid 8 t r k k f h a added (draws_as leaf_grid 8 r k f h a same drawn))

      pub nw_added : IsAdded leaf_grid 8 t r k (four_grid leaf_grid 8 t (k - 1) (z ∷ z ∷ z ∷ q0 ∷ [])) a → Draws leaf_grid 8 r k (four_grid leaf_grid 8 t (k - 1) (z ∷ z ∷ z ∷ q0 ∷ [])) a → AddsPiecesOfGrid leaf_grid 8 t r (k + 1) (centred (side_at 8 (k - 1)) (grid_at leaf_grid 8 s0 k p))
      nw_added added drawn = adds_nw leaf_grid 8 (k + 1) whole north_west north_east south_west south_east up padded_quarters t r (quarter_added _ north_west nw_is added drawn)

      pub ne_added : IsAdded leaf_grid 8 t r k (four_grid leaf_grid 8 t (k - 1) (z ∷ z ∷ q1 ∷ z ∷ [])) a → Draws leaf_grid 8 r k (four_grid leaf_grid 8 t (k - 1) (z ∷ z ∷ q1 ∷ z ∷ [])) a → AddsPiecesOfGrid leaf_grid 8 t r (k + 1) (centred (side_at 8 (k - 1)) (grid_at leaf_grid 8 s0 k p))
      ne_added added drawn = adds_ne leaf_grid 8 (k + 1) whole north_west north_east south_west south_east up padded_quarters t r (quarter_added _ north_east ne_is added drawn)

      pub sw_added : IsAdded leaf_grid 8 t r k (four_grid leaf_grid 8 t (k - 1) (z ∷ q2 ∷ z ∷ z ∷ [])) a → Draws leaf_grid 8 r k (four_grid leaf_grid 8 t (k - 1) (z ∷ q2 ∷ z ∷ z ∷ [])) a → AddsPiecesOfGrid leaf_grid 8 t r (k + 1) (centred (side_at 8 (k - 1)) (grid_at leaf_grid 8 s0 k p))
      sw_added added drawn = adds_sw leaf_grid 8 (k + 1) whole north_west north_east south_west south_east up padded_quarters t r (quarter_added _ south_west sw_is added drawn)

      pub se_added : IsAdded leaf_grid 8 t r k (four_grid leaf_grid 8 t (k - 1) (q3 ∷ z ∷ z ∷ z ∷ [])) a → Draws leaf_grid 8 r k (four_grid leaf_grid 8 t (k - 1) (q3 ∷ z ∷ z ∷ z ∷ [])) a → AddsPiecesOfGrid leaf_grid 8 t r (k + 1) (centred (side_at 8 (k - 1)) (grid_at leaf_grid 8 s0 k p))
      se_added added drawn = adds_se leaf_grid 8 (k + 1) whole north_west north_east south_west south_east up padded_quarters t r (quarter_added _ south_east se_is added drawn)

    -- a quarter that is lacking, where nothing was added
    module _ (r : Held EngineLeaf) (still : r ≡ t) (is : IsStore leaf_grid 8 IsEngineLeaf r) where
      quarter_lacking : (f h : Grid) → AreSameWithin (side_at 8 k) f h → IsAbsent leaf_grid 8 t k f → IsAbsent leaf_grid 8 r (k + 1 - 1) h
      quarter_lacking f h same absent =
          let level : k ≡ k + 1 - 1 = omega arith in
          subst (λ j. IsAbsent leaf_grid 8 r j h) level (absent_as leaf_grid 8 r k f h same (absent_kept t r k f still absent))

      pub no_nw : IsAbsent leaf_grid 8 t k (four_grid leaf_grid 8 t (k - 1) (z ∷ z ∷ z ∷ q0 ∷ [])) → IsAbsent leaf_grid 8 r (k + 1) (centred (side_at 8 (k - 1)) (grid_at leaf_grid 8 s0 k p))
      no_nw absent = lacks_nw leaf_grid 8 (k + 1) whole north_west north_east south_west south_east up padded_quarters IsEngineLeaf r is.canonical (quarter_lacking _ north_west nw_is absent)

      pub no_ne : IsAbsent leaf_grid 8 t k (four_grid leaf_grid 8 t (k - 1) (z ∷ z ∷ q1 ∷ z ∷ [])) → IsAbsent leaf_grid 8 r (k + 1) (centred (side_at 8 (k - 1)) (grid_at leaf_grid 8 s0 k p))
      no_ne absent = lacks_ne leaf_grid 8 (k + 1) whole north_west north_east south_west south_east up padded_quarters IsEngineLeaf r is.canonical (quarter_lacking _ north_east ne_is absent)

      pub no_sw : IsAbsent leaf_grid 8 t k (four_grid leaf_grid 8 t (k - 1) (z ∷ q2 ∷ z ∷ z ∷ [])) → IsAbsent leaf_grid 8 r (k + 1) (centred (side_at 8 (k - 1)) (grid_at leaf_grid 8 s0 k p))
      no_sw absent = lacks_sw leaf_grid 8 (k + 1) whole north_west north_east south_west south_east up padded_quarters IsEngineLeaf r is.canonical (quarter_lacking _ south_west sw_is absent)

      pub no_se : IsAbsent leaf_grid 8 t k (four_grid leaf_grid 8 t (k - 1) (q3 ∷ z ∷ z ∷ z ∷ [])) → IsAbsent leaf_grid 8 r (k + 1) (centred (side_at 8 (k - 1)) (grid_at leaf_grid 8 s0 k p))
      no_se absent = lacks_se leaf_grid 8 (k + 1) whole north_west north_east south_west south_east up padded_quarters IsEngineLeaf r is.canonical (quarter_lacking _ south_east se_is absent)

-- ---- a universe

-- each square that is held is a piece of one of the three that stand on the way
module _ (s0 s1 s2 s3 : Held EngineLeaf) (f28 f29 f30 : Grid) (none : length s0.squares ≡ 0) (g2 : IsGrown leaf_grid 8 s1 s2) (g3 : IsGrown leaf_grid 8 s2 s3)
    (first : AddsPiecesOfGrid leaf_grid 8 s0 s1 28 f28) (second : AddsPiecesOfGrid leaf_grid 8 s1 s2 29 f29) (third : AddsPiecesOfGrid leaf_grid 8 s2 s3 30 f30) where
  each_piece : (q : ℕ) → IsHeld s3 q → IsPieceOfGrid leaf_grid 8 s3 28 f28 q ⊎ (IsPieceOfGrid leaf_grid 8 s3 29 f29 q ⊎ IsPieceOfGrid leaf_grid 8 s3 30 f30 q)
  each_piece q held = elim (third q held) [
    | inl before ↦ elim (second q before) [
      | inl earlier ↦ elim (first q earlier) [
        | inl old ↦ absurd (omega (arith, old, none))
        | inr piece ↦ inl (piece_later leaf_grid 8 s2 s3 28 f28 q g3 (piece_later leaf_grid 8 s1 s2 28 f28 q g2 piece))
      ]
      | inr piece ↦ inr (inl (piece_later leaf_grid 8 s2 s3 29 f29 q g3 piece))
    ]
    | inr piece ↦ inr (inr piece)
  ]

  pub all_shared : (t : Held EngineLeaf) (a b c : ℕ) → IsStore leaf_grid 8 IsEngineLeaf t → Draws leaf_grid 8 t 28 f28 a → Draws leaf_grid 8 t 29 f29 b → Draws leaf_grid 8 t 30 f30 c → AreShared leaf_grid 8 s3 t
  all_shared t a b c is da db dc q held = elim (each_piece q held) [
    | inl piece ↦ shared_piece leaf_grid 8 IsEngineLeaf t is.canonical s3 28 q f28 a piece da
    | inr other ↦ elim other [
      | inl piece ↦ shared_piece leaf_grid 8 IsEngineLeaf t is.canonical s3 29 q f29 b piece db
      | inr piece ↦ shared_piece leaf_grid 8 IsEngineLeaf t is.canonical s3 30 q f30 c piece dc
    ]
  ]

-- the square of a plane's states in a dead one, and in the universe
module _ (p : StampedPlane) where
  abbrev states : Grid
  states = states_of_square p.store 28 p.root

  abbrev wider : Grid
  wider = centred (side_at 8 27) states

  wider_same : (s : Held EngineLeaf) (m : ℕ) → Draws leaf_grid 8 s 28 states m → AreSameWithin (side_at 8 29) (centred (side_at 8 27) (grid_at leaf_grid 8 s 28 m)) wider
  wider_same s m drawn = centred_same (side_at 8 27) (side_at 8 29) (grid_at leaf_grid 8 s 28 m) states (λ u v hu hv. drawn.same u v (omega (arith, hu)) (omega (arith, hv)))

  whole_same : (s : Held EngineLeaf) (m : ℕ) → Draws leaf_grid 8 s 29 wider m → AreSameWithin (side_at 8 30) (centred (side_at 8 28) (grid_at leaf_grid 8 s 29 m)) (plane_in_universe p)
  whole_same s m drawn = centred_same (side_at 8 28) (side_at 8 30) (grid_at leaf_grid 8 s 29 m) wider (λ u v hu hv. drawn.same u v (omega (arith, hu)) (omega (arith, hv)))

  module _ (s0 s1 s2 s3 : Held EngineLeaf) (m w : ℕ) (none : length s0.squares ≡ 0) (g2 : IsGrown leaf_grid 8 s1 s2) (g3 : IsGrown leaf_grid 8 s2 s3) (first : AddsPiecesOfGrid leaf_grid 8 s0 s1 28 (states_of_square p.store 28 p.root)) where
    -- no store of the room of a full one that lacks one of the three has them
    lacking : (k : ℕ) (f : Grid) → AddsPiecesOfGrid leaf_grid 8 s1 s2 29 wider → AddsPiecesOfGrid leaf_grid 8 s2 s3 30 (plane_in_universe p) → IsStore leaf_grid 8 IsEngineLeaf s3 → IsOnePartEach leaf_grid 8 s3 → length s3.squares ≡ s3.room
        → IsAbsent leaf_grid 8 s3 k f → ((t : Held EngineLeaf) → DrawsUniverse t p → (a : ℕ) × Draws leaf_grid 8 t k f a) → IsTooSmallFor s3.room p
    lacking k f second third is one full absent drawn t its room draws =
        let shared = all_shared s0 s1 s2 s3 states wider (plane_in_universe p) none g2 g3 first second third t draws.plane.0 draws.wider.0 draws.whole.0 its draws.plane.1 draws.wider.1 draws.whole.1 in
        no_room leaf_grid 8 IsEngineLeaf s3 t is.canonical (omega arith) one shared k (drawn t draws).0 f (record { full = full; absent = absent }) its.few_squares room (drawn t draws).1

    pub small_plane : s2 ≡ s1 → s3 ≡ s2 → IsStore leaf_grid 8 IsEngineLeaf s3 → IsOnePartEach leaf_grid 8 s3 → length s3.squares ≡ s3.room → IsAbsent leaf_grid 8 s3 28 (states_of_square p.store 28 p.root) → IsTooSmallFor s3.room p
    small_plane e2 e3 is one full absent = lacking 28 states (adds_nothing leaf_grid 8 s1 s2 29 wider e2) (adds_nothing leaf_grid 8 s2 s3 30 (plane_in_universe p) e3) is one full absent (λ t draws. draws.plane)

    module _ (drawn : Draws leaf_grid 8 s1 28 (states_of_square p.store 28 p.root) m) (second : AddsPiecesOfGrid leaf_grid 8 s1 s2 29 (centred (side_at 8 27) (grid_at leaf_grid 8 s1 28 m))) where
      adds_wider : AddsPiecesOfGrid leaf_grid 8 s1 s2 29 wider
      adds_wider = adds_as leaf_grid 8 s1 s2 29 (centred (side_at 8 27) (grid_at leaf_grid 8 s1 28 m)) wider (wider_same s1 m drawn) second

      pub small_wider : s3 ≡ s2 → IsStore leaf_grid 8 IsEngineLeaf s3 → IsOnePartEach leaf_grid 8 s3 → length s3.squares ≡ s3.room → IsAbsent leaf_grid 8 s3 29 (centred (side_at 8 27) (grid_at leaf_grid 8 s1 28 m)) → IsTooSmallFor s3.room p
      small_wider e3 is one full absent = lacking 29 wider adds_wider (adds_nothing leaf_grid 8 s2 s3 30 (plane_in_universe p) e3) is one full
          (absent_as leaf_grid 8 s3 29 (centred (side_at 8 27) (grid_at leaf_grid 8 s1 28 m)) wider (wider_same s1 m drawn) absent) (λ t draws. draws.wider)

      pub small_whole : Draws leaf_grid 8 s2 29 (centred (side_at 8 27) (grid_at leaf_grid 8 s1 28 m)) w → AddsPiecesOfGrid leaf_grid 8 s2 s3 30 (centred (side_at 8 28) (grid_at leaf_grid 8 s2 29 w)) → IsStore leaf_grid 8 IsEngineLeaf s3 → IsOnePartEach leaf_grid 8 s3 → length s3.squares ≡ s3.room
          → IsAbsent leaf_grid 8 s3 30 (centred (side_at 8 28) (grid_at leaf_grid 8 s2 29 w)) → IsTooSmallFor s3.room p
      small_whole whole third is one full absent =
          let drawn_wider = draws_as leaf_grid 8 s2 29 (centred (side_at 8 27) (grid_at leaf_grid 8 s1 28 m)) wider w (wider_same s1 m drawn) whole in
          lacking 30 (plane_in_universe p) adds_wider (adds_as leaf_grid 8 s2 s3 30 (centred (side_at 8 28) (grid_at leaf_grid 8 s2 29 w)) (plane_in_universe p) (whole_same s2 w drawn_wider) third) is one full
          (absent_as leaf_grid 8 s3 30 (centred (side_at 8 28) (grid_at leaf_grid 8 s2 29 w)) (plane_in_universe p) (whole_same s2 w drawn_wider) absent) (λ t draws. draws.whole)
