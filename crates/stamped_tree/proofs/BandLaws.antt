-- The rows of a band, from those of its halves.
use Rattle.std.proofs.Common.{◌≡◌, ℕ, zero, suc, ◌+◌, ◌-◌, ◌<◌, ◌≤◌, Bool, true, false, List, [], ◌∷◌, ◌++◌, map, length, take, drop, get_or, length-append, inl, inr, refl, sym, ap, ◌∙◌, subst, arith, append_assoc}
use Rattle.std.specs.Prelude.{slice_index_or, Option, None, Some, if◌then◌else◌}
use Rattle.std.proofs.lemmas.Bool.{cases_Bool}
use Rattle.std.proofs.lemmas.List.{get_or-drop, get_or_append_left, get_or_default, take_more}
use Rattle.std.proofs.Math.Seq.{drop-append_seam, take-append_seam}
use Rattle.std.proofs.lemmas.List.Concat.{flat_map-append}
use Rattle.std.proofs.lemmas.List.Elements.{All-nil, All-cons, All-append}
use Rattle.pattern_cells.specs.declared.cell.Cell.{Cell}
use Rattle.stamped_writes.specs.declared.write.Write.{Write}
use Rattle.generations_rule.specs.Place.{Place}
use Rattle.square_store.specs.Grid.{AreSameWithin}
use Rattle.square_store.specs.Squares.{Held, side_at, IsAt, grid_at}
use Rattle.square_store.specs.Seen.{IsBlankAt, IsLeafAt, IsFourAt}
use Rattle.square_store.proofs.Quarters.{AreQuartersOf, quarters_of}
use Rattle.square_store.proofs.Drawn.{twice_below}
use Rattle.stamped_tree.specs.declared.cells.ListedCell.{ListedCell}
use Rattle.stamped_tree.specs.declared.leaf_kind.PlaneLeaf.{PlaneLeaf}
use Rattle.stamped_tree.specs.declared.sought.Sought.{Sought}
use Rattle.stamped_tree.specs.declared.walk.BandPart.{BandPart}
use Rattle.stamped_tree.specs.declared.walk.BandSquare.{BandSquare}
use Rattle.stamped_tree.specs.LeafKind.{plane_grid}
use Rattle.stamped_tree.specs.RowOrder.{strung, live_cell, row_cells, sought_state, IsInBand, AreInBand, square_row, band_row, band_cells, half_top, IsHalved, IsPut}
use Rattle.stamped_tree.specs.Sought.{AgreeOn, seeks, seeks_some, spot}
use Rattle.stamped_tree.specs.Walk.{cell_of_plane}
use Rattle.stamped_tree.proofs.Parts.{same_default}
use Rattle.stamped_tree.proofs.RowLaws.{listed_more, strung_same, strung_split}

pub append_none : {X : Type 0} (xs : List X) → xs ++ [] ≡ xs
append_none [] = refl
append_none (x ∷ xs) = ap (λ ys. x ∷ ys) (append_none xs)

-- an element of a list that has grown, and is gone through from a place on
pub still_read : {X : Type 0} (old new more : List X) (first i : ℕ) (d : X) → new ≡ old ++ more → i < length old → first ≤ i → get_or new i d ≡ get_or (drop first old) (i - first) d
still_read old new more first i d grown h from =
    let e : first + (i - first) ≡ i = omega (arith, from) in
    ap (λ xs. get_or xs i d) grown ∙ get_or_append_left old more d i h ∙ sym (get_or-drop first old (i - first) d ∙ ap (λ j. get_or old j d) e)

reads_next : {X : Type 0} (xs : List X) (first i : ℕ) (d : X) → first ≤ i → i - first < length xs → take (i + 1 - first) xs ≡ take (i - first) xs ++ get_or xs (i - first) d ∷ []
reads_next xs first i d from h =
    let e : i + 1 - first ≡ (i - first) + 1 = omega (arith, from) in
    rw e (take_more xs (i - first) d h)

-- ---- rows

pub row_same : (g h : ℕ → ℕ) (left row n : ℕ) → ((u : ℕ) → u < n → g u ≡ h u) → row_cells g left row n ≡ row_cells h left row n
row_same g h left row n same = strung_same (λ u. live_cell (record { column = left + u; row = row; state = g u })) (λ u. live_cell (record { column = left + u; row = row; state = h u })) n
    (λ u lt. ap (λ s. live_cell (record { column = left + u; row = row; state = s })) (same u lt))

row_dead : (left row n : ℕ) → row_cells (λ _. 0) left row n ≡ []
row_dead left row zero = refl
row_dead left row (suc n) = rw (row_dead left row n) refl

row_split : (g : ℕ → ℕ) (left row n m : ℕ) → row_cells g left row (n + m) ≡ row_cells g left row n ++ row_cells (λ u. g (n + u)) (left + n) row m
row_split g left row n m =
    strung_split (λ u. live_cell (record { column = left + u; row = row; state = g u })) n m
    ∙ ap (λ xs. row_cells g left row n ++ xs) (strung_same (λ u. live_cell (record { column = left + (n + u); row = row; state = g (n + u) })) (λ u. live_cell (record { column = left + n + u; row = row; state = g (n + u) })) m
    (λ u h. (let e : left + (n + u) ≡ left + n + u = omega arith in ap (λ z. live_cell (record { column = z; row = row; state = g (n + u) })) e)))

-- a state of 0 is 0, whether it is looked for or not; so is one that is not
dead_sought : (f : Place → Bool) (u v state : ℕ) → state ≡ 0 → sought_state f u v state ≡ 0
dead_sought f u v state dead = rw dead (elim (cases_Bool (f (spot u v))) [ inl is ↦ rw is refl | inr not ↦ rw not refl ])

unsought : (f : Place → Bool) (u v state : ℕ) → f (spot u v) ≡ false → sought_state f u v state ≡ 0
unsought f u v state not = rw not refl

pub none_is : (sought : Option Sought) → ((x : Sought) → sought ≡ Some x → ⊥) → sought ≡ None
none_is None h = refl
none_is (Some x) h = absurd (h x refl)

module _ (s : Held PlaneLeaf) (f : Place → Bool) (k : ℕ) where
  -- a row in which no cell is looked for or all are dead
  row_none : (q : BandPart) (v row : ℕ) → ((u : ℕ) → u < side_at 8 k → sought_state f (q.left + u) row (grid_at plane_grid 8 s k q.part u v).state ≡ 0) → square_row s f k q v row ≡ []
  row_none q v row none =
      row_same (λ u. sought_state f (q.left + u) row (grid_at plane_grid 8 s k q.part u v).state) (λ _. 0) q.left row (side_at 8 k) none
      ∙ row_dead q.left row (side_at 8 k)

  -- a blank has no cells
  pub blank_row : (q : BandPart) (t v row : ℕ) → IsBlankAt plane_grid 8 s t q.part → v < side_at 8 k → square_row s f k q v row ≡ []
  blank_row q t v row blank hv = row_none q v row (λ u hu. dead_sought f (q.left + u) row (grid_at plane_grid 8 s k q.part u v).state (ap (λ (w : Write). w.state) ((blank k).same u v hu hv)))

  pub put_none : (top : ℕ) (q : BandPart) (t : ℕ) (old : List BandSquare) → IsBlankAt plane_grid 8 s t q.part → IsPut s f k top q old old
  put_none top q t old blank = record { squares = []; pushed = sym (append_none old); stand = All-nil (IsInBand s f k top); same = λ v h. sym (blank_row q t v (top + v) blank h) }

  -- nothing is looked for on it
  pub put_unsought : (top : ℕ) (q : BandPart) (sought : Option Sought) (old : List BandSquare) → sought ≡ None → AgreeOn q.left top (side_at 8 k) f (seeks_some sought) → IsPut s f k top q old old
  put_unsought top q sought old none agrees = record {
    squares = [];
    pushed = sym (append_none old);
    stand = All-nil (IsInBand s f k top);
    same = λ v h. sym (row_none q v (top + v) (λ u hu. unsought f (q.left + u) (top + v) (grid_at plane_grid 8 s k q.part u v).state
        (sym (agrees (q.left + u) (top + v) (omega arith) (omega (arith, hu)) (omega arith) (omega (arith, h))) ∙ ap (λ o. seeks_some o (spot (q.left + u) (top + v))) none)));
  }

  pub put_one : (top : ℕ) (q : BandSquare) (old new : List BandSquare) → IsInBand s f k top q → new ≡ old ++ q ∷ [] → IsPut s f k top q.at old new
  put_one top q old new here pushed = record { squares = q ∷ []; pushed = pushed; stand = All-cons (IsInBand s f k top) q [] here (All-nil (IsInBand s f k top)); same = λ v h. append_none (square_row s f k q.at v (top + v)) }

  pub put_stands : (top : ℕ) (q : BandPart) (old new : List BandSquare) → old ≡ [] → IsPut s f k top q old new → AreInBand s f k top new
  put_stands top q old new none put = subst (λ squares. AreInBand s f k top squares) (sym (put.pushed ∙ ap (λ squares. squares ++ put.squares) none)) put.stand

  -- what a square of a band is, read at any default
  pub read_in_band : (top : ℕ) (band : List BandSquare) (i : ℕ) (q : BandSquare) → q ≡ get_or band i q → ((d : BandSquare) → IsInBand s f k top (get_or band i d)) → IsInBand s f k top q
  read_in_band top band i q here all = subst (λ p. IsInBand s f k top p) (sym here) (all q)

  pub halved_read : (top : ℕ) (is_south : Bool) (band : List BandSquare) (i : ℕ) (q d : BandSquare) (old new : List BandSquare) → q ≡ get_or band i q → i < length band → IsHalved s f k top is_south (q ∷ []) old new → IsHalved s f k top is_south (get_or band i d ∷ []) old new
  halved_read top is_south band i q d old new here h halved = subst (λ (p : BandSquare). IsHalved s f k top is_south (p ∷ []) old new) (here ∙ get_or_default band i q d h) halved

  pub halved_none : (top : ℕ) (is_south : Bool) (old : List BandSquare) → IsHalved s f k top is_south [] old old
  halved_none top is_south old = record { halves = []; pushed = sym (append_none old); stand = All-nil (IsInBand s f (k - 1) (top + half_top k is_south)); same = λ v h. refl }

  pub halved_more : (top : ℕ) (is_south : Bool) (xs ys old mid new : List BandSquare) → IsHalved s f k top is_south xs old mid → IsHalved s f k top is_south ys mid new → IsHalved s f k top is_south (xs ++ ys) old new
  halved_more top is_south xs ys old mid new first second = record {
    halves = first.halves ++ second.halves;
    pushed = second.pushed ∙ ap (λ zs. zs ++ second.halves) first.pushed ∙ append_assoc old first.halves second.halves;
    stand = All-append (IsInBand s f (k - 1) (top + half_top k is_south)) first.halves second.halves first.stand second.stand;
    same = λ v h. (let row = top + half_top k is_south + v in
        flat_map-append (λ (q : BandSquare). square_row s f (k - 1) q.at v row) first.halves second.halves
        ∙ ap (λ zs. zs ++ band_row s f (k - 1) second.halves v row) (first.same v h)
        ∙ ap (λ zs. band_row s f k xs (half_top k is_south + v) row ++ zs) (second.same v h)
        ∙ sym (flat_map-append (λ (q : BandSquare). square_row s f k q.at (half_top k is_south + v) row) xs ys));
  }

  -- one square more of a band is halved
  pub next_halved : (top : ℕ) (is_south : Bool) (old mid new : List BandSquare) (first i : ℕ) → first ≤ i → i < length old → i - first < length (drop first old)
      → IsHalved s f k top is_south (take (i - first) (drop first old)) old mid → ((d : BandSquare) → IsHalved s f k top is_south (get_or mid i d ∷ []) mid new)
      → IsHalved s f k top is_south (take (i + 1 - first) (drop first old)) old new
  next_halved top is_south old mid new first i from h l before next =
      subst (λ (xs : List BandSquare). IsHalved s f k top is_south xs old new) (sym (reads_next (drop first old) first i a_square from l))
      (halved_more top is_south (take (i - first) (drop first old)) (get_or (drop first old) (i - first) a_square ∷ []) old mid new before
      (subst (λ (x : BandSquare). IsHalved s f k top is_south (x ∷ []) mid new) (still_read old mid before.halves first i a_square before.pushed h from) (next a_square)))
    where
      a_square : BandSquare
      a_square = record { at = record { part = 0; left = 0 }; sought = Sought.All }

  half_within : (is_south : Bool) (v : ℕ) → 0 < k → v < side_at 8 (k - 1) → half_top k is_south + v < side_at 8 k
  half_within false v some h = let e = twice_below 8 k some in omega (arith, h, e)
  half_within true v some h = let e = twice_below 8 k some in omega (arith, h, e)

  pub halved_blank : (top : ℕ) (is_south : Bool) (q : BandSquare) (t : ℕ) (old : List BandSquare) → 0 < k → IsBlankAt plane_grid 8 s t q.at.part → IsHalved s f k top is_south (q ∷ []) old old
  halved_blank top is_south q t old some blank = record {
    halves = [];
    pushed = sym (append_none old);
    stand = All-nil (IsInBand s f (k - 1) (top + half_top k is_south));
    same = λ v h. sym (append_none (square_row s f k q.at (half_top k is_south + v) (top + half_top k is_south + v)) ∙ blank_row q.at t (half_top k is_south + v) (top + half_top k is_south + v) blank (half_within is_south v some h));
  }

  -- a square of four
  module _ (q : BandSquare) (parts : List ℕ) (four : IsFourAt plane_grid 8 s k parts q.at.part) (n : ℕ) (is : n ≡ side_at 8 (k - 1)) where
    quarters : AreQuartersOf (side_at 8 (k - 1)) (grid_at plane_grid 8 s (k - 1) (slice_index_or parts 0 0)) (grid_at plane_grid 8 s (k - 1) (slice_index_or parts 1 0)) (grid_at plane_grid 8 s (k - 1) (slice_index_or parts 2 0)) (grid_at plane_grid 8 s (k - 1) (slice_index_or parts 3 0)) (grid_at plane_grid 8 s k q.at.part)
    quarters = quarters_of (side_at 8 (k - 1)) _ _ _ _ (grid_at plane_grid 8 s k q.at.part) (λ u v hu hv. (let e = twice_below 8 k four.positive in sym (four.draws.same u v (omega (arith, hu, e)) (omega (arith, hv, e)))))

    -- a row of a square is a row of its two quarters there
    row_of_two : (a b : ℕ) (w v row : ℕ) → v < side_at 8 (k - 1) → AreSameWithin (side_at 8 (k - 1)) (grid_at plane_grid 8 s (k - 1) a) (λ x y. grid_at plane_grid 8 s k q.at.part x (w + y))
        → AreSameWithin (side_at 8 (k - 1)) (grid_at plane_grid 8 s (k - 1) b) (λ x y. grid_at plane_grid 8 s k q.at.part (side_at 8 (k - 1) + x) (w + y))
        → square_row s f (k - 1) (record { part = a; left = q.at.left }) v row ++ square_row s f (k - 1) (record { part = b; left = q.at.left + n }) v row ≡ square_row s f k q.at (w + v) row
    row_of_two a b w v row hv west east =
        let m = side_at 8 (k - 1) in
        let g : ℕ → ℕ = λ u. sought_state f (q.at.left + u) row (grid_at plane_grid 8 s k q.at.part u (w + v)).state in
        let first : square_row s f (k - 1) (record { part = a; left = q.at.left }) v row ≡ row_cells g q.at.left row m =
        row_same (λ u. sought_state f (q.at.left + u) row (grid_at plane_grid 8 s (k - 1) a u v).state) g q.at.left row m (λ u hu. ap (λ (x : Write). sought_state f (q.at.left + u) row x.state) (west u v hu hv)) in
        let second : square_row s f (k - 1) (record { part = b; left = q.at.left + n }) v row ≡ row_cells (λ u. g (m + u)) (q.at.left + m) row m =
        row_same (λ u. sought_state f (q.at.left + n + u) row (grid_at plane_grid 8 s (k - 1) b u v).state) (λ u. g (m + u)) (q.at.left + n) row m
        (λ u hu. ap (λ (x : Write). sought_state f (q.at.left + n + u) row x.state) (east u v hu hv)
        ∙ (let e : q.at.left + n + u ≡ q.at.left + (m + u) = omega (arith, is) in ap (λ z. sought_state f z row (grid_at plane_grid 8 s k q.at.part (m + u) (w + v)).state) e))
        ∙ ap (λ z. row_cells (λ u. g (m + u)) (q.at.left + z) row m) is in
        ap (λ zs. zs ++ square_row s f (k - 1) (record { part = b; left = q.at.left + n }) v row) first
        ∙ ap (λ zs. row_cells g q.at.left row m ++ zs) second
        ∙ sym (row_split g q.at.left row m m)
        ∙ ap (λ z. row_cells g q.at.left row z) (sym (twice_below 8 k four.positive))

    at_part : (i d : ℕ) → i < 4 → slice_index_or parts i d ≡ slice_index_or parts i 0
    at_part i d h = same_default parts i d 0 (let l = four.four in omega (arith, h, l))

    -- the quarters stand, within its columns and rows
    pub quarter_stands : (i d : ℕ) → i < 4 → IsAt s (k - 1) (slice_index_or parts i d)
    quarter_stands i d h = subst (λ p. IsAt s (k - 1) p) (sym (at_part i d h)) (four.parts_stand i h)

    -- what is looked for on a square is looked for on what lies in it
    pub quarter_agrees : (top left' top' : ℕ) → IsInBand s f k top q → q.at.left ≤ left' → left' + n ≤ q.at.left + side_at 8 k → top ≤ top' → top' + n ≤ top + side_at 8 k
        → AgreeOn left' top' (side_at 8 (k - 1)) f (seeks q.sought)
    quarter_agrees top left' top' here hl wl ht wt u v hu wu hv wv = here.agrees u v (omega (arith, hl, hu)) (omega (arith, wl, wu, is)) (omega (arith, ht, hv)) (omega (arith, wt, wv, is))

    halved_two : (top : ℕ) (is_south : Bool) (west east : BandPart) (old mid new : List BandSquare) → IsPut s f (k - 1) (top + half_top k is_south) west old mid → IsPut s f (k - 1) (top + half_top k is_south) east mid new
        → ((v row : ℕ) → v < side_at 8 (k - 1) → square_row s f (k - 1) west v row ++ square_row s f (k - 1) east v row ≡ square_row s f k q.at (half_top k is_south + v) row)
        → IsHalved s f k top is_south (q ∷ []) old new
    halved_two top is_south west east old mid new first second rows = record {
      halves = first.squares ++ second.squares;
      pushed = second.pushed ∙ ap (λ zs. zs ++ second.squares) first.pushed ∙ append_assoc old first.squares second.squares;
      stand = All-append (IsInBand s f (k - 1) (top + half_top k is_south)) first.squares second.squares first.stand second.stand;
      same = λ v h. (let row = top + half_top k is_south + v in
          flat_map-append (λ (p : BandSquare). square_row s f (k - 1) p.at v row) first.squares second.squares
          ∙ ap (λ zs. zs ++ band_row s f (k - 1) second.squares v row) (first.same v h)
          ∙ ap (λ zs. square_row s f (k - 1) west v row ++ zs) (second.same v h)
          ∙ rows v row h ∙ sym (append_none (square_row s f k q.at (half_top k is_south + v) row)));
    }

    pub halved_north : (top r t : ℕ) (old mid new : List BandSquare) → IsPut s f (k - 1) top (record { part = slice_index_or parts 0 r; left = q.at.left }) old mid → IsPut s f (k - 1) top (record { part = slice_index_or parts 1 t; left = q.at.left + n }) mid new
        → IsHalved s f k top false (q ∷ []) old new
    halved_north top r t old mid new first second =
        let e : top + half_top k false ≡ top = omega arith in
        halved_two top false (record { part = slice_index_or parts 0 r; left = q.at.left }) (record { part = slice_index_or parts 1 t; left = q.at.left + n }) old mid new (rw e first) (rw e second)
        (λ v row h. row_of_two (slice_index_or parts 0 r) (slice_index_or parts 1 t) 0 v row h
        (λ x y hx hy. (let e : 0 + y ≡ y = omega arith in rw (at_part 0 r (omega arith), e) (quarters.nw x y hx hy))) (λ x y hx hy. (let e : 0 + y ≡ y = omega arith in rw (at_part 1 t (omega arith), e) (quarters.ne x y hx hy))))

    pub halved_south : (top r t : ℕ) (old mid new : List BandSquare) → IsPut s f (k - 1) (top + n) (record { part = slice_index_or parts 2 r; left = q.at.left }) old mid → IsPut s f (k - 1) (top + n) (record { part = slice_index_or parts 3 t; left = q.at.left + n }) mid new
        → IsHalved s f k top true (q ∷ []) old new
    halved_south top r t old mid new first second =
        halved_two top true (record { part = slice_index_or parts 2 r; left = q.at.left }) (record { part = slice_index_or parts 3 t; left = q.at.left + n }) old mid new
        (subst (λ m. IsPut s f (k - 1) (top + m) (record { part = slice_index_or parts 2 r; left = q.at.left }) old mid) is first)
        (subst (λ m. IsPut s f (k - 1) (top + m) (record { part = slice_index_or parts 3 t; left = q.at.left + n }) mid new) is second)
        (λ v row h. row_of_two (slice_index_or parts 2 r) (slice_index_or parts 3 t) (side_at 8 (k - 1)) v row h
        (λ x y hx hy. rw (at_part 2 r (omega arith)) (quarters.sw x y hx hy)) (λ x y hx hy. rw (at_part 3 t (omega arith)) (quarters.se x y hx hy)))

  -- ---- a band

  -- the cells of a band are those of its northern half and then those of its southern one
  band_of_halves : (top n : ℕ) (squares old mid old' mid' : List BandSquare) (first : IsHalved s f k top false squares old mid) (second : IsHalved s f k top true squares old' mid') → 0 < k → n ≡ side_at 8 (k - 1)
      → band_cells s f k top squares ≡ band_cells s f (k - 1) top first.halves ++ band_cells s f (k - 1) (top + n) second.halves
  band_of_halves top n squares old mid old' mid' first second some is =
      let m = side_at 8 (k - 1) in
      let g : ℕ → List ListedCell = λ v. band_row s f k squares v (top + v) in
      ap (strung g) (twice_below 8 k some) ∙ strung_split g m m
      ∙ ap (λ zs. strung g m ++ zs) (strung_same (λ v. g (m + v)) (λ v. band_row s f (k - 1) second.halves v (top + n + v)) m
      (λ v h. (let e : top + (m + v) ≡ top + m + v = omega arith in let e' : top + m + v ≡ top + n + v = omega (arith, is) in
      ap (λ z. band_row s f k squares (m + v) z) e ∙ sym (second.same v h) ∙ ap (λ z. band_row s f (k - 1) second.halves v z) e')))
      ∙ ap (λ zs. zs ++ band_cells s f (k - 1) (top + n) second.halves) (strung_same g (λ v. band_row s f (k - 1) first.halves v (top + v)) m
      (λ v h. (let e : 0 + v ≡ v = omega arith in let e' : top + 0 + v ≡ top + v = omega arith in
      sym (ap (λ z. band_row s f (k - 1) first.halves v z) (sym e') ∙ first.same v h ∙ ap (λ z. band_row s f k squares z (top + 0 + v)) e ∙ ap (λ z. band_row s f k squares v z) e'))))

  pub halves_drop : (top : ℕ) (is_south : Bool) (squares old new : List BandSquare) (past : ℕ) (h : IsHalved s f k top is_south squares old new) → past ≡ length old → drop past new ≡ h.halves
  halves_drop top is_south squares old new past h e = rw (h.pushed, e) (drop-append_seam old h.halves)

  pub halves_taken : (top : ℕ) (is_south : Bool) (squares old new : List BandSquare) (past : ℕ) → IsHalved s f k top is_south squares old new → past ≡ length old → take past new ≡ old
  halves_taken top is_south squares old new past h e = rw (h.pushed, e) (take-append_seam old h.halves)

  pub halves_stand : (top top' : ℕ) (is_south : Bool) (squares old new : List BandSquare) (past : ℕ) → IsHalved s f k top is_south squares old new → past ≡ length old → top' ≡ top + half_top k is_south → AreInBand s f (k - 1) top' (drop past new)
  halves_stand top top' is_south squares old new past h e is = rw (halves_drop top is_south squares old new past h e, is) h.stand

  pub halves_within : (top : ℕ) (is_south : Bool) (squares old new : List BandSquare) (past : ℕ) → IsHalved s f k top is_south squares old new → past ≡ length old → past ≤ length new
  halves_within top is_south squares old new past h e = let l = ap length h.pushed ∙ length-append old h.halves in omega (arith, e, l)

  -- the cells of the halves were listed one behind the other
  pub band_listed : (top n past : ℕ) (squares squares' old mid old' mid' : List BandSquare) (f0 f1 f2 : List Cell) → 0 < k → n ≡ side_at 8 (k - 1) → past ≡ length old → past ≡ length old' → squares' ≡ squares
      → IsHalved s f k top false squares old mid → IsHalved s f k top true squares' old' mid'
      → f1 ≡ f0 ++ map cell_of_plane (band_cells s f (k - 1) top (drop past mid)) → f2 ≡ f1 ++ map cell_of_plane (band_cells s f (k - 1) (top + n) (drop past mid'))
      → f2 ≡ f0 ++ map cell_of_plane (band_cells s f k top squares)
  band_listed top n past squares squares' old mid old' mid' f0 f1 f2 some is e e' same first second listed listed' =
      let south : IsHalved s f k top true squares old' mid' = subst (λ qs. IsHalved s f k top true qs old' mid') same second in
      listed_more cell_of_plane f0 f1 f2 (band_cells s f (k - 1) top first.halves) (band_cells s f (k - 1) (top + n) south.halves)
      (listed ∙ ap (λ qs. f0 ++ map cell_of_plane (band_cells s f (k - 1) top qs)) (halves_drop top false squares old mid past first e))
      (listed' ∙ ap (λ qs. f1 ++ map cell_of_plane (band_cells s f (k - 1) (top + n) qs)) (halves_drop top true squares old' mid' past south e'))
      ∙ ap (λ cells. f0 ++ map cell_of_plane cells) (sym (band_of_halves top n squares old mid old' mid' first south some is))

-- nothing is listed of no squares
band_of_none : (s : Held PlaneLeaf) (f : Place → Bool) (k top n : ℕ) → strung (λ v. band_row s f k [] v (top + v)) n ≡ []
band_of_none s f k top zero = refl
band_of_none s f k top (suc n) = rw (band_of_none s f k top n) refl

pub none_listed : (s : Held PlaneLeaf) (f : Place → Bool) (k top : ℕ) (squares : List BandSquare) (found : List Cell) → squares ≡ [] → found ≡ found ++ map cell_of_plane (band_cells s f k top squares)
none_listed s f k top squares found none = sym (ap (λ qs. found ++ map cell_of_plane (band_cells s f k top qs)) none ∙ ap (λ cells. found ++ map cell_of_plane cells) (band_of_none s f k top (side_at 8 k)) ∙ append_none found)

-- a row that is listed of nothing
pub row_listed_none : (found : List Cell) (cells : List ListedCell) → cells ≡ [] → found ≡ found ++ map cell_of_plane cells
row_listed_none found cells none = sym (ap (λ xs. found ++ map cell_of_plane xs) none ∙ append_none found)

-- a leaf's row
pub leaf_row : (s : Held PlaneLeaf) (f : Place → Bool) (top : ℕ) (q : BandSquare) (l : PlaneLeaf) (row : ℕ) → row < 8 → IsInBand s f 0 top q → IsLeafAt plane_grid 8 s l q.at.part
    → square_row s f 0 q.at row (top + row) ≡ row_cells (λ u. sought_state (seeks q.sought) (q.at.left + u) (top + row) (plane_grid l u row).state) q.at.left (top + row) 8
leaf_row s f top q l row h here leaf = row_same (λ u. sought_state f (q.at.left + u) (top + row) (grid_at plane_grid 8 s 0 q.at.part u row).state) (λ u. sought_state (seeks q.sought) (q.at.left + u) (top + row) (plane_grid l u row).state) q.at.left (top + row) 8
    (λ u hu. ap (λ (w : Write). sought_state f (q.at.left + u) (top + row) w.state) (leaf.draws.same u row (omega (arith, hu)) (omega (arith, h)))
    ∙ ap (λ b. if b then (plane_grid l u row).state else 0) (sym (here.agrees (q.at.left + u) (top + row) (omega arith) (omega (arith, hu)) (omega arith) (omega (arith, h)))))
