-- Tiles that are filled from a list of cells, and lists of cells under a rule.
use Rattle.std.proofs.Common.{◌≡◌, ◌⊎◌, ℕ, zero, suc, ◌+◌, ◌^◌, ◌<◌, ◌≤◌, true, List, get_or, [], ◌∷◌, length, drop, refl, inl, inr, sym, ◌∙◌, ap, subst, arith}
use Rattle.std.specs.List.{IsDistinct}
use Rattle.std.specs.Map.{keys_of}
use Rattle.std.specs.Prelude.{ℤ, nat_lt, pos, Some, slice_get, unwrap_or}
use Rattle.std.proofs.lemmas.Bool.{and_parts, cases_Bool, false≢true, lt-ltb}
use Rattle.std.proofs.lemmas.Bool.Decides.{nat_tests}
use Rattle.std.proofs.lemmas.Int.{ints}
use Rattle.std.proofs.lemmas.List.{drop_all, drop_more}
use Rattle.std.proofs.lemmas.Option.{none-some, same_Some, slice_get-get_or, slice_get_within, get_or_from_slice_get}
use Rattle.generations_rule.specs.Place.{Place, is_place, at_place}
use Rattle.generations_rule.specs.Rule.{GenerationsRule}
use Rattle.pattern_cells.specs.declared.cell.Cell.{Cell}
use Rattle.pattern_cells.specs.Cells.{place_of, are_states_below, is_sorted}
use Rattle.edit_stamps.proofs.PlaceOrder.{same_itself}
use Rattle.edit_stamps.proofs.SortedCells.{listed_behind, listed_here, listed_there, sorted_tail}
use Rattle.tile_steps.specs.declared.fault.TileFault.{TileFault}
use Rattle.tile_steps.specs.declared.fault.TileFault.TheVariants.{Far, Full, Long, Memory}
use Rattle.tile_steps.specs.declared.tile.Tile.{Tile}
use Rattle.tile_steps.specs.declared.tiles.Corner.{Corner}
use Rattle.tile_steps.specs.Causes.{IsRefusedRun}
use Rattle.tile_steps.specs.Tiles.{AllInside, Entries, HasTile, IsInTile, IsInside, Shows, is_corner, with_state}
use Rattle.tile_steps.proofs.MapLemmas.{there_at}
use Rattle.tile_steps.proofs.PutLemmas.{has_held}
use Rattle.tile_steps.proofs.RunLemmas.{shows_same}
use Rattle.tile_cells.specs.Causes.{AreInside, AreTilesOf, HasCell, IsNotFilled, IsNotRun}
use Rattle.tile_cells.specs.Listing.{states_in}

-- one more cell in front of a list
in_front : (cell : Cell) (cells : List Cell) (c : Place) → with_state (states_in cells) (place_of cell) cell.state c ≡ states_in (cell ∷ cells) c
in_front cell cells c = elim (cases_Bool (is_place (place_of cell) c)) [
  | inl here ↦ rw here refl
  | inr there ↦ rw there refl
]

pub filled_none : (n : ℕ) (tiles : Entries n) (cells : List Cell) (k : ℕ) → length cells ≤ k → Shows n 0 tiles (λ _. 0) → Shows n 0 tiles (states_in (drop k cells))
filled_none n tiles cells k all shows = subst (λ cs. Shows n 0 tiles (states_in cs)) (sym (drop_all k cells all)) (shows_same n 0 tiles (λ _. 0) (states_in []) (λ c. refl) shows)

pub filled_more : (n : ℕ) (new : Entries n) (cells : List Cell) (k l : ℕ) (cell : Cell) (x y : ℤ) → slice_get cells k ≡ Some cell → l ≡ k + 1 → x ≡ cell.x → y ≡ cell.y
    → Shows n 0 new (with_state (states_in (drop l cells)) (at_place x y) cell.state) → Shows n 0 new (states_in (drop k cells))
filled_more n new cells k l cell x y is next ex ey put =
    let shows : Shows n 0 new (with_state (states_in (drop l cells)) (at_place cell.x cell.y) cell.state) =
    subst (λ p. Shows n 0 new (with_state (states_in (drop l cells)) p cell.state)) (λ i. at_place (ex i) (ey i)) put in
    let rest : drop k cells ≡ cell ∷ drop (k + 1) cells =
    drop_more cells k cell (slice_get_within cells k cell is) ∙ ap (λ a. a ∷ drop (k + 1) cells) (get_or_from_slice_get cells k cell cell is) in
    subst (λ cs. Shows n 0 new (states_in cs)) (sym (rest ∙ ap (λ j. cell ∷ drop j cells) (sym next)))
    (shows_same n 0 new (with_state (states_in (drop l cells)) (at_place cell.x cell.y) cell.state) (states_in (cell ∷ drop l cells)) (in_front cell (drop l cells)) shows)

pub filled_all : (n : ℕ) (tiles : Entries n) (cells : List Cell) (k : ℕ) → k ≡ 0 → Shows n 0 tiles (states_in (drop k cells)) → Shows n 0 tiles (states_in cells)
filled_all n tiles cells k is = subst (λ j. Shows n 0 tiles (states_in (drop j cells))) is

-- ---- states below a number

pub state_below : (states : ℕ) (cells : List Cell) (k : ℕ) (cell : Cell) → are_states_below states cells ≡ true → slice_get cells k ≡ Some cell → cell.state < states
state_below states [] k cell all is = absurd (none-some cell is)
state_below states (a ∷ cells) zero cell all is =
    let own : nat_lt a.state states ≡ true = (and_parts (nat_lt a.state states) (are_states_below states cells) all).0 in
    let first : a.state < states = grind (arith, nat_tests, own) in
    subst (λ (b : Cell). b.state < states) (same_Some a cell is) first
state_below states (a ∷ cells) (suc k) cell all is = state_below states cells k cell (and_parts (nat_lt a.state states) (are_states_below states cells) all).1 is

pub states_below : (states : ℕ) (cells : List Cell) (c : Place) → 0 < states → are_states_below states cells ≡ true → states_in cells c < states
states_below states [] c some all = some
states_below states (a ∷ cells) c some all =
    let parts = and_parts (nat_lt a.state states) (are_states_below states cells) all in
    elim (cases_Bool (is_place (place_of a) c)) [
      | inl here ↦
          let own : nat_lt a.state states ≡ true = parts.0 in
          let first : a.state < states = grind (arith, nat_tests, own) in
          subst (λ o. unwrap_or o 0 < states) (sym (listed_here a cells c here)) first
      | inr there ↦ subst (λ o. unwrap_or o 0 < states) (sym (listed_there a cells c there)) (states_below states cells c some parts.1)
    ]

-- where all that a sorted list lists is below a number, its states are
pub below_all : (n : ℕ) (cells : List Cell) → is_sorted cells ≡ true → ((c : Place) → states_in cells c < n) → are_states_below n cells ≡ true
below_all n [] sorted below = refl
below_all n (a ∷ cells) sorted below =
    let first : a.state < n = subst (λ s. unwrap_or s 0 < n) (listed_here a cells (place_of a) (same_itself (place_of a))) (below (place_of a)) in
    let some : 0 < n = omega (arith, first) in
    let rest : (c : Place) → states_in cells c < n = λ c. elim (cases_Bool (is_place (place_of a) c)) [
      | inl here ↦ subst (λ s. unwrap_or s 0 < n) (sym (listed_behind a cells c sorted here)) some
      | inr there ↦ subst (λ s. unwrap_or s 0 < n) (listed_there a cells c there) (below c)
    ] in
    rw (lt-ltb a.state n first) (below_all n cells (sorted_tail a cells sorted) rest)

-- ---- where the tiles are

nothing_there : (n : ℕ) (tiles : Entries n) (c : Corner) → length tiles ≡ 0 → HasTile n tiles c → ⊥
nothing_there n [] c none has = false≢true has
nothing_there n (e ∷ tiles) c none has = omega (arith, none)

pub tiles_none : (n : ℕ) (cells : List Cell) (corner : Corner) (tile : Tile n) (tiles : Entries n) → length tiles ≡ 0 → (corner.x ≡ pos 0) × (corner.y ≡ pos 0) → AreTilesOf n cells ((corner, tile) ∷ tiles)
tiles_none n cells corner tile tiles none first c has = elim (has_held n tiles corner tile c has) [
  | inl there ↦ absurd (nothing_there n tiles c none there)
  | inr here ↦ inl (ap (λ (q : Corner). q.x) here ∙ first.0, ap (λ (q : Corner). q.y) here ∙ first.1)
]

pub tiles_more : (n : ℕ) (old new : Entries n) (cells : List Cell) (k : ℕ) (cell : Cell) (x y : ℤ) → slice_get cells k ≡ Some cell → x ≡ cell.x → y ≡ cell.y → AreTilesOf n cells old
    → ((c : Corner) → HasTile n new c → HasTile n old c ⊎ IsInTile x y c) → AreTilesOf n cells new
tiles_more n old new cells k cell x y is ex ey so_far put c has = elim (put c has) [
  | inl there ↦ so_far c there
  | inr inside ↦ inr (record { index = k; cell = cell; there = is; inside = subst (λ b. IsInTile cell.x b c) ey (subst (λ a. IsInTile a y c) ex inside) })
]

-- a tile is inside, if a cell that lies in it is
corner_near : (cells : List Cell) (c : Corner) → AreInside cells → ((c.x ≡ pos 0) × (c.y ≡ pos 0)) ⊎ HasCell cells c → IsInside 128 c
corner_near cells c near (inl first) = let ex = first.0 in let ey = first.1 in record {
  left = omega (arith, ints, ex);
  right = omega (arith, ints, ex);
  above = omega (arith, ints, ey);
  below = omega (arith, ints, ey);
}
corner_near cells c near (inr has) =
    let own : IsInside 128 (record { y = has.cell.y; x = has.cell.x }) =
    subst (λ (d : Cell). IsInside 128 (record { y = d.y; x = d.x })) (get_or_from_slice_get cells has.index has.cell has.cell has.there) (near has.index has.cell (slice_get_within cells has.index has.cell has.there)) in
    let sx = has.inside.in_columns in let sy = has.inside.in_rows in
    let tx = sx.there in let ty = sy.there in let wx = sx.within in let wy = sy.within in
    let gx = sx.grid.is in let gy = sy.grid.is in
    let l = own.left in let r = own.right in let a = own.above in let b = own.below in
    record {
      left = omega (arith, ints, tx, wx, gx, l);
      right = omega (arith, ints, tx, wx, gx, r);
      above = omega (arith, ints, ty, wy, gy, a);
      below = omega (arith, ints, ty, wy, gy, b);
    }

pub tiles_near : (n : ℕ) (cells : List Cell) (tiles : Entries n) → AreTilesOf n cells tiles → AreInside cells → AllInside n tiles
tiles_near n cells tiles of near = λ k d h.
    let c = (get_or tiles k d).0 in
    corner_near cells c near (of c (there_at n tiles k c (get_or tiles k d).1 (slice_get-get_or tiles k d h)))

-- ---- why not

pub want : (cells : List Cell) (fault : TileFault) → fault ≡ Memory → IsNotFilled cells fault
want cells fault is = subst (λ e. IsNotFilled cells e) (sym is) tt

pub not_filled : (r : GenerationsRule) (cells : List Cell) (g windows : ℕ) (fault : TileFault) → IsNotFilled cells fault → IsNotRun r cells g windows fault
not_filled r cells g windows Full h = absurd h
not_filled r cells g windows Far h = inl h
not_filled r cells g windows Long h = absurd h
not_filled r cells g windows Memory h = tt

pub not_run : (n : ℕ) (r : GenerationsRule) (cells : List Cell) (g windows : ℕ) (tiles : Entries n) (fault : TileFault) → r.states ≤ 2 ^ n → ((c : Place) → states_in cells c < r.states)
    → Shows n 0 tiles (states_in cells) → AreTilesOf n cells tiles → IsDistinct is_corner (keys_of tiles) → IsRefusedRun n r g 65536 windows tiles fault → IsNotRun r cells g windows fault
not_run n r cells g windows tiles Full fit below shows of once h = record {
  planes = n;
  fit = fit;
  step = h.step;
  of = h.of;
  holds = λ others shown. h.holds 0 (states_in cells) (inl refl) below shows others shown;
}
not_run n r cells g windows tiles Far fit below shows of once h = inr (record {
  planes = n;
  fit = fit;
  step = h.step;
  of = h.of;
  holds = λ others shown. h.holds 0 (states_in cells) (inl refl) below shows others shown;
})
not_run n r cells g windows tiles Long fit below shows of once h = record { planes = n; fit = fit; tiles = tiles; shows = shows; of = of; once = once; long = h }
not_run n r cells g windows tiles Memory fit below shows of once h = tt
