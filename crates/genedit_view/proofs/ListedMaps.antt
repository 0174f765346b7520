-- Cells that are listed by row, each in coordinates of 32 bits and each place once, are sorted; and they are those of the map that has
-- their states.
use Rattle.std.proofs.Common.{◌≡◌, ◌≢◌, inl, inr, ℕ, zero, suc, ◌≤◌, Bool, true, false, List, [], ◌∷◌, refl, sym, ◌∙◌, ap, arith, get_or}
use Rattle.std.specs.Prelude.{◌&&◌, ◌==◌, not, Contains, Option, Some, None, unwrap_or}
use Rattle.std.specs.List.{AllPairs, IsDistinct, list_all}
use Rattle.std.specs.List.Sorted.{IsNonDecreasingBy, IsPermutation}
use Rattle.std.proofs.lemmas.Bool.{cases_Bool}
use Rattle.std.proofs.lemmas.Bool.Decides.{nat_tests}
use Rattle.std.proofs.lemmas.Int.{ints}
use Rattle.std.proofs.lemmas.List.Elements.{All-contains}
use Rattle.std.proofs.lemmas.List.Sorted.{All-permutation, Contains-permutation, IsPermutation-sym}
use Rattle.std.proofs.lemmas.List.Sums.{AllPass-from_list_all, list_all-from_AllPass}
use Rattle.std.proofs.lemmas.Map.Keys.{IsDistinct-IsPermutation, IsDistinct-from_apart}
use Rattle.generations_rule.specs.Place.{Place, is_before, is_place}
use Rattle.pattern_cells.specs.declared.cell.Cell.{Cell}
use Rattle.pattern_cells.specs.Cells.{are_nonzero, is_sorted, place_of}
use Rattle.edit_stamps.specs.Edit.{listed}
use Rattle.edit_stamps.specs.Plane.{is_coordinate}
use Rattle.stamped_tree.proofs.Gathering.{contains_head, contains_tail}
use Rattle.generation_engine.specs.Walk.{row_order}

-- two cells stand at one place
abbrev pub is_one_place : Cell → Cell → Bool
is_one_place a b = is_place (place_of a) (place_of b)

abbrev pub has_coordinates : Cell → Bool
has_coordinates cell = is_coordinate cell.x && is_coordinate cell.y

-- ---- a test of each cell, in another order

kept_true : {X : Type 0} (p : X → Bool) (xs ys : List X) → IsPermutation xs ys → list_all p xs ≡ true → list_all p ys ≡ true
kept_true p xs ys moved all = list_all-from_AllPass p ys (All-permutation (λ x. p x ≡ true) xs ys moved (AllPass-from_list_all p xs all))

pub moved_test : {X : Type 0} (p : X → Bool) (xs ys : List X) → IsPermutation xs ys → list_all p xs ≡ list_all p ys
moved_test p xs ys moved = elim (cases_Bool (list_all p xs)) [
  | inl all ↦ all ∙ sym (kept_true p xs ys moved all)
  | inr some ↦ elim (cases_Bool (list_all p ys)) [
    | inl all ↦ kept_true p ys xs (IsPermutation-sym xs ys moved) all ∙ sym all
    | inr other ↦ some ∙ sym other
  ]
]

pub passed_by : {X : Type 0} (p : X → Bool) (xs : List X) (x : X) → list_all p xs ≡ true → Contains xs x → p x ≡ true
passed_by p xs x all there = All-contains (λ x. p x ≡ true) xs x (AllPass-from_list_all p xs all) there

-- ---- places

one_place : (a b : Place) → is_place a b ≡ true → a ≡ b
one_place a b h = (λ i. record { x = (let e : a.x ≡ b.x = grind (arith, ints, nat_tests, h) in e i); y = (let e : a.y ≡ b.y = grind (arith, ints, nat_tests, h) in e i) })

apart : (a b : Cell) → place_of a ≢ place_of b → is_one_place a b ≡ false
apart a b other = elim (cases_Bool (is_one_place a b)) [
  | inl same ↦ absurd (other (one_place (place_of a) (place_of b) same))
  | inr differ ↦ differ
]

-- cells of which no two stand at one place
pub places_once : (cells : List Cell) → AllPairs (λ a b. place_of a ≢ place_of b) cells → IsDistinct is_one_place cells
places_once cells once = IsDistinct-from_apart is_one_place cells (λ i j d before within. apart (get_or cells i d) (get_or cells j d) (once i j d before within))

-- ---- order

places_flip : (a b : Cell) → is_one_place a b ≡ is_one_place b a
places_flip a b = grind (arith, ints, nat_tests)

next_before : (a b : Cell) → has_coordinates a ≡ true → has_coordinates b ≡ true → row_order a ≤ row_order b → is_one_place a b ≡ false → is_before (place_of a) (place_of b) ≡ true
next_before a b ha hb order apart = grind (arith, ints, nat_tests, ha, hb, order, apart)

are_sorted : (cells : List Cell) → ((c : Cell) → Contains cells c → has_coordinates c ≡ true) → IsDistinct is_one_place cells → IsNonDecreasingBy row_order cells → is_sorted cells ≡ true
unfolding IsDistinct
are_sorted [] on distinct order = refl
are_sorted (a ∷ []) on distinct order = refl
are_sorted (a ∷ b ∷ cells) on distinct order =
    let first = next_before a b (on a (contains_head a (b ∷ cells))) (on b (contains_tail a b (b ∷ cells) (contains_head b cells))) (order 0 1 a (omega arith) (omega arith)) distinct.0.0 in
    rw first (are_sorted (b ∷ cells) (λ c h. on c (contains_tail a c (b ∷ cells) h)) distinct.1 (λ i j d h l. order (suc i) (suc j) d (omega (arith, h)) (omega (arith, l))))

-- listed cells in another order, by row
pub sorted_in_rows : (raw cells : List Cell) → IsPermutation raw cells → IsDistinct is_one_place raw → list_all has_coordinates raw ≡ true → IsNonDecreasingBy row_order cells → is_sorted cells ≡ true
sorted_in_rows raw cells moved once on order =
    are_sorted cells (λ c h. passed_by has_coordinates raw c on (Contains-permutation cells raw c (IsPermutation-sym raw cells moved) h))
    (IsDistinct-IsPermutation is_one_place places_flip raw cells moved once) order

-- ---- states

not_zero : (n : ℕ) → n ≢ 0 → not (n == 0) ≡ true
not_zero zero h = absurd (h refl)
not_zero (suc n) h = grind (arith, nat_tests)

none_is_zero : (cells : List Cell) → ((c : Cell) → Contains cells c → c.state ≢ 0) → are_nonzero cells ≡ true
none_is_zero [] all = refl
none_is_zero (c ∷ cells) all = rw (not_zero c.state (all c (contains_head c cells))) (none_is_zero cells (λ d h. all d (contains_tail c d cells h)))

-- a cell at a place, of a state
pub record IsCellAt (cells : List Cell) (at : Place) (s : ℕ) (c : Cell) : Type 0 where
  pub there : Contains cells c
  pub place : place_of c ≡ at
  pub state : c.state ≡ s

place_itself : (a : Place) → is_place a a ≡ true
place_itself a = grind (arith, ints, nat_tests)

cell_found : (cells : List Cell) (at : Place) (s : ℕ) → listed cells at ≡ Some s → (c : Cell) × IsCellAt cells at s c
cell_found [] at s e = absurd (cc)
cell_found (c ∷ cells) at s e = elim (cases_Bool (is_place (place_of c) at)) [
  | inl t ↦ (c, record { there = contains_head c cells; place = one_place (place_of c) at t; state = the_state (rw t at e) })
  | inr f ↦ (let r = cell_found cells at s (rw f at e) in (r.0, record { there = contains_tail c r.0 cells r.1.there; place = r.1.place; state = r.1.state }))
]
  where
    the_state : Some c.state ≡ Some s → c.state ≡ s
    the_state z = cc

cell_missed : (cells : List Cell) (c : Cell) → listed cells (place_of c) ≡ None → Contains cells c → ⊥
cell_missed [] c e (k, l, is) = absurd (omega (arith, l))
cell_missed (d ∷ cells) c e (zero, l, is) =
    other (rw (ap (λ z. is_place (place_of z) (place_of c)) is ∙ place_itself (place_of c)) at e)
  where
    other : Some d.state ≡ None → ⊥
    other z = cc
cell_missed (d ∷ cells) c e (suc k, l, is) = elim (cases_Bool (is_place (place_of d) (place_of c))) [
  | inl t ↦ other (rw t at e)
  | inr f ↦ cell_missed cells c (rw f at e) (k, omega (arith, l), is)
]
  where
    other : Some d.state ≡ None → ⊥
    other z = cc

-- the cells have a map's states, and no other place has one
module _ (f : Place → ℕ) (cells : List Cell) (only : (c : Cell) → Contains cells c → (f (place_of c) ≡ c.state) × (c.state ≢ 0)) (whole : (at : Place) → f at ≢ 0 → Contains cells (record { x = at.x; y = at.y; state = f at })) where
  pub states_of_map : (at : Place) → unwrap_or (listed cells at) 0 ≡ f at
  states_of_map at = go (listed cells at) refl (f at) refl
    where
      go : (o : Option ℕ) → listed cells at ≡ o → (s : ℕ) → f at ≡ s → unwrap_or (listed cells at) 0 ≡ f at
      go (Some s) e r e' = (let c = cell_found cells at s e in ap (λ o. unwrap_or o 0) e ∙ sym c.1.state ∙ sym (only c.0 c.1.there).0 ∙ ap f c.1.place)
      go None e zero e' = ap (λ o. unwrap_or o 0) e ∙ sym e'
      go None e (suc s) e' = absurd (cell_missed cells (record { x = at.x; y = at.y; state = f at }) e (whole at (λ z. (let h = sym e' ∙ z in omega (arith, h)))))

  pub nonzero_of_map : are_nonzero cells ≡ true
  nonzero_of_map = none_is_zero cells (λ c h. (only c h).1)
