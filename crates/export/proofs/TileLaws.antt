-- Cells of a plane that tiles tell, and those of them that a window shows.
use Rattle.std.proofs.Common.{◌≡◌, ℕ, ◌+◌, Bool, true, false, List, [], ◌∷◌, length, refl, sym, ap, subst, ◌∙◌, inl, inr}
use Rattle.std.specs.Prelude.{filter, not, ◌==◌, ◌&&◌, int_le, int_lt, pos, ◌+ℤ◌}
use Rattle.std.specs.List.{list_all}
use Rattle.std.proofs.lemmas.Bool.{and_parts, cases_Bool}
use Rattle.generations_rule.specs.Place.{Place, is_before, is_place}
use Rattle.generations_rule.specs.Rule.{GenerationsRule}
use Rattle.generations_rule.specs.Evolution.{at}
use Rattle.generations_rule.proofs.EvolutionLaws.{runs_compose}
use Rattle.pattern_cells.specs.declared.cell.Cell.{Cell}
use Rattle.pattern_cells.specs.Cells.{place_of, is_sorted}
use Rattle.pattern_cells.specs.declared.window.Window.{Window}
use Rattle.pattern_cells.specs.Window.{is_in_window, seen_where}
use Rattle.edit_stamps.specs.declared.rect.Rect.{Rect}
use Rattle.edit_stamps.specs.Plane.{is_in}
use Rattle.edit_stamps.proofs.PlaceOrder.{before_trans, one_place}
use Rattle.edit_stamps.proofs.SortedCells.{listed_here, listed_there, sorted_tail}
use Rattle.stamped_tree.specs.Plane.{StampedPlane, map_of}
use Rattle.stamped_tree.specs.Sought.{is_in_some, part_of}
use Rattle.stamped_tree.specs.Walk.{AreNonzeroCells}
use Rattle.tile_cells.specs.Listing.{IsListOf, states_in}
use Rattle.generation_engine.specs.Universe.{states_in_writes}
use Rattle.generation_engine.specs.Walk.{AreCellsOf, is_in_middle}
use Rattle.export.specs.Asking.{area_of, seen_at}
use Rattle.export.specs.Export.{population_in_universe}
use Rattle.export.proofs.CountLaws.{population_is}
use Rattle.export.proofs.ExportLaws.{one_map}

-- what becomes of the cells of a generation is what becomes of the map
pub later_cells : (r : GenerationsRule) (f : Place → ℕ) (g steps : ℕ) (cells later : List Cell) → AreCellsOf (at r f g) cells → IsListOf (at r (states_in cells) steps) later → AreCellsOf (at r f (g + steps)) later
later_cells r f g steps cells later are is = record {
  sorted = is.sorted;
  nonzero = is.alive;
  states = λ c. is.states c ∙ ap (λ (h : Place → ℕ). at r h steps c) (one_map (states_in cells) (at r f g) are.states) ∙ runs_compose r f g steps c;
}

-- before anything becomes of them they are the map's
pub same_cells : (p : StampedPlane) (cells : List Cell) → AreNonzeroCells (map_of p) cells → AreCellsOf (states_in_writes (map_of p)) cells
same_cells p cells are = record { sorted = are.sorted; nonzero = are.nonzero; states = are.states }

-- ---- what a window shows

-- each cell stands behind a place
abbrev all_after : Place → List Cell → Bool
all_after c cells = list_all (λ d. is_before c (place_of d)) cells

after_more : (b c : Place) (cells : List Cell) → is_before b c ≡ true → all_after c cells ≡ true → all_after b cells ≡ true
after_more b c [] before all = refl
after_more b c (d ∷ cells) before all =
    let parts = and_parts (is_before c (place_of d)) (all_after c cells) all in
    rw (before_trans b c (place_of d) before parts.0) (after_more b c cells before parts.1)

sorted_after : (a : Cell) (cells : List Cell) → is_sorted (a ∷ cells) ≡ true → all_after (place_of a) cells ≡ true
sorted_after a [] sorted = refl
sorted_after a (b ∷ cells) sorted =
    let parts = and_parts (is_before (place_of a) (place_of b)) (is_sorted (b ∷ cells)) sorted in
    rw parts.0 (after_more (place_of a) (place_of b) cells parts.0 (sorted_after b cells parts.1))

sorted_cons : (a : Cell) (cells : List Cell) → all_after (place_of a) cells ≡ true → is_sorted cells ≡ true → is_sorted (a ∷ cells) ≡ true
sorted_cons a [] after sorted = refl
sorted_cons a (b ∷ cells) after sorted = rw (and_parts (is_before (place_of a) (place_of b)) (all_after (place_of a) cells) after).0 sorted

module _ (is_seen : Place → Bool) where
  -- the cells of a list that are seen
  abbrev seen_of : List Cell → List Cell
  seen_of cells = filter (λ cell. is_seen (place_of cell)) cells

  -- what all are those are that are seen
  pub all_of : (p : Cell → Bool) (cells : List Cell) → list_all p cells ≡ true → list_all p (seen_of cells) ≡ true
  all_of p [] all = refl
  all_of p (a ∷ cells) all =
      let parts = and_parts (p a) (list_all p cells) all in
      elim (cases_Bool (is_seen (place_of a))) [
        | inl seen ↦ rw (seen, parts.0) (all_of p cells parts.1)
        | inr other ↦ rw other (all_of p cells parts.1)
      ]

  sorted_of : (cells : List Cell) → is_sorted cells ≡ true → is_sorted (seen_of cells) ≡ true
  sorted_of [] sorted = refl
  sorted_of (a ∷ cells) sorted =
      let rest = sorted_of cells (sorted_tail a cells sorted) in
      elim (cases_Bool (is_seen (place_of a))) [
        | inl seen ↦ rw seen (sorted_cons a (seen_of cells) (all_of (λ d. is_before (place_of a) (place_of d)) cells (sorted_after a cells sorted)) rest)
        | inr other ↦ rw other rest
      ]

  states_of : (cells : List Cell) (c : Place) → states_in (seen_of cells) c ≡ seen_where is_seen (states_in cells) c
  states_of [] c = elim (cases_Bool (is_seen c)) [ inl seen ↦ rw seen refl | inr other ↦ rw other refl ]
  states_of (a ∷ cells) c =
      let rest = states_of cells c in
      elim (cases_Bool (is_place (place_of a) c)) [
        | inl here ↦ (let same : place_of a ≡ c = one_place (place_of a) c here in
            elim (cases_Bool (is_seen (place_of a))) [
              | inl seen ↦ (let at_c : is_seen c ≡ true = subst (λ p. is_seen p ≡ true) same seen in rw (seen, listed_here a (seen_of cells) c here, listed_here a cells c here, at_c) refl)
              | inr other ↦ (let at_c : is_seen c ≡ false = subst (λ p. is_seen p ≡ false) same other in rw (other, at_c) (rest ∙ rw at_c refl))
            ])
        | inr there ↦ elim (cases_Bool (is_seen (place_of a))) [
          | inl seen ↦ rw (seen, listed_there a (seen_of cells) c there, listed_there a cells c there) rest
          | inr other ↦ rw (other, listed_there a cells c there) rest
        ]
      ]

  -- the cells of a map that are seen are those of the map as it is seen
  pub seen_cells : (h : Place → ℕ) (cells : List Cell) → AreCellsOf h cells → AreCellsOf (seen_where is_seen h) (seen_of cells)
  seen_cells h cells are = record {
    sorted = sorted_of cells are.sorted;
    nonzero = all_of (λ cell. not (cell.state == 0)) cells are.nonzero;
    states = λ c. states_of cells c ∙ ap (λ (f : Place → ℕ). seen_where is_seen f c) (one_map (states_in cells) h are.states);
  }

-- what a window shows of a map's cells, which are as many as there are in it
pub seen_listed : (h : Place → ℕ) (w : Window) (cells seen : List Cell) → AreCellsOf h cells → list_all (λ cell. is_in_middle (place_of cell)) cells ≡ true → seen ≡ filter (λ cell. is_in_window w (place_of cell)) cells
    → AreCellsOf (seen_where (is_in_window w) h) seen × (length seen ≡ population_in_universe (seen_where (is_in_window w) h))
seen_listed h w cells seen are inside is =
    let list : AreCellsOf (seen_where (is_in_window w) h) seen = subst (AreCellsOf (seen_where (is_in_window w) h)) (sym is) (seen_cells (is_in_window w) h cells are) in
    (list, population_is (seen_where (is_in_window w) h) seen list (ap (list_all (λ cell. is_in_middle (place_of cell))) is ∙ all_of (is_in_window w) (λ cell. is_in_middle (place_of cell)) cells inside))

-- ---- what a window shows of the map itself

and_parted : (a b c d : Bool) → (a && b && c && d) ≡ ((a && b) && (c && d))
and_parted true true c d = refl
and_parted true false c d = refl
and_parted false b c d = refl

one_area : (area : Rect) (c : Place) → is_in_some (area ∷ []) c ≡ is_in area c
one_area area c = elim (cases_Bool (is_in area c)) [ inl here ↦ rw here refl | inr there ↦ rw there refl ]

in_area : (w : Window) (c : Place) → is_in_some (area_of w ∷ []) c ≡ is_in_window w c
in_area w c = one_area (area_of w) c ∙ and_parted (int_le w.x c.x) (int_lt c.x (w.x +ℤ pos w.width)) (int_le w.y c.y) (int_lt c.y (w.y +ℤ pos w.height))

-- the cells of a walk of its area
pub now_seen : (r : GenerationsRule) (p : StampedPlane) (w : Window) (areas : List Rect) (cells : List Cell) → areas ≡ area_of w ∷ [] → AreNonzeroCells (part_of (is_in_some areas) (map_of p)) cells
    → AreCellsOf (seen_at r (states_in_writes (map_of p)) w 0) cells
now_seen r p w areas cells is are = record { sorted = are.sorted; nonzero = are.nonzero; states = λ c. are.states c ∙ part_is c }
  where
    part_is : (c : Place) → (part_of (is_in_some areas) (map_of p) c).state ≡ seen_at r (states_in_writes (map_of p)) w 0 c
    part_is c =
        let which : is_in_some areas c ≡ is_in_window w c = ap (λ xs. is_in_some xs c) is ∙ in_area w c in
        elim (cases_Bool (is_in_window w c)) [
          | inl here ↦ rw (which, here) refl
          | inr there ↦ rw (which, there) refl
        ]
