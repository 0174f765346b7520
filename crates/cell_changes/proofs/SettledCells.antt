-- What is left of cells that are settled.
use Rattle.std.proofs.Common.{◌≡◌, ◌⊎◌, List, [], ◌∷◌, inl, inr, sym, ap, subst, ◌∙◌}
use Rattle.std.specs.Prelude.{Contains}
use Rattle.pattern_cells.specs.declared.cell.Cell.{Cell}
use Rattle.pattern_cells.specs.Cells.{place_of}
use Rattle.stamped_writes.specs.Write.{Writes}
use Rattle.edit_stamps.specs.Making.{add, settled}
use Rattle.edit_stamps.proofs.PlaceOrder.{Before, Same, Behind, compared, one_place}
use Rattle.stamped_tree.proofs.Gathering.{contains_head, contains_tail}
use Rattle.cell_changes.specs.Changes.{HaveStatesOf}
use Rattle.cell_changes.proofs.Lists.{contains_none, contains_cases, contains_same}

-- a cell is its place and its state
pub one_cell : (a b : Cell) → place_of a ≡ place_of b → a.state ≡ b.state → a ≡ b
one_cell a b place state = λ i. record { x = (place i).x; y = (place i).y; state = state i }

-- ---- one more cell

added_only : (cell : Cell) (cells : List Cell) (d : Cell) → Contains (add cell cells) d → (d ≡ cell) ⊎ Contains cells d
added_only cell [] d h = contains_cases cell d [] h
added_only cell (e ∷ cells) d h = elim (compared (place_of cell) (place_of e)) [
  | Before before ↦ contains_cases cell d (e ∷ cells) (rw before at h)
  | Same later same ↦ inr (rw (later, same) at h)
  | Behind later other behind ↦ elim (contains_cases e d (add cell cells) (rw (later, other) at h)) [
    | inl is ↦ inr (contains_same e d cells is)
    | inr below ↦ elim (added_only cell cells d below) [ inl is ↦ inl is | inr there ↦ inr (contains_tail e d cells there) ]
  ]
]

added_kept : (cell : Cell) (cells : List Cell) (d : Cell) → Contains cells d → Contains (add cell cells) d
added_kept cell [] d h = absurd (contains_none d h)
added_kept cell (e ∷ cells) d h = elim (compared (place_of cell) (place_of e)) [
  | Before before ↦ rw before (contains_tail cell d (e ∷ cells) h)
  | Same later same ↦ rw (later, same) h
  | Behind later other behind ↦ rw (later, other) (elim (contains_cases e d cells h) [
    | inl is ↦ contains_same e d (add cell cells) is
    | inr below ↦ contains_tail e d (add cell cells) (added_kept cell cells d below)
  ])
]

-- among cells with their states in a map, of two at one place both are one
added_there : (map : Writes) (cell : Cell) (cells : List Cell) → (map (place_of cell)).state ≡ cell.state → HaveStatesOf map cells → Contains (add cell cells) cell
added_there map cell [] told all = contains_head cell []
added_there map cell (e ∷ cells) told all = elim (compared (place_of cell) (place_of e)) [
  | Before before ↦ rw before (contains_head cell (e ∷ cells))
  | Same later same ↦ (let place = one_place (place_of cell) (place_of e) same in
      let state : cell.state ≡ e.state = sym told ∙ ap (λ c. (map c).state) place ∙ all e (contains_head e cells) in
      rw (later, same) (contains_same e cell cells (one_cell cell e place state)))
  | Behind later other behind ↦ rw (later, other) (contains_tail e cell (add cell cells) (added_there map cell cells told (λ d h. all d (contains_tail e d cells h))))
]

-- ---- all of them

pub settled_only : (cells : List Cell) (d : Cell) → Contains (settled cells) d → Contains cells d
settled_only [] d h = h
settled_only (cell ∷ cells) d h = elim (added_only cell (settled cells) d h) [
  | inl is ↦ contains_same cell d cells is
  | inr there ↦ contains_tail cell d cells (settled_only cells d there)
]

pub settled_has : (map : Writes) (cells : List Cell) → HaveStatesOf map cells → (d : Cell) → Contains cells d → Contains (settled cells) d
settled_has map [] all d h = h
settled_has map (cell ∷ cells) all d h =
    let others : HaveStatesOf map cells = λ e i. all e (contains_tail cell e cells i) in
    elim (contains_cases cell d cells h) [
      | inl is ↦ there is (added_there map cell (settled cells) (all cell (contains_head cell cells)) (λ e i. others e (settled_only cells e i)))
      | inr below ↦ added_kept cell (settled cells) d (settled_has map cells others d below)
    ]
  where
    there : d ≡ cell → Contains (add cell (settled cells)) cell → Contains (add cell (settled cells)) d
    there is = subst (λ e. Contains (add cell (settled cells)) e) (sym is)
