-- What a walk tells of the cells that areas cover.
use Rattle.std.proofs.Common.{◌≡◌, ◌≢◌, Bool, true, false, List, [], ◌∷◌, inl, inr, refl, sym, ap, subst, ◌∙◌, arith}
use Rattle.std.specs.Prelude.{Contains, not, ◌==◌}
use Rattle.std.proofs.lemmas.Bool.{and_parts, cases_Bool}
use Rattle.std.proofs.lemmas.Bool.Decides.{nat_tests}
use Rattle.generations_rule.specs.Place.{Place}
use Rattle.pattern_cells.specs.declared.cell.Cell.{Cell}
use Rattle.pattern_cells.specs.Cells.{are_nonzero, place_of}
use Rattle.stamped_writes.specs.Write.{Writes}
use Rattle.edit_stamps.specs.declared.rect.Rect.{Rect}
use Rattle.stamped_tree.specs.Sought.{is_in_some, part_of}
use Rattle.stamped_tree.specs.Walk.{AreNonzeroCells}
use Rattle.cell_changes.specs.Changes.{cell_in}
use Rattle.cell_changes.specs.Put.{IsNonzeroIn, Puts}
use Rattle.cell_changes.proofs.Joining.{nonzero_listed, nonzero_states}
use Rattle.cell_changes.proofs.Lists.{contains_none, contains_cases}
use Rattle.cell_changes.proofs.SettledCells.{one_cell}

is_nonzero : (cells : List Cell) (d : Cell) → are_nonzero cells ≡ true → Contains cells d → d.state ≢ 0
is_nonzero [] d all h = absurd (contains_none d h)
is_nonzero (e ∷ cells) d all h =
    let parts = and_parts (not (e.state == 0)) (are_nonzero cells) all in
    elim (contains_cases e d cells h) [
      | inl is ↦ λ zero. (let first = parts.0 in let here : e.state ≡ 0 = sym (ap (λ (z : Cell). z.state) is) ∙ zero in absurd (grind (arith, nat_tests, first, here)))
      | inr below ↦ is_nonzero cells d parts.1 below
    ]

module _ (map : Writes) (f : Place → Bool) where
  state_here : (c : Place) → f c ≡ true → (part_of f map c).state ≡ (map c).state
  state_here c is = rw is refl

  -- a state that is not 0 is the map's
  state_is : (c : Place) → (part_of f map c).state ≢ 0 → (map c).state ≡ (part_of f map c).state
  state_is c nonzero = elim (cases_Bool (f c)) [
    | inl is ↦ sym (state_here c is)
    | inr other ↦ absurd (nonzero (nothing other))
  ]
    where
      nothing : f c ≡ false → (part_of f map c).state ≡ 0
      nothing dead = rw dead refl

-- the cells of a walk of areas are those of the map that they cover
pub covered_put : (map : Writes) (areas : List Rect) (start cells : List Cell) → start ≡ [] → AreNonzeroCells (part_of (is_in_some areas) map) cells → Puts map (IsNonzeroIn map areas) start cells
covered_put map areas start cells none are = record {
  kept = λ d h. absurd (contains_none d (subst (λ xs. Contains xs d) none h));
  put = λ c is. (let here = state_here map (is_in_some areas) c is.covered in
      let r = nonzero_listed (part_of (is_in_some areas) map) cells c are (λ zero. is.nonzero (sym here ∙ zero)) in
      subst (λ d. Contains cells d) (one_cell r.0 (cell_in map c) r.1.1 (r.1.2 ∙ here)) r.1.0);
  states = λ all d h. (let told = nonzero_states (part_of (is_in_some areas) map) cells are d h in
      let is = is_nonzero cells d are.nonzero h in
      state_is map (is_in_some areas) (place_of d) (λ zero. is (sym told ∙ zero)) ∙ told);
}
