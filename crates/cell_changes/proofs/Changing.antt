-- What has changed of what was watched, and how it looked before.
use Rattle.std.proofs.Common.{◌≡◌, ◌≢◌, ℕ, true, ◌==◌, List, map, refl, sym, ap, subst, ◌∙◌, arith}
use Rattle.std.specs.Prelude.{Contains, filter, not}
use Rattle.std.proofs.lemmas.Bool.Decides.{nat_tests}
use Rattle.pattern_cells.specs.declared.cell.Cell.{Cell}
use Rattle.pattern_cells.specs.Cells.{place_of}
use Rattle.stamped_writes.specs.Write.{Writes}
use Rattle.edit_stamps.specs.Making.{settled}
use Rattle.edit_stamps.proofs.SortedCells.{settled_sorted}
use Rattle.cell_changes.specs.Changes.{AreChanges, HaveStatesOf, Watches, cell_in}
use Rattle.cell_changes.specs.Put.{has_changed, now_in}
use Rattle.cell_changes.proofs.Lists.{filtered_has, filtered_only, mapped_only, mapped_has}
use Rattle.cell_changes.proofs.SettledCells.{one_cell, settled_only, settled_has}

differs : (m n : ℕ) → not (m == n) ≡ true → m ≢ n
differs m n t e = absurd (grind (arith, nat_tests, t, e))

tells : (m n : ℕ) → m ≢ n → not (m == n) ≡ true
tells m n h = grind (arith, nat_tests, h)

module _ (watched : List Cell) (before after : Writes) (are : Watches watched before after) where
  abbrev found : List Cell
  found = map (now_in after) (filter (has_changed after) watched)

  have_states : HaveStatesOf after found
  have_states d h =
      let r = mapped_only (now_in after) (has_changed after) watched d h in
      ap (λ (c : Cell). (after (place_of c)).state) (sym r.1.2) ∙ ap (λ (c : Cell). c.state) r.1.2

  has_other : (d : Cell) → Contains found d → (before (place_of d)).state ≢ d.state
  has_other d h e =
      let r = mapped_only (now_in after) (has_changed after) watched d h in
      let w = r.0 in
      let place : place_of w ≡ place_of d = ap place_of r.1.2 in
      let state : (after (place_of w)).state ≡ d.state = ap (λ (c : Cell). c.state) r.1.2 in
      differs (after (place_of w)).state w.state r.1.1 (state ∙ sym e ∙ ap (λ c. (before c).state) (sym place) ∙ are.states w r.1.0)

  is_found : (d : Cell) → (after (place_of d)).state ≡ d.state → (before (place_of d)).state ≢ d.state → Contains found d
  is_found d now other =
      let w = cell_in before (place_of d) in
      let apart : (after (place_of d)).state ≢ (before (place_of d)).state = λ e. other (sym e ∙ now) in
      there now (mapped_has (now_in after) (has_changed after) watched w (are.changed (place_of d) apart) (tells (after (place_of d)).state (before (place_of d)).state apart))
    where
      there : (after (place_of d)).state ≡ d.state → Contains found (cell_in after (place_of d)) → Contains found d
      there state = subst (λ c. Contains found c) (one_cell (cell_in after (place_of d)) d refl state)

  pub are_changes : AreChanges before after (settled found)
  are_changes = record {
    sorted = settled_sorted found;
    changed = λ d. (
      λ h. (have_states d (settled_only found d h), has_other d (settled_only found d h)),
      λ is. settled_has after found have_states d (is_found d is.0 is.1),
    );
  }

  -- ---- before

  abbrev outdated : List Cell
  outdated = filter (has_changed after) watched

  was_there : (d : Cell) → Contains outdated d → (before (place_of d)).state ≡ d.state
  was_there d h = are.states d (filtered_only (has_changed after) watched d h).0

  is_other : (d : Cell) → Contains outdated d → (after (place_of d)).state ≢ d.state
  is_other d h = differs (after (place_of d)).state d.state (filtered_only (has_changed after) watched d h).1

  is_outdated : (d : Cell) → (before (place_of d)).state ≡ d.state → (after (place_of d)).state ≢ d.state → Contains outdated d
  is_outdated d was other =
      let seen : Contains watched (cell_in before (place_of d)) = are.changed (place_of d) (λ e. other (e ∙ was)) in
      let same : cell_in before (place_of d) ≡ d = one_cell (cell_in before (place_of d)) d refl was in
      filtered_has (has_changed after) watched d (subst (λ c. Contains watched c) same seen) (tells (after (place_of d)).state d.state other)

  pub were_changes : AreChanges after before (settled outdated)
  were_changes = record {
    sorted = settled_sorted outdated;
    changed = λ d. (
      λ h. (was_there d (settled_only outdated d h), is_other d (settled_only outdated d h)),
      λ is. settled_has before outdated was_there d (is_outdated d is.0 is.1),
    );
  }
