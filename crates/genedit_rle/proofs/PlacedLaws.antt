-- A pattern that is refused nothing can be put in place and written.
use Rattle.std.proofs.Common.{◌≡◌, ℕ, Bool, true, false, [], ◌∷◌, refl, ◌∙◌}
use Rattle.std.specs.Prelude.{not, None}
use Rattle.generations_rule.specs.Refusal.{when, first_of}
use Rattle.pattern_cells.specs.Cells.{are_states_below}
use Rattle.pattern_cells.specs.Pattern.{RlePattern}
use Rattle.edit_stamps.specs.Pasting.{are_placeable, have_states_below}
use Rattle.edit_stamps.proofs.PastingLaws.{below_placed}
use Rattle.genedit_rle.specs.Canonical.{cells_in_plane, pattern_refusal}
use Rattle.genedit_rle.specs.Refusal.{OutOfPlane, StateRange}

none_of_two : {F : Type 0} (a b : Bool) (f g : F) → first_of (when (not a) f ∷ when (not b) g ∷ []) ≡ None → (a ≡ true) × (b ≡ true)
none_of_two false b f g e = absurd (cc)
none_of_two true false f g e = absurd (cc)
none_of_two true true f g e = (refl, refl)

pub placeable : (states : ℕ) (p : RlePattern) → pattern_refusal states p ≡ None → are_placeable p.pos.0 p.pos.1 p.cells ≡ true
placeable states p none = (none_of_two (are_placeable p.pos.0 p.pos.1 p.cells) (have_states_below states p.cells) OutOfPlane StateRange none).0

pub below : (states : ℕ) (p : RlePattern) → pattern_refusal states p ≡ None → are_states_below states (cells_in_plane p) ≡ true
below states p none =
    below_placed states p.pos.0 p.pos.1 p.cells
    ∙ (none_of_two (are_placeable p.pos.0 p.pos.1 p.cells) (have_states_below states p.cells) OutOfPlane StateRange none).1
