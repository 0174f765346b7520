-- A pattern that is refused nothing has cells that can be drawn, and run.
use Rattle.std.proofs.Common.{◌≡◌, Bool, true, false, List, [], ◌∷◌, refl, sym, ◌∙◌, subst}
use Rattle.std.specs.Prelude.{not, ◌||◌, ◌&&◌, None}
use Rattle.std.specs.Bool.{OnTrue}
use Rattle.generations_rule.specs.Refusal.{when, first_of}
use Rattle.generations_rule.specs.Rule.{GenerationsRule, IsRule}
use Rattle.pattern_cells.specs.declared.cell.Cell.{Cell}
use Rattle.pattern_cells.specs.Pattern.{IsPattern, RlePattern}
use Rattle.edit_stamps.specs.Making.{are_in_plane}
use Rattle.edit_stamps.specs.Pasting.{are_placeable, have_states_below}
use Rattle.edit_stamps.proofs.PastingLaws.{alive_placed, below_placed, in_plane_placed, sorted_placed}
use Rattle.genedit_rle.specs.Canonical.{cells_in_plane}
use Rattle.genedit_view.specs.declared.fault.ViewFault.{ViewFault}
use Rattle.genedit_view.specs.Cells.{ArePatternCells, are_in_plane_at}
use Rattle.genedit_view.specs.Fault.{out_of_plane, state_range}
use Rattle.genedit_view.specs.Reading.{is_outside, pattern_fault}

neither : (a b : Bool) (f g : ViewFault) → first_of (when a f ∷ when (not b) g ∷ []) ≡ None → (a ≡ false) × (b ≡ true)
neither true b f g e = absurd (cc)
neither false false f g e = absurd (cc)
neither false true f g e = (refl, refl)

inside : (is_run a b : Bool) → (not a || (is_run && not b)) ≡ false → is_run ≡ true → b ≡ true
inside is_run a true e run = refl
inside false a false e run = absurd (cc)
inside true true false e run = absurd (cc)
inside true false false e run = absurd (cc)

on_true : (b : Bool) (P : Type 0) → (b ≡ true → P) → OnTrue b P
on_true true P f = f refl
on_true false P f = tt

pub pattern_cells_are : (is_run : Bool) (r : GenerationsRule) (p : RlePattern) (cells : List Cell) → IsRule r → IsPattern p → None ≡ pattern_fault is_run r.states p →
    cells ≡ cells_in_plane p → ArePatternCells is_run r cells
pattern_cells_are is_run r p cells rule pattern none is =
    let parts = neither (is_outside is_run p) (have_states_below r.states p.cells) out_of_plane state_range (sym none) in
    subst (λ cs. ArePatternCells is_run r cs) (sym is) (record {
      rule = rule;
      sorted = sorted_placed p.pos.0 p.pos.1 p.cells pattern.sorted;
      nonzero = alive_placed p.pos.0 p.pos.1 p.cells pattern.alive;
      below = below_placed r.states p.pos.0 p.pos.1 p.cells ∙ parts.1;
      inside = on_true is_run _ (inside is_run (are_placeable p.pos.0 p.pos.1 p.cells) (are_in_plane (cells_in_plane p)) parts.0);
    })

pub outside_is : (is_run : Bool) (p : RlePattern) (placeable in_plane : Bool) → placeable ≡ are_placeable p.pos.0 p.pos.1 p.cells → in_plane ≡ are_in_plane_at p.pos.0 p.pos.1 p.cells →
    (not placeable || (is_run && not in_plane)) ≡ is_outside is_run p
outside_is is_run p placeable in_plane a b = λ i. not (a i) || (is_run && not ((b ∙ sym (in_plane_placed p.pos.0 p.pos.1 p.cells)) i))
