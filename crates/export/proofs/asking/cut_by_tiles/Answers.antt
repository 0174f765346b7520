use Rattle.std.proofs.Common.{◌≡◌, ℕ, List, arith, subst, sym}
use Rattle.std.proofs.lemmas.Bool.Decides.{nat_tests}
use Rattle.std.specs.Prelude.{IfOk, Ok}
use Rattle.pattern_cells.specs.declared.cell.Cell.{Cell}
use Rattle.generation_engine.specs.Universe.{states_in_writes}
use Rattle.stamped_tree.specs.Plane.{map_of}
use Rattle.export.specs.Asking.{IsCut, seen_at}
use Rattle.export.specs.Export.{AreListed, most_cells}
use Rattle.export.proofs.asking.cut_by_tiles.Goals as goal

pub returns-clause-text : goal.returns-clause-text
returns-clause-text c =
    subst (λ (g : ℕ). IfOk c.text_seen.result (λ text. IsCut c.args.rule.now (states_in_writes (map_of c.args.plane.now)) c.args.cut.window g most_cells (Ok text.items))) c.in_ok-listed.ensures.at c.text_seen.ensures.text

pub text_of_seen-requires-clause-cells : goal.text_of_seen-requires-clause-cells
text_of_seen-requires-clause-cells c =
    let r = c.args.rule.now in
    let now : c.args.cut.generation ≡ 0 = grind (arith, nat_tests, c.if-cut-eq0.true) in
    subst (λ (cells : List Cell). AreListed r (seen_at r (states_in_writes (map_of c.args.plane.now)) c.args.cut.window c.args.cut.generation) most_cells cells) (sym c.deref.ensures.value)
    (subst (λ (g : ℕ). AreListed r (seen_at r (states_in_writes (map_of c.args.plane.now)) c.args.cut.window g) most_cells c.in-Some.cells.items) (sym now) c.in-Some.ensures)
