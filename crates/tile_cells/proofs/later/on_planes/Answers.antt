use Rattle.std.proofs.Common.{◌≡◌, List, sym, subst, true}
use Rattle.std.specs.Prelude.{◌&&◌}
use Rattle.std.proofs.lemmas.Bool.{and_parts}
use Rattle.pattern_cells.specs.declared.cell.Cell.{Cell}
use Rattle.pattern_cells.specs.Cells.{are_nonzero, is_sorted}
use Rattle.tile_cells.proofs.later.on_planes.Goals as goal

pub returns-in-Ok-clause-list : goal.returns-in-Ok-clause-list
returns-in-Ok-clause-list N c =
    let items : List Cell = c.in-Ok.found.items in
    let both : (is_sorted items && are_nonzero items) ≡ true = subst (λ (cs : List Cell). (is_sorted cs && are_nonzero cs) ≡ true) c.deref.ensures.value (sym c.if-are_in_order.ensures) in
    let parts = and_parts (is_sorted items) (are_nonzero items) both in
    record { sorted = parts.0; alive = parts.1; states = c.in-Ok.ensures.states }
