use Rattle.std.proofs.Common.{◌≡◌, ℕ, Err, ap, subst}
use Rattle.generations_rule.specs.Place.{Place}
use Rattle.stamped_tree.specs.Plane.{map_of}
use Rattle.generation_engine.specs.Universe.{states_in_writes}
use Rattle.export.specs.Export.{AreExported, most_cells}
use Rattle.export.proofs.ExportLaws.{one_map}
use Rattle.cell_pictures.specs.Shown.{state_at}
use Rattle.genedit_view.proofs.SeenLaws.{at_end, late_told, room_of_generation}
use Rattle.genedit_view.proofs.shown.run_cells.Goals as goal

pub returns-in_err-later-clause-fault : goal.returns-in_err-later-clause-fault
returns-in_err-later-clause-fault c =
    let same : states_in_writes (map_of c.in_ok-plane.plane) ≡ state_at c.args.cells.now = one_map (states_in_writes (map_of c.in_ok-plane.plane)) (state_at c.args.cells.now) c.in_ok-plane.ensures.states in
    at_end c.from_residual-in_err-later.result _ _ c.from_residual-in_err-later.ensures.1
    (λ e told. late_told c.args.rule.now (states_in_writes (map_of c.in_ok-plane.plane)) (state_at c.args.cells.now) c.args.generation c.in_err-later.field-0.0 e same c.in_err-later.ensures.err told)

pub returns-clause-cells : goal.returns-clause-cells
returns-clause-cells c =
    let same : states_in_writes (map_of c.in_ok-plane.plane) ≡ state_at c.args.cells.now = one_map (states_in_writes (map_of c.in_ok-plane.plane)) (state_at c.args.cells.now) c.in_ok-plane.ensures.states in
    (c.in_ok-in_range.ensures.ok, subst (λ (f : Place → ℕ). AreExported c.args.rule.now f c.args.generation most_cells c.in_ok-later.later.items) same c.in_ok-later.ensures.cells)

pub returns-in_err-later-clause-full : goal.returns-in_err-later-clause-full
returns-in_err-later-clause-full c =
    let same : states_in_writes (map_of c.in_ok-plane.plane) ≡ state_at c.args.cells.now = one_map (states_in_writes (map_of c.in_ok-plane.plane)) (state_at c.args.cells.now) c.in_ok-plane.ensures.states in
    at_end c.from_residual-in_err-later.result _ _ c.from_residual-in_err-later.ensures.1
    (λ e told is. record {
      within = c.in_ok-in_range.ensures.ok;
      plane = c.in_ok-plane.plane;
      shows = same;
      wanted = c.in_err-later.ensures.full (ap Err (room_of_generation c.in_err-later.field-0.0 e told is));
    })
