use Rattle.std.proofs.Common.{ℕ, subst}
use Rattle.generation_engine.specs.Universe.{states_in_writes}
use Rattle.stamped_tree.specs.Plane.{map_of}
use Rattle.export.specs.Export.{AreExported}
use Rattle.export.proofs.exporting.cells_at.Goals as goal

pub returns-in_ok-limit_cells-in-Some-clause-cells : goal.returns-in_ok-limit_cells-in-Some-clause-cells
returns-in_ok-limit_cells-in-Some-clause-cells c =
    subst (λ (g : ℕ). AreExported c.args.rule.now (states_in_writes (map_of c.args.plane.now)) g c.args.limit c.in-Some.listed.cells.items) c.in-Some.ensures.at c.in_ok-limit_cells-in-Some.ensures.cells
