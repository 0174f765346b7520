use Rattle.stamped_tree.specs.Plane.{map_of}
use Rattle.generation_engine.specs.Universe.{states_in_writes}
use Rattle.export.proofs.ExportLaws.{cells_below}
use Rattle.genedit_view.proofs.shown.plane_cells.Goals as goal

pub returns-in_default-clause-below : goal.returns-in_default-clause-below
returns-in_default-clause-below c =
    cells_below c.args.rule.now (states_in_writes (map_of c.args.plane.now)) 0 c.in_ok-walk.field-0.items c.states-states.ensures.rule c.requires
    (record { sorted = c.in_ok-walk.ensures.sorted; nonzero = c.in_ok-walk.ensures.nonzero; states = c.in_ok-walk.ensures.states })
