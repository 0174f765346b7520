use Rattle.std.proofs.Common.{ℕ, subst}
use Rattle.std.specs.Prelude.{IfOk, Ok}
use Rattle.generation_engine.specs.Universe.{states_in_writes}
use Rattle.stamped_tree.specs.Plane.{map_of}
use Rattle.export.specs.Export.{IsExport}
use Rattle.export.proofs.exporting.text_by_tiles.Goals as goal

pub returns-clause-text : goal.returns-clause-text
returns-clause-text c =
    subst (λ (g : ℕ). IfOk c.text_of.result (λ text. IsExport c.args.rule.now (states_in_writes (map_of c.args.plane.now)) g c.args.limit (Ok text.items))) c.in_ok-listed.ensures.at c.text_of.ensures.text
