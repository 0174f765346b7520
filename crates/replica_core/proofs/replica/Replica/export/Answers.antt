use Rattle.std.proofs.Common.{Ok, subst}
use Rattle.stamped_tree.specs.Plane.{map_of}
use Rattle.generation_engine.specs.Universe.{states_in_writes}
use Rattle.export.specs.Export.{IsExport, most_cells}
use Rattle.replica_core.specs.Exporting.{IsExportFault, IsExportOf}
use Rattle.replica_core.specs.Replica.{ReplicaState}
use Rattle.replica_core.proofs.TellLaws.{export_refused}
use Rattle.replica_core.proofs.replica.Replica.export.Goals as goal

pub returns-in-Ok-clause-text : goal.returns-in-Ok-clause-text
returns-in-Ok-clause-text c =
    subst (λ s. IsExportOf s c.args.generation (Ok c.in-Ok.text.items)) c.self.view_is
    (subst (λ p. IsExport c.self.inside.rule (states_in_writes (map_of p)) c.args.generation most_cells (Ok c.in-Ok.text.items)) c.plane.ensures c.in-Ok.ensures.text)

pub returns-in-Err-clause-err : goal.returns-in-Err-clause-err
returns-in-Err-clause-err c =
    let inside : ReplicaState = record { rule = c.self.inside.rule; number = c.self.inside.number; plane = c.self.inside.plane; journal = c.self.inside.journal } in
    subst (λ (s : ReplicaState). IsExportFault s c.args.generation c.from.result) c.self.view_is
    (export_refused inside _ c.args.generation c.in-Err.fault c.from.result c.from.ensures c.plane.ensures c.in-Err.ensures.err)
