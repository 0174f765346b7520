use Rattle.std.proofs.Common.{length, ◌-◌}
use Rattle.std.specs.Prelude.{IfSome}
use Rattle.generation_engine.specs.Universe.{states_in_writes}
use Rattle.stamped_tree.specs.Plane.{map_of}
use Rattle.export.specs.Kept.{IsListedOf, IsRunOf}
use Rattle.export_workers.specs.Exports.{AreAnswered, IsJobAnswer}
use Rattle.export_workers.proofs.work.work.Given as goal

abbrev pub invariant-loop-job : goal.invariant-loop-job
invariant-loop-job g l = record {
  answers : AreAnswered (IsJobAnswer l.rule l.plane l.generations) (length l.generations) l.step l.job l.first l.answers;
  listed : IfSome l.kept.listed (IsListedOf l.rule (states_in_writes (map_of l.plane)));
  universe : IfSome l.kept.universe (IsRunOf l.rule (states_in_writes (map_of l.plane)));
}

abbrev pub decreases-loop-job : goal.decreases-loop-job
decreases-loop-job g l = length l.generations - l.job
