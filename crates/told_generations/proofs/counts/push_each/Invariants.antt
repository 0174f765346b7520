use Rattle.std.specs.Prelude.{IfSome}
use Rattle.stamped_tree.specs.Plane.{map_of}
use Rattle.generation_engine.specs.Universe.{states_in_writes}
use Rattle.export.specs.Kept.{IsRunOf}
use Rattle.told_generations.proofs.CountLaws.{PrintsFirst}
use Rattle.told_generations.proofs.counts.push_each.Given as goal

abbrev pub invariant-loop-line : goal.invariant-loop-line
invariant-loop-line l = record {
  kept : IfSome l.kept (IsRunOf l.replica.rule (states_in_writes (map_of l.replica.plane)));
  printed : PrintsFirst l.replica.rule (states_in_writes (map_of l.replica.plane)) l.range l.line l.fn.out.items l.out.items;
}
