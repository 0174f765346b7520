use Rattle.std.specs.Prelude.{IfSome}
use Rattle.generation_engine.specs.Universe.{states_in_writes}
use Rattle.stamped_tree.specs.Plane.{map_of}
use Rattle.export.specs.Kept.{IsListedOf}
use Rattle.test_engine.proofs.by_tiles.going_on.Given as goal

-- what is kept is listed of the plane
abbrev pub invariant-loop-generation : goal.invariant-loop-generation
invariant-loop-generation l = IfSome l.kept (IsListedOf l.fn.rule (states_in_writes (map_of l.fn.plane)))
