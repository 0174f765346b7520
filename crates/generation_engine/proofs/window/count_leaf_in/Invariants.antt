use Rattle.std.proofs.Common.{◌≡◌}
use Rattle.generation_engine.specs.EngineLeaf.{leaf_grid}
use Rattle.generation_engine.specs.Region.{seen_grid}
use Rattle.generation_engine.proofs.Windows.{places_count}
use Rattle.generation_engine.proofs.window.count_leaf_in.Given as goal

abbrev pub invariant-loop-place : goal.invariant-loop-place
invariant-loop-place l = l.count ≡ places_count (seen_grid l.region l.corner.left l.corner.top (leaf_grid l.leaf)) l.place
