use Rattle.std.proofs.Common.{◌≡◌, ◌+◌, length}
use Rattle.stamped_tree.specs.Walk.{Gathers}
use Rattle.stamped_tree.proofs.Gathering.{IsNonzeroBefore}
use Rattle.generation_engine.specs.EngineLeaf.{leaf_grid}
use Rattle.generation_engine.specs.Region.{seen_grid}
use Rattle.generation_engine.proofs.Windows.{places_count}
use Rattle.generation_engine.proofs.window.gather_leaf_in.Given as goal

abbrev pub invariant-loop-place : goal.invariant-loop-place
invariant-loop-place l =
    Gathers (IsNonzeroBefore (seen_grid l.region l.corner.left l.corner.top (leaf_grid l.leaf)) l.corner.left l.corner.top l.place) l.fn.found l.found
    × (length l.found ≡ length l.fn.found + places_count (seen_grid l.region l.corner.left l.corner.top (leaf_grid l.leaf)) l.place)
