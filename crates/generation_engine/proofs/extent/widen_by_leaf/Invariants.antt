use Rattle.generation_engine.specs.EngineLeaf.{leaf_grid}
use Rattle.generation_engine.specs.Extent.{IsWidened}
use Rattle.generation_engine.proofs.Extents.{is_live_before}
use Rattle.generation_engine.proofs.extent.widen_by_leaf.Given as goal

abbrev pub invariant-loop-place : goal.invariant-loop-place
invariant-loop-place l = IsWidened (is_live_before (leaf_grid l.leaf) l.corner.left l.corner.top l.place) l.fn.found l.found
