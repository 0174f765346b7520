use Rattle.std.proofs.Common.{◌+◌, ◌-◌, ◌*◌}
use Rattle.std.specs.Prelude.{slice_index_or}
use Rattle.square_store.specs.Squares.{grid_at, side_at}
use Rattle.generation_engine.specs.EngineLeaf.{leaf_grid}
use Rattle.generation_engine.specs.Kept.{neighbours_joined}
use Rattle.generation_engine.proofs.Passes.{AreMade}
use Rattle.generation_engine.proofs.results.ResultStore.nine.Given as goal

abbrev pub invariant-loop-place : goal.invariant-loop-place
invariant-loop-place l = AreMade l.fn.self l.self l.level 3 (neighbours_joined (side_at 8 (l.level - 1)) (λ a b. grid_at leaf_grid 8 l.fn.self.store (l.level - 1) (slice_index_or l.parts (4 * b + a) 0))) l.nine l.place
