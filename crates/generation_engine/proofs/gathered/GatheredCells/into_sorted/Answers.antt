use Rattle.std.proofs.Common.{map, subst}
use Rattle.std.specs.List.Sorted.{IsPermutation}
use Rattle.generation_engine.specs.Walk.{spot_of}
use Rattle.generation_engine.proofs.Spots.{in_middle_moved, placed_again, spots_moved, spots_sorted}
use Rattle.generation_engine.proofs.gathered.GatheredCells.into_sorted.Goals as goal

pub returns-clause-sorted : goal.returns-clause-sorted
returns-clause-sorted c = spots_sorted c.sorted_by_rows.result.items c.sorted_by_rows.ensures.sorted

pub returns-clause-cells : goal.returns-clause-cells
returns-clause-cells c = subst (λ cells. IsPermutation cells (map spot_of c.sorted_by_rows.result.items)) c.self.view_is
    (spots_moved c.self.inside.cells.items c.sorted_by_rows.result.items c.sorted_by_rows.ensures.cells)

pub returns-clause-placed : goal.returns-clause-placed
returns-clause-placed c = placed_again c.sorted_by_rows.result.items (in_middle_moved c.self.inside.cells.items c.sorted_by_rows.result.items c.sorted_by_rows.ensures.cells c.self.invariant)
