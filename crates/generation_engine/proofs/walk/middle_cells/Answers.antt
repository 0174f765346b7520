use Rattle.stamped_tree.specs.Walk.{IsNonzeroCell}
use Rattle.generation_engine.specs.Walk.{GathersSquare, middle_grid}
use Rattle.generation_engine.proofs.Counted.{middle_counted}
use Rattle.stamped_tree.proofs.Placing.{sorted_gathered}
use Rattle.generation_engine.proofs.WalkLaws.{sorted_counted}
use Rattle.generation_engine.proofs.walk.middle_cells.Goals as goal

all : (c : goal.After-into_sorted) → GathersSquare 4294967296 (middle_grid c.args.store.now c.args.root) 0 0 c.in_ok-found.found c.gather-4.new.found
all c = middle_counted c.args.store.now c.args.root c.middle-parts.result c.index-parts-0.result c.index-parts-1.result c.index-parts-2.result c.index-parts-3.result
    c.in_ok-found.found c.gather.new.found c.gather-2.new.found c.gather-3.new.found c.gather-4.new.found c.middle-parts.ensures
    c.in_ok-gather.ensures c.in_ok-gather-2.ensures c.in_ok-gather-3.ensures c.in_ok-gather-4.ensures

pub returns-clause-cells : goal.returns-clause-cells
returns-clause-cells c = sorted_gathered (IsNonzeroCell 4294967296 (middle_grid c.args.store.now c.args.root) 0 0) c.in_ok-found.found c.gather-4.new.found _ c.in_ok-found.ensures (all c).gathers c.into_sorted.ensures.cells

pub returns-clause-count : goal.returns-clause-count
returns-clause-count c = sorted_counted _ c.in_ok-found.found c.gather-4.new.found _ c.in_ok-found.ensures (all c).count c.into_sorted.ensures.cells
