use Rattle.stamped_tree.specs.Walk.{IsNonzeroCell}
use Rattle.stamped_tree.proofs.Placing.{sorted_gathered}
use Rattle.generation_engine.specs.Region.{seen_grid}
use Rattle.generation_engine.specs.Walk.{GathersSquare, middle_grid}
use Rattle.generation_engine.proofs.WalkLaws.{sorted_counted}
use Rattle.generation_engine.proofs.Windows.{gathered_beside}
use Rattle.generation_engine.proofs.window.region_cells.Goals as goal

all : (c : goal.After-into_sorted) → GathersSquare 4294967296 (seen_grid c.args.region 0 0 (middle_grid c.args.store.now c.args.root)) 0 0 c.in_ok-found.found c.gather_in-4.new.found
all c = gathered_beside c.args.store.now c.args.region 28 0 0 (middle_grid c.args.store.now c.args.root) c.middle_squares-squares.result c.middle_squares-squares.ensures
    c.in_ok-found.found c.gather_in.new.found c.gather_in-2.new.found c.gather_in-3.new.found c.gather_in-4.new.found
    c.in_ok-gather_in.ensures c.in_ok-gather_in-2.ensures c.in_ok-gather_in-3.ensures c.in_ok-gather_in-4.ensures

pub returns-clause-cells : goal.returns-clause-cells
returns-clause-cells c = sorted_gathered (IsNonzeroCell 4294967296 (seen_grid c.args.region 0 0 (middle_grid c.args.store.now c.args.root)) 0 0) c.in_ok-found.found c.gather_in-4.new.found _ c.in_ok-found.ensures (all c).gathers c.into_sorted.ensures.cells

pub returns-clause-count : goal.returns-clause-count
returns-clause-count c = sorted_counted _ c.in_ok-found.found c.gather_in-4.new.found _ c.in_ok-found.ensures (all c).count c.into_sorted.ensures.cells
