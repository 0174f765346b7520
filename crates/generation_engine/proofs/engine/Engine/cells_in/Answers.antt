use Rattle.std.proofs.Common.{◌∙◌, sym, map, subst}
use Rattle.std.proofs.lemmas.List.{length-map}
use Rattle.pattern_cells.specs.Window.{is_in_window, seen_where}
use Rattle.generation_engine.specs.Running.{universe}
use Rattle.generation_engine.specs.Universe.{EngineValue, states_of}
use Rattle.generation_engine.specs.Walk.{AreCellsOf, spot_of}
use Rattle.generation_engine.proofs.WindowLaws.{cells_seen, population_seen}
use Rattle.generation_engine.proofs.engine.Engine.cells_in.Goals as goal

pub returns-clause-cells : goal.returns-clause-cells
returns-clause-cells c =
    let e : EngineValue = universe c.self.inside.squares c.self.inside.root c.self.inside.generation in
    let same = c.store.ensures in
    rw (← c.self.view_is) (subst (AreCellsOf (seen_where (is_in_window c.args.window) (states_of e))) c.in_ok-seen.ensures.placed
    (cells_seen e c.self.invariant c.args.window c.of_window-region.result c.of_window-region.ensures (map spot_of c.in_ok-seen.seen.items) c.in_ok-seen.ensures.sorted (rw same at c.in_ok-seen.ensures.cells)))

pub returns-clause-count : goal.returns-clause-count
returns-clause-count c =
    let e : EngineValue = universe c.self.inside.squares c.self.inside.root c.self.inside.generation in
    let same = c.store.ensures in
    rw (← c.self.view_is) (sym (length-map c.in_ok-seen.seen.items spot_of) ∙ (rw same at c.in_ok-seen.ensures.count) ∙ population_seen e c.self.invariant c.args.window c.of_window-region.result c.of_window-region.ensures)
