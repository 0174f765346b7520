use Rattle.std.proofs.Common.{◌∙◌, sym, map, subst}
use Rattle.std.proofs.lemmas.List.{length-map}
use Rattle.generation_engine.specs.Running.{universe}
use Rattle.generation_engine.specs.Universe.{EngineValue, states_of}
use Rattle.generation_engine.specs.Walk.{AreCellsOf, spot_of}
use Rattle.generation_engine.proofs.Populations.{population_in_middle}
use Rattle.generation_engine.proofs.WalkLaws.{walked}
use Rattle.generation_engine.proofs.engine.Engine.cells.Goals as goal

pub returns-clause-cells : goal.returns-clause-cells
returns-clause-cells c =
    let e : EngineValue = universe c.self.inside.squares c.self.inside.root c.self.inside.generation in
    let same = c.store.ensures in
    rw (← c.self.view_is) (subst (AreCellsOf (states_of e)) c.in_ok-cells.ensures.placed
    (walked e c.self.invariant (map spot_of c.in_ok-cells.cells.items) c.in_ok-cells.ensures.sorted (rw same at c.in_ok-cells.ensures.cells)))

pub returns-clause-count : goal.returns-clause-count
returns-clause-count c =
    let e : EngineValue = universe c.self.inside.squares c.self.inside.root c.self.inside.generation in
    let same = c.store.ensures in
    rw (← c.self.view_is) (sym (length-map c.in_ok-cells.cells.items spot_of) ∙ (rw same at c.in_ok-cells.ensures.count) ∙ population_in_middle e c.self.invariant)
