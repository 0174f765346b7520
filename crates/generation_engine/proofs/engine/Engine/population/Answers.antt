use Rattle.std.proofs.Common.{◌∙◌}
use Rattle.generation_engine.specs.Running.{universe}
use Rattle.generation_engine.specs.Universe.{EngineValue}
use Rattle.generation_engine.proofs.Reading.{population_read}
use Rattle.generation_engine.proofs.engine.Engine.population.Goals as goal

pub square_population-requires-clause-stands : goal.square_population-requires-clause-stands
square_population-requires-clause-stands c = rw c.store.ensures c.self.invariant.root

pub returns : goal.returns
returns c =
    let e : EngineValue = universe c.self.inside.squares c.self.inside.root c.self.inside.generation in
    let same = c.store.ensures in
    rw (← c.self.view_is) ((rw same at c.square_population.ensures) ∙ population_read e)
