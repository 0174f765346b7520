use Rattle.std.proofs.Common.{◌∙◌}
use Rattle.generation_engine.specs.Running.{universe}
use Rattle.generation_engine.specs.Universe.{EngineValue}
use Rattle.generation_engine.proofs.WindowLaws.{population_seen}
use Rattle.generation_engine.proofs.engine.Engine.population_in.Goals as goal

pub returns : goal.returns
returns c =
    let e : EngineValue = universe c.self.inside.squares c.self.inside.root c.self.inside.generation in
    let same = c.store.ensures in
    rw (← c.self.view_is) ((rw same at c.region_population.ensures) ∙ population_seen e c.self.invariant c.args.window c.of_window-region.result c.of_window-region.ensures)
