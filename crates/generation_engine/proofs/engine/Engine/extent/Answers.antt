use Rattle.generation_engine.specs.Running.{universe}
use Rattle.generation_engine.specs.Universe.{EngineValue}
use Rattle.generation_engine.proofs.WindowLaws.{extent_seen, narrow, no_extent}
use Rattle.generation_engine.proofs.engine.Engine.extent.Goals as goal

pub returns-in_err-region : goal.returns-in_err-region
returns-in_err-region c =
    let e : EngineValue = universe c.self.inside.squares c.self.inside.root c.self.inside.generation in
    let same = c.store.ensures in
    rw (c.from_residual.ensures, ← c.self.view_is) (no_extent e c.self.invariant (rw same at c.in_err-region.ensures))

pub window-requires : goal.window-requires
window-requires c =
    let e : EngineValue = universe c.self.inside.squares c.self.inside.root c.self.inside.generation in
    let same = c.store.ensures in
    narrow e c.self.invariant c.in_ok-region.region (rw same at c.in_ok-region.ensures)

pub returns : goal.returns
returns c =
    let e : EngineValue = universe c.self.inside.squares c.self.inside.root c.self.inside.generation in
    let same = c.store.ensures in
    rw (← c.self.view_is) (extent_seen e c.self.invariant c.in_ok-region.region (rw same at c.in_ok-region.ensures) c.window.result c.window.ensures.left c.window.ensures.right c.window.ensures.top c.window.ensures.bottom)
