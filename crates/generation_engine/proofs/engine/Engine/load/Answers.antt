use Rattle.std.proofs.Common.{refl}
use Rattle.generation_engine.specs.Universe.{EngineValue}
use Rattle.generation_engine.proofs.KeptLaws.{nothing_kept}
use Rattle.generation_engine.proofs.Reading.{plane_read, plane_engine}
use Rattle.generation_engine.proofs.engine.Engine.load.Goals as goal

pub invariant_of-self : goal.invariant_of-self
invariant_of-self c =
    let e : EngineValue = record { rule = c.self.inside.squares.rule; store = c.universe_of.new.target; root = c.in_ok-root.root; generation = 0 } in
    rw (c.of_store.ensures, c.rule.ensures) (plane_engine c.args.plane.now e c.in_ok-root.ensures.draws (rw (← c.self.view_is) at c.requires) refl)

pub returns-clause-states : goal.returns-clause-states
returns-clause-states c =
    let e : EngineValue = record { rule = c.self.inside.squares.rule; store = c.universe_of.new.target; root = c.in_ok-root.root; generation = 0 } in
    rw c.of_store.ensures (plane_read c.args.plane.now e c.in_ok-root.ensures.draws)

pub of_store-requires : goal.of_store-requires
of_store-requires c = nothing_kept c.new-store.result c.universe_of.new.target _ c.new-store.ensures c.in_ok-root.ensures.firsts
