use Rattle.std.proofs.Common.{ap, Err, refl}
use Rattle.generation_engine.specs.Universe.{EngineValue}
use Rattle.generation_engine.proofs.KeptLaws.{nothing_kept}
use Rattle.generation_engine.proofs.Reading.{dead_read, dead_engine, never_full}
use Rattle.generation_engine.proofs.engine.Engine.within.Goals as goal

pub invariant_of-result : goal.invariant_of-result
invariant_of-result c =
    let e : EngineValue = record { rule = c.args.rule; store = c.add_blank.new.self; root = c.in-Ok.root; generation = 0 } in
    rw c.of_store.ensures (dead_engine e c.states-states.ensures.rule refl (c.in-Ok.ensures.draws 30))

pub returns-in-Ok-clause-states : goal.returns-in-Ok-clause-states
returns-in-Ok-clause-states c =
    let e : EngineValue = record { rule = c.args.rule; store = c.add_blank.new.self; root = c.in-Ok.root; generation = 0 } in
    rw c.of_store.ensures (dead_read e (c.in-Ok.ensures.draws 30))

pub unreachable-requires : goal.unreachable-requires
unreachable-requires c = never_full c.args.limits.room c.requires (rw c.new-store.ensures at (c.in-Err-StoreFull.ensures.full (ap (λ e. Err e) c.in-Err-StoreFull.field-0-is) 0))

pub of_store-requires : goal.of_store-requires
of_store-requires c = nothing_kept c.new-store.result c.add_blank.new.self _ c.new-store.ensures c.add_blank.ensures.firsts
