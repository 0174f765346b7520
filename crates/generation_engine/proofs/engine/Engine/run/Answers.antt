use Rattle.std.proofs.Common.{arith}
use Rattle.generation_engine.specs.Running.{HasSameCells, universe}
use Rattle.generation_engine.proofs.Universes.{evolved, on_err, same_cells}
use Rattle.generation_engine.proofs.engine.Engine.run.Goals as goal

pub returns-in_err-root-clause-err : goal.returns-in_err-root-clause-err
returns-in_err-root-clause-err c =
    let same : HasSameCells c.args.self.now (universe c.run.new.self c.self.inside.root c.self.inside.generation) =
    rw (← c.self.view_is) (same_cells c.self.inside.squares c.run.new.self c.self.inside.root c.self.inside.generation c.self.invariant.root c.in_err-root.ensures.grows) in
    on_err c.from_residual.result _ same

pub invariant_of-self-2 : goal.invariant_of-self-2
invariant_of-self-2 c = c.in_ok-root.ensures.run.engine c.self.inside.generation c.self.invariant (let within = c.if-generations-self.false in let most = c.self.invariant.generations in omega (arith, within, most))

pub returns-clause-since_load : goal.returns-clause-since_load
returns-clause-since_load c = λ f before.
    evolved c.self.inside.squares c.run.new.self c.args.generations c.self.inside.root c.in_ok-root.root c.self.inside.generation f c.in_ok-root.ensures.run c.in_ok-root.ensures.grows c.self.invariant
    (let within = c.if-generations-self.false in let most = c.self.invariant.generations in omega (arith, within, most)) (rw (← c.self.view_is) at before)
