use Rattle.std.proofs.Common.{◌∙◌, ap, refl, subst}
use Rattle.chairs.specs.Turns.{NoTurnComes, PlanState}
use Rattle.chairs.proofs.KeyLaws.{apart_taken}
use Rattle.chairs.proofs.plan.Plan.take.Goals as goal

pub invariant_of-self : goal.invariant_of-self
invariant_of-self c = apart_taken c.self.inside.chairs.items c.in-Some.at c.self.invariant

pub returns-in-None-clause-none : goal.returns-in-None-clause-none
returns-in-None-clause-none c =
    (subst (NoTurnComes c.args.now) (c.deref.ensures.value ∙ ap (λ (p : PlanState). p.chairs) c.self.view_is) (λ at turn has. c.in-None.ensures at turn has), refl)
