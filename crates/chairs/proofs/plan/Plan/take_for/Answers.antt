use Rattle.std.proofs.Common.{◌≡◌, ◌∙◌, List, ap, refl, subst, sym, slice_set, Some}
use Rattle.chairs.specs.declared.chair.Chair.{Chair}
use Rattle.chairs.specs.declared.chair.Chair.TheVariants.{Taken}
use Rattle.chairs.specs.Turns.{NoTurnComes, PlanState}
use Rattle.chairs.specs.Pages.{AreApart, IsFor, IsNowhere, IsOnlyAt, chair_of}
use Rattle.chairs.proofs.KeyLaws.{apart_page, page_only}
use Rattle.chairs.proofs.plan.Plan.take_for.Goals as goal

pub invariant_of-self : goal.invariant_of-self
invariant_of-self c =
    let is : IsFor c.args.now c.self.inside.chairs.items c.args.key c.in-Some.place = subst (λ (chairs : List Chair). IsFor c.args.now chairs c.args.key c.in-Some.place) c.deref.ensures.value c.in-Some.ensures.given in
    subst (λ at. AreApart (slice_set c.self.inside.chairs.items at (Taken (Some c.args.key)))) (sym c.chair.ensures)
    (apart_page c.args.now c.self.inside.chairs.items c.args.key c.in-Some.place c.self.invariant is)

pub returns-in-None-clause-none : goal.returns-in-None-clause-none
returns-in-None-clause-none c =
    let same : c.deref.result.now ≡ c.args.self.now.chairs = c.deref.ensures.value ∙ ap (λ (p : PlanState). p.chairs) c.self.view_is in (
      subst (λ (chairs : List Chair). IsNowhere chairs c.args.key) same (c.in-None.ensures.none.0),
      (subst (NoTurnComes c.args.now) same (c.in-None.ensures.none.1), refl),
    )

pub returns-in-Some-clause-only : goal.returns-in-Some-clause-only
returns-in-Some-clause-only c =
    let is : IsFor c.args.now c.self.inside.chairs.items c.args.key c.in-Some.place = subst (λ (chairs : List Chair). IsFor c.args.now chairs c.args.key c.in-Some.place) c.deref.ensures.value c.in-Some.ensures.given in
    subst (λ at. IsOnlyAt (slice_set c.self.inside.chairs.items at (Taken (Some c.args.key))) (chair_of c.in-Some.place) c.args.key) (sym c.chair.ensures)
    (page_only c.args.now c.self.inside.chairs.items c.args.key c.in-Some.place c.self.invariant is)
