use Rattle.std.proofs.Common.{◌≡◌, ◌<◌, ◌∙◌, ℕ, List, Option, Some, ap, refl, sym, subst, length, get_or, slice_get, slice_set}
use Rattle.std.proofs.lemmas.Option.{get_or_from_slice_get, slice_get_read}
use Rattle.chairs.specs.declared.chair.Chair.{Chair}
use Rattle.chairs.specs.declared.chair.Chair.TheVariants.{Left, Taken}
use Rattle.chairs.specs.Turns.{PlanState, Sits, leave_number, once_left}
use Rattle.chairs.proofs.KeyLaws.{apart_left}
use Rattle.chairs.proofs.plan.Plan.leave.Goals as goal

-- who sits at a chair is whom a reading of it tells
read_sits : (plan : PlanState) (chairs : List Chair) (at : ℕ) (chair : Chair) (page : Option (List ℕ)) → chairs ≡ plan.chairs → chair ≡ get_or chairs at chair → Sits plan.chairs at page → chair ≡ Taken page
read_sits plan chairs at chair page same is sits = is ∙ get_or_from_slice_get chairs at (Taken page) chair (ap (λ (xs : List Chair). slice_get xs at) same ∙ sits)

-- whom a reading of a chair tells sits there
sits_read : (plan : PlanState) (chairs : List Chair) (at : ℕ) (chair : Chair) (page : Option (List ℕ)) → chairs ≡ plan.chairs → at < length plan.chairs → chair ≡ get_or chairs at chair → chair ≡ Taken page → Sits chairs at page
sits_read plan chairs at chair page same lt is taken =
    slice_get_read chairs (length chairs) at chair refl (subst (λ (xs : List Chair). at < length xs) (sym same) lt) is ∙ ap Some taken

-- both readings and both numbers are one
leaves : (now : ℕ) (plan : PlanState) (at number : ℕ) (own page : Option (List ℕ)) → number ≡ leave_number plan.leavings → Taken own ≡ Taken page
    → record { chairs = slice_set plan.chairs at (Left (record { number = number; time = now; page = own })); leavings = number } ≡ once_left now plan at page
leaves now plan at number own page counted taken = ap left_as counted ∙ ap (once_left now plan at) one
  where
    one : own ≡ page
    one = cc

    left_as : ℕ → PlanState
    left_as n = record { chairs = slice_set plan.chairs at (Left (record { number = n; time = now; page = own })); leavings = n }

pub invariant_of-self : goal.invariant_of-self
invariant_of-self c =
    let same : c.self.inside.chairs.items ≡ c.args.self.now.chairs = ap (λ (p : PlanState). p.chairs) c.self.view_is in
    apart_left c.self.inside.chairs.items c.args.at (record { number = c.saturating_add-self-inside.result; time = c.args.now; page = c.in-Taken.page })
    (sits_read c.args.self.now c.self.inside.chairs.items c.args.at c.index.result.now c.in-Taken.page same c.requires c.index.ensures c.in-Taken.is) c.self.invariant

pub returns-in-Taken-clause-left : goal.returns-in-Taken-clause-left
returns-in-Taken-clause-left c = λ page sits.
    let inside : PlanState = record { chairs = c.self.inside.chairs.items; leavings = c.self.inside.leavings } in
    let same : c.self.inside.chairs.items ≡ c.args.self.now.chairs = ap (λ (p : PlanState). p.chairs) c.self.view_is in
    let told : c.index.result.now ≡ Taken page = read_sits c.args.self.now c.self.inside.chairs.items c.args.at c.index.result.now page same c.index.ensures sits in
    leaves c.args.now inside c.args.at c.saturating_add-self-inside.result c.in-Taken.page page c.saturating_add-self-inside.ensures (sym c.in-Taken.is ∙ told)
    ∙ ap (λ (p : PlanState). once_left c.args.now p c.args.at page) c.self.view_is

pub returns-in-Taken-clause-same : goal.returns-in-Taken-clause-same
returns-in-Taken-clause-same c = λ free.
    let same : c.self.inside.chairs.items ≡ c.args.self.now.chairs = ap (λ (p : PlanState). p.chairs) c.self.view_is in
    absurd (free c.in-Taken.page (subst (λ (xs : List Chair). Sits xs c.args.at c.in-Taken.page) same
    (sits_read c.args.self.now c.self.inside.chairs.items c.args.at c.index.result.now c.in-Taken.page same c.requires c.index.ensures c.in-Taken.is)))

pub returns-in_default : goal.returns-in_default
returns-in_default c =
    let same : c.self.inside.chairs.items ≡ c.args.self.now.chairs = ap (λ (p : PlanState). p.chairs) c.self.view_is in
    record {
      left = λ page sits. absurd (c.in_default.not-Taken page (read_sits c.args.self.now c.self.inside.chairs.items c.args.at c.index.result.now page same c.index.ensures sits));
      same = λ free. refl;
    }
