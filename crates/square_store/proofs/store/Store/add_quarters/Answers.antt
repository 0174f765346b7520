use Rattle.std.proofs.Common.{◌≡◌, ◌-◌, ◌∙◌, sym, ap, subst, Err, true, false}
use Rattle.square_store.specs.Store.{IsStore}
use Rattle.square_store.proofs.Places.{at_within, side_some}
use Rattle.square_store.proofs.Made.{one_blank_draws, four_draws, four_absent, four_summed, pushed_there, pushed_extends, pushed_grown, pushed_added, pushed_firsts, told}
use Rattle.square_store.proofs.store.Store.add_quarters.Goals as goal

pub returns-then-are_one_blank-clause-draws : goal.returns-then-are_one_blank-clause-draws
returns-then-are_one_blank-clause-draws g c = one_blank_draws g.L.LeafKind.write g.L.LeafKind.side _ _ _ _ _ _ (c.are_one_blank.ensures.0 c.if-are_one_blank.true)

pub returns-in-Some-clause-draws : goal.returns-in-Some-clause-draws
returns-in-Some-clause-draws g c =
    four_draws g.L.LeafKind.write g.L.LeafKind.side g.L.LeafKind.IsLeaf c.args.self.now (rw c.self.view_is at c.self.invariant.0.canonical) g.met.L.LeafKind.some g.met.L.LeafKind.exact c.args.self.now
    (record { leaves = λ q l at. at; squares = λ p x at. at }) _ _ _ _ _ _ c.requires c.in-Some.ensures.some

pub summary-requires : goal.summary-requires
summary-requires g c = at_within _ _ _ c.requires.nw

pub summary-requires-2 : goal.summary-requires-2
summary-requires-2 g c = at_within _ _ _ c.requires.ne

pub summary-requires-3 : goal.summary-requires-3
summary-requires-3 g c = at_within _ _ _ c.requires.sw

pub summary-requires-4 : goal.summary-requires-4
summary-requires-4 g c = at_within _ _ _ c.requires.se

pub push-requires-clause-summed : goal.push-requires-clause-summed
push-requires-clause-summed g c = four_summed g.L.LeafKind.write g.L.LeafKind.side g.L.LeafKind.IsSummary _ _ _ _ _ _ _ c.requires.level
    (c.summary_of_four-summary.ensures _ _ _ _ _ (side_some g.L.LeafKind.write g.L.LeafKind.side g.L.LeafKind.IsLeaf c.args.self.now (rw c.self.view_is at c.self.invariant.0.canonical) g.met.L.LeafKind.some (c.args.level - 1))
    (c.summary.ensures _ c.requires.nw) (c.summary-2.ensures _ c.requires.ne) (c.summary-3.ensures _ c.requires.sw) (c.summary-4.ensures _ c.requires.se))

pub returns-in_err-part-clause-full : goal.returns-in_err-part-clause-full
returns-in_err-part-clause-full g c = λ h. record {
  full = c.in_err-part.ensures.full (ap (λ e. Err e) (told _ _ _ c.from_residual.ensures.1 h));
  absent = four_absent g.L.LeafKind.write g.L.LeafKind.side g.L.LeafKind.IsLeaf _ (rw c.self.view_is at c.self.invariant.0.canonical) g.met.L.LeafKind.some g.met.L.LeafKind.exact _ _ _ _ _
      (c.requires, λ one. never (sym c.if-are_one_blank.false ∙ c.are_one_blank.ensures.1 one)) c.in_default.ensures.none;
}
  where
    never : false ≡ true → ⊥
    never z = cc

pub returns-in_err-part-clause-memory : goal.returns-in_err-part-clause-memory
returns-in_err-part-clause-memory g c = λ h. record {
  room = c.in_err-part.ensures.memory (ap (λ e. Err e) (told _ _ _ c.from_residual.ensures.1 h));
  absent = four_absent g.L.LeafKind.write g.L.LeafKind.side g.L.LeafKind.IsLeaf _ (rw c.self.view_is at c.self.invariant.0.canonical) g.met.L.LeafKind.some g.met.L.LeafKind.exact _ _ _ _ _
      (c.requires, λ one. never (sym c.if-are_one_blank.false ∙ c.are_one_blank.ensures.1 one)) c.in_default.ensures.none;
}
  where
    never : false ≡ true → ⊥
    never z = cc

pub returns-clause-draws : goal.returns-clause-draws
returns-clause-draws g c =
    four_draws g.L.LeafKind.write g.L.LeafKind.side g.L.LeafKind.IsLeaf c.args.self.now (rw c.self.view_is at c.self.invariant.0.canonical) g.met.L.LeafKind.some g.met.L.LeafKind.exact _
    (pushed_extends g.L.LeafKind.write g.L.LeafKind.side _ _ _ _ c.in_ok-part.ensures.pushed) _ _ _ _ _ _ c.requires (pushed_there g.L.LeafKind.write g.L.LeafKind.side _ _ _ _ c.in_ok-part.ensures.pushed)

pub returns-clause-added : goal.returns-clause-added
returns-clause-added g c = pushed_added g.L.LeafKind.write g.L.LeafKind.side _ _ _ _ c.in_ok-part.ensures.pushed c.args.level _
    (four_absent g.L.LeafKind.write g.L.LeafKind.side g.L.LeafKind.IsLeaf _ (rw c.self.view_is at c.self.invariant.0.canonical) g.met.L.LeafKind.some g.met.L.LeafKind.exact _ _ _ _ _
    (c.requires, λ one. never (sym c.if-are_one_blank.false ∙ c.are_one_blank.ensures.1 one)) c.in_default.ensures.none)
  where
    never : false ≡ true → ⊥
    never z = cc

pub returns-clause-grows : goal.returns-clause-grows
returns-clause-grows g c = pushed_grown g.L.LeafKind.write g.L.LeafKind.side _ _ _ _ c.in_ok-part.ensures.pushed g.L.LeafKind.IsLeaf (subst (λ s. IsStore g.L.LeafKind.write g.L.LeafKind.side g.L.LeafKind.IsLeaf s) c.self.view_is c.self.invariant.0)

pub returns-clause-firsts : goal.returns-clause-firsts
returns-clause-firsts g c = pushed_firsts g.L.LeafKind.write g.L.LeafKind.side _ _ _ _ c.in_ok-part.ensures.pushed
