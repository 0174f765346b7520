use Rattle.std.proofs.Common.{refl, sym, List, subst}
use Rattle.edit_stamps.specs.Edit.{PlaneEdit}
use Rattle.documents.specs.Walk.{IsFirstEdit}
use Rattle.documents.proofs.Walks.{IsWalked, all_walked, walked_on}
use Rattle.documents.proofs.union.union_of.Goals as goal

pub loop-step-preserved : goal.loop-step-preserved
loop-step-preserved c = subst (λ (l : List PlaneEdit). IsWalked c.args.first.now c.args.second.now l c.in-Some.step.left.now c.in-Some.step.right.now) (sym c.in_ok-push.ensures.items)
    (walked_on c.args.first.now c.args.second.now c.loop-step.all.items c.loop-step.left.now c.loop-step.right.now c.in-Some.step.left.now c.in-Some.step.right.now c.in-Some.step.next c.in_ok-copy.field-0
    c.requires.agree c.loop-step.invariant c.in-Some.ensures.some (subst (IsFirstEdit c.in-Some.step.next) (sym c.in_ok-copy.ensures) c.edit.ensures))

pub returns : goal.returns
returns c =
    let ends = c.in_default.ensures.none refl in
    all_walked c.args.first.now c.args.second.now c.loop-step.all.items c.loop-step.left.now c.loop-step.right.now c.requires.first c.requires.second c.requires.agree c.loop-step.invariant ends.0 ends.1
