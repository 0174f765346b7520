use Rattle.std.proofs.Common.{refl}
use Rattle.std.proofs.lemmas.List.{nil_from_length}
use Rattle.documents.proofs.Distinct.{all_left, clash_found, left_on, none_left}
use Rattle.documents.proofs.set.clash_within.Goals as goal

pub loop-edit-init : goal.loop-edit-init
loop-edit-init c = all_left c.args.sorted.now c.args.sorted.now c.requires refl

pub returns-then-is_another_next-clause-some : goal.returns-then-is_another_next-clause-some
returns-then-is_another_next-clause-some c =
    clash_found c.args.sorted.now c.loop-edit.left.now c.in-Some.behind.now c.in-Some.edit.now c.stamp.result c.loop-edit.invariant c.in-Some.ensures.cases.0 (c.if-is_another_next.ensures.is refl) c.stamp.ensures

pub loop-edit-preserved : goal.loop-edit-preserved
loop-edit-preserved c =
    left_on c.args.sorted.now c.loop-edit.left.now c.in-Some.behind.now c.in-Some.edit.now c.loop-edit.invariant c.in-Some.ensures.cases.0 (c.if-is_another_next.ensures.none refl)

pub returns-clause-none : goal.returns-clause-none
returns-clause-none c none = none_left c.args.sorted.now c.loop-edit.left.now c.loop-edit.invariant (nil_from_length c.loop-edit.left.now c.in_default.ensures.cases)
