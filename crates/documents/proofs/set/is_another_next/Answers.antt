use Rattle.std.proofs.Common.{◌≡◌, Bool, true, false, refl, sym, ◌∙◌}
use Rattle.std.specs.Prelude.{not}
use Rattle.std.proofs.lemmas.Bool.{eqb-true}
use Rattle.documents.proofs.Distinct.{another_next, same_next}
use Rattle.documents.proofs.Walks.{one_edit, two_edits}
use Rattle.documents.proofs.set.is_another_next.Goals as goal

told_false : (b : Bool) → not b ≡ true → b ≡ false
told_false true e = absurd (cc)
told_false false e = refl

told_true : (b : Bool) → not b ≡ false → b ≡ true
told_true true e = refl
told_true false e = absurd (cc)

pub returns-then-eq-clause-is : goal.returns-then-eq-clause-is
returns-then-eq-clause-is c other =
    another_next c.args.edit.now c.in-Some.next.now c.args.behind.now c.in-Some.ensures.value
    (sym c.stamp.ensures ∙ eqb-true c.stamp.result c.stamp-in-Some.result (sym c.if-eq.ensures) ∙ c.stamp-in-Some.ensures)
    (two_edits c.in-Some.next.now c.args.edit.now (sym c.same.ensures ∙ told_false c.same.result other))

pub returns-then-eq-clause-none : goal.returns-then-eq-clause-none
returns-then-eq-clause-none c one =
    same_next c.args.edit.now c.in-Some.next.now c.args.behind.now c.in-Some.ensures.value
    (one_edit c.in-Some.next.now c.args.edit.now (sym c.same.ensures ∙ told_true c.same.result one))
