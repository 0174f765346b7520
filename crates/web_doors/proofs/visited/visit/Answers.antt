use Rattle.std.proofs.Common.{refl}
use Rattle.std.proofs.lemmas.Result.{err_from_is_err_and}
use Rattle.web_doors.proofs.VisitLaws.{failed_by, told_by, visit_told, visit_unanswered, visit_untold}
use Rattle.web_doors.proofs.visited.visit.Goals as goal

pub returns-in_err-push_all-in-Some-clause-fault : goal.returns-in_err-push_all-in-Some-clause-fault
returns-in_err-push_all-in-Some-clause-fault g c =
    let p = err_from_is_err_and c.from_residual-in_err-push_all-in-Some.result c.from_residual-in_err-push_all-in-Some.ensures.1 in
    rw (p.1, p.2)
    (visit_untold _ _ c.args.front.now _ _ c.in-Ok.heard c.in-Ok.ensures c.in-Some.text.items (rw c.in-Some.is at c.in_ok-answer.ensures)
    (failed_by _ _ c.push_all.result c.deref.result.now c.in_err-push_all-in-Some.field-0.0 c.push_all.ensures c.in_err-push_all-in-Some.was))

pub returns-in-None-clause-visit : goal.returns-in-None-clause-visit
returns-in-None-clause-visit g c = visit_unanswered _ _ c.args.front.now _ _ c.in-Ok.heard c.in-Ok.ensures c.unanswered.result (rw c.in-None.is at c.in_ok-answer.ensures) c.unanswered.ensures refl

pub returns-in_ok-push_all-in-Some-clause-visit : goal.returns-in_ok-push_all-in-Some-clause-visit
returns-in_ok-push_all-in-Some-clause-visit g c =
    visit_told _ _ c.args.front.now _ _ c.in-Ok.heard c.in-Ok.ensures c.in-Some.text.items (rw c.in-Some.is at c.in_ok-answer.ensures)
    (told_by _ _ c.push_all.result c.deref.result.now c.in-Some.text.items c.in_ok-push_all-in-Some.field-0 c.push_all.ensures c.in_ok-push_all-in-Some.was c.deref.ensures.value)
