use Rattle.std.proofs.Common.{◌≡◌, ◌+◌, ℕ, List, length, sym, subst, arith}
use Rattle.std.proofs.lemmas.Result.{err_from_is_err_and}
use Rattle.edit_stamps.specs.Edit.{PlaneEdit}
use Rattle.document_bodies.specs.Bodies.{AreEditsUnder}
use Rattle.documents.specs.Reading.{IsBodyRefused}
use Rattle.documents.proofs.Bodies.{first_refused, one_told}
use Rattle.documents.proofs.Under.{under_push}
use Rattle.documents.proofs.reading.edits_in.Goals as goal

pub returns-in_err-edit-clause-told : goal.returns-in_err-edit-clause-told
returns-in_err-edit-clause-told c =
    let p = err_from_is_err_and c.from_residual.result c.from_residual.ensures.1 in
    let long : c.len.result ≡ length c.loop-body.edits.items = grind arith in
    rw (p.1, p.2)
    (first_refused c.args.rule.now c.args.bytes.now c.loop-body.edits.items c.loop-body.rest.now c.in-Some.body.now c.in-Some.behind.now c.in_err-edit.field-0.0
    c.loop-body.invariant.told c.in-Some.ensures.some.0 c.in-Some.ensures.some.1
    (subst (λ (n : ℕ). IsBodyRefused c.args.rule.now c.in-Some.body.now (n + 1) c.in_err-edit.field-0.0) long c.in_err-edit.ensures.told))

pub loop-body-preserved : goal.loop-body-preserved
loop-body-preserved c = record {
  under = subst (λ (l : List PlaneEdit). AreEditsUnder c.args.rule.now l) (sym c.in_ok-push.ensures.items) (under_push c.args.rule.now c.loop-body.edits.items c.in_ok-edit.edit c.loop-body.invariant.under c.in_ok-edit.ensures.under);
  told = one_told c.args.rule.now c.args.bytes.now c.loop-body.edits.items c.push.new.self.items c.loop-body.rest.now c.in-Some.body.now c.in-Some.behind.now c.in_ok-edit.edit
      c.loop-body.invariant.told c.in-Some.ensures.some.0 c.in-Some.ensures.some.1 c.in_ok-edit.ensures.told c.in_ok-push.ensures.items;
}
