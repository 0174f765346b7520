use Rattle.std.proofs.Common.{ap, sym, subst, Result}
use Rattle.document_pen.specs.declared.fault.PenFault.{PenFault}
use Rattle.document_pen.specs.Drawing.{IsTaken}
use Rattle.document_pen.specs.Pen.{PenState}
use Rattle.document_pen.proofs.PenLaws.{finds_no_room, holds, stays}
use Rattle.document_pen.proofs.pen.Pen.take.Goals as goal
use Rattle.document_pen.proofs.pen.Pen.take.Goals.{in-Ok, in-Err-StoreFull, in-Err}

pub returns-clause-taken : goal.returns-clause-taken
returns-clause-taken g c =
    elim c.match-take_edits.branch [
      | in-Ok w ↦ subst (λ (x : Result (Unit {0}) PenFault). IsTaken c.args.edit.now c.args.self.now.replica c.take_edits.new.self x) (sym w.result-is) (holds _ _ _ _ _ c.from_ref.ensures.value (ap (λ (p : PenState). p.replica) c.self.view_is) w.in-Ok.ensures)
      | in-Err-StoreFull w ↦ subst (λ (x : Result (Unit {0}) PenFault). IsTaken c.args.edit.now c.args.self.now.replica c.take_edits.new.self x) (sym w.result-is) (finds_no_room _ _ _ _ _ c.from_ref.ensures.value (ap (λ (p : PenState). p.replica) c.self.view_is) _ w.in-Err-StoreFull.field-0-is w.in-Err-StoreFull.ensures)
      | in-Err w ↦ subst (λ (x : Result (Unit {0}) PenFault). IsTaken c.args.edit.now c.args.self.now.replica c.take_edits.new.self x) (sym w.result-is) (stays _ _ _ _ _ c.from_ref.ensures.value (ap (λ (p : PenState). p.replica) c.self.view_is) _ w.in-Err.ensures)
    ]
