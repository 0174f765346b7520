use Rattle.std.proofs.Common.{subst, sym}
use Rattle.std.specs.Prelude.{IfOk, Result}
use Rattle.stamped_tree.specs.Plane.{map_of}
use Rattle.generation_engine.specs.Universe.{states_in_writes}
use Rattle.export.specs.Asking.{IsCut}
use Rattle.export.specs.Export.{IsExport, most_cells}
use Rattle.replica_core.specs.declared.event.Question.{Question}
use Rattle.replica_core.specs.declared.event.Question.TheVariants as questions
use Rattle.replica_core.specs.declared.event.Reply.{Reply}
use Rattle.replica_core.specs.declared.event.Stop.{Stop}
use Rattle.replica_core.specs.Exporting.{Tells}
use Rattle.replica_core.proofs.TellLaws.{tells_text}
use Rattle.replica_core.proofs.replica.told_by_tiles.Goals as goal

pub returns-in_ok-answer-in-Export-clause-told : goal.returns-in_ok-answer-in-Export-clause-told
returns-in_ok-answer-in-Export-clause-told c =
    let r = c.args.rule.now in
    let f = states_in_writes (map_of c.args.plane.now) in
    let g = c.in-Export.generation in
    subst (λ (q : Question). IfOk c.text_reply.result (Tells r f q)) (sym c.in-Export.is)
    (subst (λ (x : Result Reply Stop). IfOk x (Tells r f (questions.Export g))) (sym c.text_reply.ensures)
    (tells_text (IsExport r f g most_cells) g c.in_ok-answer-in-Export.answer c.in_ok-answer-in-Export.ensures.text c.in_ok-answer-in-Export.ensures.err))

pub returns-in_ok-answer-in-Cut-clause-told : goal.returns-in_ok-answer-in-Cut-clause-told
returns-in_ok-answer-in-Cut-clause-told c =
    let r = c.args.rule.now in
    let f = states_in_writes (map_of c.args.plane.now) in
    let cut = c.in-Cut.cut in
    subst (λ (q : Question). IfOk c.text_reply-in-Cut.result (Tells r f q)) (sym c.in-Cut.is)
    (subst (λ (x : Result Reply Stop). IfOk x (Tells r f (questions.Cut cut))) (sym c.text_reply-in-Cut.ensures)
    (tells_text (IsCut r f cut.window cut.generation most_cells) cut.generation c.in_ok-answer-in-Cut.answer c.in_ok-answer-in-Cut.ensures.text c.in_ok-answer-in-Cut.ensures.err))
