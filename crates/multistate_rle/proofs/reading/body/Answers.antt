use Rattle.std.proofs.Common.{◌∙◌, sym, inr, length, drop}
use Rattle.std.proofs.Common.{◌+◌}
use Rattle.std.specs.List.{enumerate_from}
use Rattle.multistate_rle.specs.Lines.{left}
use Rattle.multistate_rle.specs.declared.tokens.TokenReader.{TokenReader}
use Rattle.multistate_rle.proofs.BodyLemmas.{begins, passes, meets, not_moved, ends_well, ends_ill, answered, refused, refused_by}
use Rattle.multistate_rle.proofs.reading.body.Goals as goal

pub loop-place-init : goal.loop-place-init
loop-place-init c = begins _ _ c.new-reader.result c.new-reader.ensures

pub loop-place-preserved-then-drops : goal.loop-place-preserved-then-drops
loop-place-preserved-then-drops c =
    passes (length c.args.text.now) c.args.text.now c.loop-place.place c.loop-place.line c.after-line.result c.past_runs.new.reader c.loop-place-test.true c.after-line.ensures (sym c.if-drops.ensures)
    ∙ not_moved (length c.args.text.now) c.args.text.now c.loop-place.place c.in_ok-next.next c.loop-place.line c.loop-place.reader c.past_runs.new.reader c.in_ok-next.ensures c.if-next-place.false
    ∙ c.loop-place.invariant

pub loop-place-preserved : goal.loop-place-preserved
loop-place-preserved c =
    (rw c.in-Ok-Goes.field-0-is at c.in-Ok-Goes.ensures) (length c.args.text.now) (left c.after-line.result (enumerate_from (c.loop-place.place + 1) (drop (c.loop-place.place + 1) c.args.text.now)))
    ∙ meets (length c.args.text.now) c.args.text.now c.loop-place.place c.loop-place.line c.after-line.result c.past_runs.new.reader c.loop-place-test.true c.after-line.ensures (sym c.if-drops.ensures)
    ∙ not_moved (length c.args.text.now) c.args.text.now c.loop-place.place c.in_ok-next.next c.loop-place.line c.loop-place.reader c.past_runs.new.reader c.in_ok-next.ensures c.if-next-place.false
    ∙ c.loop-place.invariant

pub returns-in-Ok-Ends : goal.returns-in-Ok-Ends
returns-in-Ok-Ends c =
    answered (λ (reader : TokenReader). reader.cells.items) c.read.new.self _
    ((rw c.in-Ok-Ends.field-0-is at c.in-Ok-Ends.ensures) (length c.args.text.now) (left c.after-line.result (enumerate_from (c.loop-place.place + 1) (drop (c.loop-place.place + 1) c.args.text.now)))
    ∙ meets (length c.args.text.now) c.args.text.now c.loop-place.place c.loop-place.line c.after-line.result c.past_runs.new.reader c.loop-place-test.true c.after-line.ensures (sym c.if-drops.ensures)
    ∙ not_moved (length c.args.text.now) c.args.text.now c.loop-place.place c.in_ok-next.next c.loop-place.line c.loop-place.reader c.past_runs.new.reader c.in_ok-next.ensures c.if-next-place.false
    ∙ c.loop-place.invariant)

pub returns-in-Err : goal.returns-in-Err
returns-in-Err c =
    refused (λ (reader : TokenReader). reader.cells.items) c.in-Err.fault _
    (refused_by c.in-Err.ensures (λ said. said (length c.args.text.now) (left c.after-line.result (enumerate_from (c.loop-place.place + 1) (drop (c.loop-place.place + 1) c.args.text.now)))
    ∙ meets (length c.args.text.now) c.args.text.now c.loop-place.place c.loop-place.line c.after-line.result c.past_runs.new.reader c.loop-place-test.true c.after-line.ensures (sym c.if-drops.ensures)
    ∙ not_moved (length c.args.text.now) c.args.text.now c.loop-place.place c.in_ok-next.next c.loop-place.line c.loop-place.reader c.past_runs.new.reader c.in_ok-next.ensures c.if-next-place.false
    ∙ c.loop-place.invariant))

pub returns-in-Ok : goal.returns-in-Ok
returns-in-Ok c =
    answered (λ (reader : TokenReader). reader.cells.items) c.loop-place.reader _
    (sym (ends_well (length c.args.text.now) c.args.text.now c.loop-place.place c.loop-place.line c.loop-place.reader c.loop-place-test.false c.in-Ok.ensures) ∙ c.loop-place.invariant)

pub returns-in-Err-end : goal.returns-in-Err-end
returns-in-Err-end c =
    refused (λ (reader : TokenReader). reader.cells.items) c.in-Err-end.fault _
    (inr (sym (ends_ill (length c.args.text.now) c.args.text.now c.loop-place.place c.loop-place.line c.loop-place.reader c.in-Err-end.fault c.loop-place-test.false c.in-Err-end.ensures) ∙ c.loop-place.invariant))
