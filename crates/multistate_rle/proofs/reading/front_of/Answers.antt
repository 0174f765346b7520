use Rattle.std.proofs.Common.{◌∙◌, ◌+◌, ℕ, sym, ap, arith, length, drop}
use Rattle.std.specs.Prelude.{unwrap_or}
use Rattle.std.specs.List.{enumerate_from}
use Rattle.multistate_rle.specs.Position.{origin_from}
use Rattle.multistate_rle.specs.Reading.{lines_of, lines_read, body_read, or_else}
use Rattle.multistate_rle.proofs.HeaderLemmas.{header_small}
use Rattle.multistate_rle.proofs.LineLemmas.{line_at_step, comment_read, blank_read, header_is_read, no_header_read}
use Rattle.multistate_rle.proofs.reading.front_of.Goals as goal

pub loop-start-preserved-then-is_comment : goal.loop-start-preserved-then-is_comment
loop-start-preserved-then-is_comment c =
    let next : ℕ = c.loop-start.start + (length c.line_at-line.result.now + 1) in
    let step = line_at_step (length c.args.text.now) c.loop-start.origin c.args.text.now c.loop-start.start c.line_at-line.result.now next c.line_at-line.ensures.line (omega arith) in
    ap (λ o. lines_read (length c.args.text.now) o (lines_of (enumerate_from next (drop next c.args.text.now)))) (c.or-origin.ensures ∙ ap (or_else c.loop-start.origin) c.origin_of.ensures)
    ∙ sym (comment_read (length c.args.text.now) c.loop-start.origin c.line_at-line.result.now next (drop next c.args.text.now) (sym c.if-is_comment.ensures))
    ∙ sym step ∙ c.loop-start.invariant

pub returns-in_err-width : goal.returns-in_err-width
returns-in_err-width c =
    let next : ℕ = c.loop-start.start + (length c.line_at-line.result.now + 1) in
    let step = line_at_step (length c.args.text.now) c.loop-start.origin c.args.text.now c.loop-start.start c.line_at-line.result.now next c.line_at-line.ensures.line (omega arith) in
    rw c.from_residual.ensures
    (sym c.loop-start.invariant ∙ step ∙ no_header_read (length c.args.text.now) c.loop-start.origin c.line_at-line.result.now next (drop next c.args.text.now) (sym c.if-is_comment.ensures) (cc) (sym c.in_err-width.ensures))

pub returns-then-not-is_all_blank : goal.returns-then-not-is_all_blank
returns-then-not-is_all_blank c =
    let next : ℕ = c.loop-start.start + (length c.line_at-line.result.now + 1) in
    let step = line_at_step (length c.args.text.now) c.loop-start.origin c.args.text.now c.loop-start.start c.line_at-line.result.now next c.line_at-line.ensures.line (omega arith) in
    let small = header_small c.line_at-line.result.now (c.in_ok-width.width, c.in_ok-width.height) (sym c.in_ok-width.ensures) in (
      sym c.loop-start.invariant ∙ step
          ∙ header_is_read (length c.args.text.now) c.loop-start.origin c.line_at-line.result.now next (drop next c.args.text.now) (c.in_ok-width.width, c.in_ok-width.height) (sym c.if-is_comment.ensures) (cc) (sym c.in_ok-width.ensures)
          ∙ ap (λ o. body_read (length c.args.text.now) o (c.in_ok-width.width, c.in_ok-width.height) (lines_of (enumerate_from next (drop next c.args.text.now)))) (ap (unwrap_or c.loop-start.origin) (sym (c.origin.ensures ∙ ap origin_from c.new.ensures)) ∙ sym c.unwrap_or.ensures),
      small.0,
      small.1,
    )

pub loop-start-preserved : goal.loop-start-preserved
loop-start-preserved c =
    let next : ℕ = c.loop-start.start + (length c.line_at-line.result.now + 1) in
    let step = line_at_step (length c.args.text.now) c.loop-start.origin c.args.text.now c.loop-start.start c.line_at-line.result.now next c.line_at-line.ensures.line (omega arith) in
    sym (blank_read (length c.args.text.now) c.loop-start.origin c.line_at-line.result.now next (drop next c.args.text.now) (sym c.if-is_comment.ensures) (cc))
    ∙ sym step ∙ c.loop-start.invariant
