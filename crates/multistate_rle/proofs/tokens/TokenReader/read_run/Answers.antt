use Rattle.std.proofs.Common.{◌<◌, sym, refl, arith, length}
use Rattle.multistate_rle.proofs.BodyLemmas.{refused_by}
use Rattle.multistate_rle.proofs.RunLemmas.{run_is_read, run_is_faulty}
use Rattle.multistate_rle.proofs.tokens.TokenReader.read_run.Goals as goal

pub returns-in-Ok-clause-reads : goal.returns-in-Ok-clause-reads
returns-in-Ok-clause-reads c =
    let front = c.token_at-ahead.ensures.front in
    let place = c.token_at-ahead.result.place in
    let within : c.token_at-ahead.result.place < length c.args.text.now = omega (arith, front.begins.within, c.if-place-text.false) in (
      omega (arith, front.begins.behind),
      omega arith,
      λ end. run_is_read end c.args.text.now c.args.start place _ _ c.in-State.state _ c.args.self.now c.draw_run.new.self front c.requires.begun within refl (sym c.in-State.ensures) c.in-Ok.ensures.0 c.in-Ok.ensures.1,
    )

pub returns-in-Err-clause-reads : goal.returns-in-Err-clause-reads
returns-in-Err-clause-reads c =
    let front = c.token_at-ahead.ensures.front in
    let place = c.token_at-ahead.result.place in
    let within : c.token_at-ahead.result.place < length c.args.text.now = omega (arith, front.begins.within, c.if-place-text.false) in
    refused_by c.in-Err.ensures (λ faulty end.
    run_is_faulty end c.args.text.now c.args.start place _ _ c.in-State.state _ c.args.self.now c.in-Err.fault front c.requires.begun within refl (sym c.in-State.ensures) faulty)
