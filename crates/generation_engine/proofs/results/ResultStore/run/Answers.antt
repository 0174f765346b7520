use Rattle.generation_engine.proofs.Universes.{digit_run, no_digit_run, run_as, all_digits}
use Rattle.generation_engine.proofs.results.ResultStore.run.Goals.{then-has_digit+in_ok-later, else-has_digit}
use Rattle.generation_engine.proofs.results.ResultStore.run.Goals as goal

pub loop-exponent-preserved : goal.loop-exponent-preserved
loop-exponent-preserved c =
    let digit = c.has_digit.ensures in
    elim c.if-has_digit.branch [
      | then-has_digit+in_ok-later w ↦ rw (w.self-is, w.later-is) (digit_run c.args.self.now c.loop-exponent.self w.stepped.new.self c.args.generations c.loop-exponent.exponent c.args.root c.loop-exponent.later _ c.has_digit.result w.if-has_digit.true digit c.loop-exponent.invariant w.in_ok-later.ensures.grows w.in_ok-later.ensures.run)
      | else-has_digit w ↦ rw (w.self-is, w.later-is) (no_digit_run c.args.self.now c.loop-exponent.self c.args.generations c.loop-exponent.exponent c.args.root c.loop-exponent.later c.has_digit.result w.if-has_digit.false digit c.loop-exponent.invariant)
    ]

pub returns-clause-run : goal.returns-clause-run
returns-clause-run c = run_as c.args.self.now c.loop-exponent.self _ _ c.args.root c.loop-exponent.later (all_digits c.args.generations c.loop-exponent.exponent c.requires.few c.loop-exponent-test.false c.loop-exponent.auto.exponent-end) c.loop-exponent.invariant.1
