use Rattle.std.proofs.Common.{arith, refl}
use Rattle.documents.proofs.Gathers.{gathered_more}
use Rattle.documents.proofs.gathering.edits_among.Goals as goal

pub loop-start-preserved : goal.loop-start-preserved
loop-start-preserved c = record {
  gathered = gathered_more c.args.rule.now c.args.bytes.now c.loop-start.edits.items c.push_told.new.edits.items c.in_ok-push_told.ensures.told.0 c.loop-start.from c.loop-start.read c.loop-start.records c.in-Some.start _ _ _ c.in-Some.body.now
      c.loop-start.invariant.gathered c.in-Some.ensures.some c.in_ok-push_told.ensures.told.1 c.in_ok-push_told.ensures.told.2 (omega arith) refl refl;
  under = c.in_ok-push_told.ensures.under c.loop-start.invariant.under;
  read = omega (arith, c.loop-start.invariant.read, c.in-Some.ensures.some.behind);
  records = omega (arith, c.loop-start.invariant.records, c.in-Some.ensures.some.behind);
  within = omega (arith, c.in-Some.ensures.within);
}
