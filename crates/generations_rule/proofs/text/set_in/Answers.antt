use Rattle.std.proofs.Common.{◌<◌, ℕ, arith, length}
use Rattle.generations_rule.proofs.SetLaws.{set_more}
use Rattle.generations_rule.proofs.text.set_in.Goals as goal

pub loop-digit-preserved : goal.loop-digit-preserved
loop-digit-preserved c =
    let at : ℕ = c.loop-digit.digit-index in
    let within : at < length c.args.digits.now = c.loop-digit-test.true in
    let digit = c.requires at 0 within in
    let value = c.from.ensures in
    set_more c.args.digits.now at c.from.result c.loop-digit.set within (omega arith) (omega arith) c.loop-digit.invariant
