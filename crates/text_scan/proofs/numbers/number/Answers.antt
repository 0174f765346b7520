use Rattle.std.proofs.Common.{◌≡◌, ◌<◌, ℕ, arith, length, ◌+◌, get_or, sym, ◌∙◌, true}
use Rattle.text_scan.specs.Bytes.{is_decimal_digit}
use Rattle.text_scan.proofs.NumberLemmas.{too_great, past_most, within_most, next_digit, all_digits_more}
use Rattle.text_scan.proofs.numbers.number.Goals as goal

pub returns-in_err-number : goal.returns-in_err-number
returns-in_err-number c =
    let i : ℕ = c.loop-digit.digit-index in
    let within : i < length c.args.digits.now = c.loop-digit-test.true in
    let digit : is_decimal_digit (get_or c.args.digits.now i 0) ≡ true = cc in
    let next = next_digit c.args.digits.now i c.loop-digit.number within digit c.loop-digit.invariant.value_is in
    let past = past_most c.args.most _ (sym c.in_err-number.ensures) in
    rw c.from_residual.ensures (sym (too_great c.args.most c.args.digits.now (i + 1) (omega (arith, next, past))))

pub loop-digit-preserved : goal.loop-digit-preserved
loop-digit-preserved c =
    let i : ℕ = c.loop-digit.digit-index in
    let within : i < length c.args.digits.now = c.loop-digit-test.true in
    let digit : is_decimal_digit (get_or c.args.digits.now i 0) ≡ true = cc in
    let next = next_digit c.args.digits.now i c.loop-digit.number within digit c.loop-digit.invariant.value_is in
    let small = within_most c.args.most _ _ (sym c.in_ok-number.ensures) in
    record {
      value_is = small.0 ∙ sym next;
      digits_are = all_digits_more c.args.digits.now i within c.loop-digit.invariant.digits_are digit;
      small = omega (arith, small.0, small.1);
    }
