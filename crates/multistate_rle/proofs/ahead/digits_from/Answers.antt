use Rattle.std.proofs.Common.{◌∙◌, refl, sym, arith}
use Rattle.multistate_rle.proofs.RunLemmas.{count_begins, count_goes_on, counted}
use Rattle.multistate_rle.proofs.ahead.digits_from.Goals as goal

pub loop-place-init : goal.loop-place-init
loop-place-init c = record {
  begins = count_begins c.args.text.now c.args.start _ _ c.requires.within refl c.requires.digit c.from-count.ensures;
  count = rw c.from-count.ensures (omega arith);
}

pub loop-place-preserved : goal.loop-place-preserved
loop-place-preserved c = record {
  begins = count_goes_on c.args.text.now c.args.start c.loop-place.place _ c.loop-place.count _ c.loop-place.invariant.begins c.loop-place-test.true refl (sym c.is_ascii_digit.ensures.value ∙ c.if-not-is_ascii_digit.false) c.longer_count-count.ensures;
  count = rw c.longer_count-count.ensures (omega arith);
}

pub returns-clause-front : goal.returns-clause-front
returns-clause-front c = counted c.args.text.now c.args.start c.loop-place.place _ c.loop-place.count c.loop-place.invariant.begins (omega (arith, c.loop-place.invariant.begins.within, c.loop-place-test.false))
