use Rattle.std.proofs.Common.{◌≤◌}
use Rattle.std.specs.Prelude.{Some, None}
use Rattle.multistate_rle.specs.Reading.{fresh}
use Rattle.multistate_rle.specs.Steps.{Begins}
use Rattle.multistate_rle.proofs.ahead.digits_from.Given as goal

abbrev pub invariant-loop-place : goal.invariant-loop-place
invariant-loop-place l = record {
  begins : Begins l.text l.start fresh l.place (record { place = Some l.start; count = Some l.count; prefix = None });
  count : l.count ≤ 4294967297;
}
