use Rattle.std.proofs.Common.{length, map}
use Rattle.kept_records.proofs.Steps.{IsReadTo}
use Rattle.kept_records.proofs.reading.read_records.Given as goal

abbrev pub invariant-loop-body : goal.invariant-loop-body
invariant-loop-body l = IsReadTo l.bytes (map (λ v. v.items) l.bodies.items) l.rest

abbrev pub decreases-loop-body : goal.decreases-loop-body
decreases-loop-body l = length l.rest
