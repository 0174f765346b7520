use Rattle.std.proofs.Common.{◌≡◌, length}
use Rattle.typed_commands.specs.Refusals.{refusal_behind, refusal_in}
use Rattle.typed_commands.proofs.refusals.refusal_in.Given as goal

-- what is left tells what all tells
abbrev pub invariant-loop-byte : goal.invariant-loop-byte
invariant-loop-byte l = refusal_behind l.rest ≡ refusal_in l.printed

abbrev pub decreases-loop-byte : goal.decreases-loop-byte
decreases-loop-byte l = length l.rest
