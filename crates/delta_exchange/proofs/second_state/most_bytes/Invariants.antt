use Rattle.std.proofs.Common.{◌+◌, ◌*◌, ◌≤◌}
use Rattle.delta_exchange.proofs.second_state.most_bytes.Given as goal

-- so many entries were counted
abbrev pub invariant-loop-number : goal.invariant-loop-number
invariant-loop-number l = l.bytes ≤ 13 + 577 * l.number
