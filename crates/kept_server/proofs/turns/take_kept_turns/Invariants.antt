use Rattle.kept_server.specs.Running.{IsAmid}
use Rattle.kept_server.proofs.turns.take_kept_turns.Given as goal

-- some turns were taken
abbrev pub invariant-loop : goal.invariant-loop
invariant-loop g l = IsAmid l.fn.keeper l.keeper
