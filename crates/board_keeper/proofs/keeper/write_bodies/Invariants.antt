use Rattle.std.proofs.Common.{◌≡◌, length}
use Rattle.board_keeper.specs.Kept.{AreMade}
use Rattle.board_keeper.proofs.keeper.write_bodies.Given as goal

abbrev pub invariant-loop-at : goal.invariant-loop-at
invariant-loop-at g l = AreMade l.rule l.relay.kept l.relay.ready l.bodies.items × (length l.bodies.items ≡ l.at)
