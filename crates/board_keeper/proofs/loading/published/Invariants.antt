use Rattle.std.proofs.Common.{◌≡◌, []}
use Rattle.relay_board.specs.Same.{Same}
use Rattle.board_keeper.proofs.loading.published.Given as goal

-- nothing was published or taken yet
abbrev pub invariant-loop : goal.invariant-loop
invariant-loop g l = Same l.fn.relay l.relay × (l.relay.list ≡ l.fn.relay.list) × (l.relay.kept ≡ [])
