use Rattle.std.proofs.Common.{◌≡◌, [], length, map}
use Rattle.board.specs.Entries.{edits_of}
use Rattle.document_bodies.specs.Counters.{AreNewestOf}
use Rattle.relay_board.specs.Same.{Same}
use Rattle.relay_board.specs.Seating.{IsSame}
use Rattle.board_keeper.specs.Loading.{AreGood}
use Rattle.board_keeper.proofs.loading.load.Given as goal

-- the bodies so far are loaded
abbrev pub invariant-loop-at : goal.invariant-loop-at
invariant-loop-at g l = record {
  same : Same l.fn.relay l.relay;
  file : IsSame l.fn.file l.file × (l.file.handed ≡ l.fn.file.handed);
  count : length l.relay.list ≡ l.at;
  mine : l.file.mine ≡ l.relay.list;
  kept : l.relay.kept ≡ [];
  good : AreGood l.document.rule.now (map (λ v. v.items) l.document.bodies.now) l.at (edits_of l.relay.list);
  counters : AreNewestOf (edits_of l.relay.list) l.newest;
}
