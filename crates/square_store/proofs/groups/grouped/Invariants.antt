use Rattle.std.proofs.Common.{map}
use Rattle.square_store.specs.Stored.{node_of}
use Rattle.square_store.proofs.Tables.{AreMetUpTo}
use Rattle.square_store.proofs.groups.grouped.Given as goal

abbrev pub invariant-loop-place : goal.invariant-loop-place
invariant-loop-place l = AreMetUpTo l.key l.groups.items l.heads (map node_of l.squares) l.place
