use Rattle.std.proofs.Common.{◌≡◌, List, ℕ, ◌++◌}
use Rattle.std.specs.Slice.Iter.{chunks_rest, chunks_size}
use Rattle.message_frames.specs.Frames.{most_body}
use Rattle.session_hub.specs.Replies.{IsInPieces}
use Rattle.replica_sessions.proofs.pieces.in_pieces.Given as goal

-- the pieces so far with those of what is left
abbrev pub invariant-loop-piece : goal.invariant-loop-piece
invariant-loop-piece l = record {
  size : chunks_size l.piece-iterator ≡ most_body;
  cut : (later : List (List ℕ)) → IsInPieces (chunks_rest l.piece-iterator) later → IsInPieces l.text (l.pieces.items ++ later);
}
