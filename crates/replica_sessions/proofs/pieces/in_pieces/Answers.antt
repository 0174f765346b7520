use Rattle.std.proofs.Common.{◌∙◌}
use Rattle.replica_sessions.proofs.PieceLaws.{piece_more, pieces_all}
use Rattle.replica_sessions.proofs.pieces.in_pieces.Goals as goal

pub loop-piece-preserved : goal.loop-piece-preserved
loop-piece-preserved c =
    let steps = c.in-Some.ensures.steps in
    record {
      size = steps.0 ∙ c.loop-piece.invariant.size;
      cut = piece_more _ _ _ _ _ _ _ _ c.loop-piece.invariant.size c.loop-piece.invariant.cut steps.1.0 steps.1.1 steps.1.2 c.in_ok-framed.ensures c.in_ok-push.ensures.items;
    }

pub returns : goal.returns
returns c = pieces_all _ _ _ c.loop-piece.invariant.cut c.in-None.ensures.steps.1.0
