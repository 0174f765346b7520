use Rattle.std.proofs.Common.{◌++◌, ◌∙◌, ap, arith}
use Rattle.board_client.proofs.PiecesLaws.{cut_short, no_pieces, pieces_on, wanting}
use Rattle.board_client.proofs.server.Server.put_together.Goals as goal

pub loop-frame-init : goal.loop-frame-init
loop-frame-init g c = no_pieces _ _ c.new-text.ensures.items

pub returns-in-Err : goal.returns-in-Err
returns-in-Err g c = cut_short c.loop-frame._frame c.args.frames _ _ _ c.loop-frame.text.items c.in-Err.fault (omega (arith, c.loop-frame-test.true)) c.loop-frame.invariant c.in-Err.ensures

pub returns-in-Err-extend_from_slice : goal.returns-in-Err-extend_from_slice
returns-in-Err-extend_from_slice g c =
    wanting c.loop-frame._frame c.args.frames _ _ _ c.loop-frame.text.items c.in-Ok.piece.items (omega (arith, c.loop-frame-test.true)) c.loop-frame.invariant c.in-Ok.ensures

pub loop-frame-preserved : goal.loop-frame-preserved
loop-frame-preserved g c =
    pieces_on c.loop-frame._frame _ _ _ c.loop-frame.text.items c.in-Ok.piece.items c.extend_from_slice.new.self.items
    (c.in-Ok-extend_from_slice.ensures.items ∙ ap (λ piece. c.loop-frame.text.items ++ piece) c.deref.ensures.value) c.loop-frame.invariant c.in-Ok.ensures
