use Rattle.board_client.proofs.PiecesLaws.{brings_pieces}
use Rattle.board_client.proofs.server.Server.fetch_once.Goals as goal

pub returns-in-Ok-hear_plane : goal.returns-in-Ok-hear_plane
returns-in-Ok-hear_plane g c =
    brings_pieces _ _ _ _ _ _ _ _ c.in-Pieces.edits c.in-Pieces.frames c.in-Ok-ask.ensures c.in-Ok.ensures.spelt c.deref.ensures.value c.in-Pieces.ensures c.hear_plane.ensures.few c.in-Ok-hear_plane.ensures.heard
