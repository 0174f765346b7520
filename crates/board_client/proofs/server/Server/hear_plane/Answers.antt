use Rattle.std.proofs.Common.{refl}
use Rattle.board_client.specs.Hearing.{IsAsAnnounced, IsNotTaken}
use Rattle.board_client.specs.declared.hearing.Announced.TheVariants.{Plane}
use Rattle.board_client.proofs.PiecesLaws.{whole_text}
use Rattle.board_client.proofs.server.Server.hear_plane.Goals as goal

pub returns-clause-heard : goal.returns-clause-heard
returns-clause-heard g c =
    whole_text (λ text. IsAsAnnounced Plane text × IsNotTaken c.args.replica.now text c.take_bytes.new.self c.in-Err-take_bytes.fault) c.args.frames _ _ c.in-Ok.text.items c.in-Ok.ensures
    (rw c.deref-bytes.ensures.value at c.if-not-is_announced.ensures.0 refl, rw c.deref-bytes.ensures.value at c.in-Err-take_bytes.ensures.told)
