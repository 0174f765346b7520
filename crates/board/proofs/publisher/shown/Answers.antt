use Rattle.board.proofs.Keeping.{shows}
use Rattle.board.proofs.publisher.shown.Goals as goal

pub publish_as-requires : goal.publish_as-requires
publish_as-requires g c next e = shows _ _ c.args.front.now _ _ next c.requires.rests c.requires.origin e
