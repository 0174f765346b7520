use Rattle.board.proofs.Keeping.{enters}
use Rattle.board.proofs.window.Window.enter.Goals as goal

pub enter_as-requires : goal.enter_as-requires
enter_as-requires c = enters _ _
