use Rattle.tile_steps.proofs.SetLemmas.{SetBelow}
use Rattle.tile_steps.proofs.tile.set_state.Given as goal

abbrev pub invariant-loop-p : goal.invariant-loop-p
invariant-loop-p g l = SetBelow l.fn.column l.fn.row l.fn.state l.initial.planes l.planes l.p
