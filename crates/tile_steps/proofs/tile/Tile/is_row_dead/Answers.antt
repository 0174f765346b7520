use Rattle.std.proofs.Common.{arith, refl}
use Rattle.std.proofs.lemmas.Bool.{false≢true}
use Rattle.tile_steps.proofs.RoomLemmas.{row_not_dead}
use Rattle.tile_steps.proofs.SetLemmas.{row_is_dead}
use Rattle.tile_steps.proofs.tile.Tile.is_row_dead.Goals as goal

pub returns-then-not-is_row_none : goal.returns-then-not-is_row_none
returns-then-not-is_row_none N c = (
  λ is. absurd (false≢true is),
  λ dead. absurd (row_not_dead N.row.N c.loop-p.p c.args.row c.args.self.now c.loop-p-test.true c.is_row_none.ensures.fits (λ e. false≢true (c.if-not-is_row_none.ensures.none.1 e)) dead),
)

pub returns : goal.returns
returns N c = (λ _ x hx. row_is_dead N.row.N c.args.row c.args.self.now.planes (λ q h. c.loop-p.invariant q (omega arith)) x, λ _. refl)
