use Rattle.std.proofs.Common.{subst, sym}
use Rattle.relay_board.specs.Seating.{Seating}
use Rattle.seat_server.specs.Sessions.{IsSeated}
use Rattle.seat_server.proofs.seats.begun.Goals as goal

pub spawn_with-begun-requires-clause-keeps : goal.spawn_with-begun-requires-clause-keeps
spawn_with-begun-requires-clause-keeps g c κs within = λ r kept. subst (λ (s : Seating). IsSeated s r.1 r.0) (sym c.of.ensures) kept
