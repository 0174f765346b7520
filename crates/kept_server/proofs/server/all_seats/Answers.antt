use Rattle.std.proofs.Common.{◌∙◌, ◌++◌, ◌∷◌, [], List, map, ap}
use Rattle.relay_board.specs.Seating.{Seating}
use Rattle.kept_server.proofs.server.all_seats.Goals as goal

pub returns-clause-seats : goal.returns-clause-seats
returns-clause-seats g c =
    c.in_ok-push.ensures.items
    ∙ (ap (λ (l : List Seating). l ++ c.into_seat.result ∷ []) c.in_ok-seats.ensures.seats ∙ ap (λ (s : Seating). map (λ a. a.0) c.args.attended.items ++ s ∷ []) c.into_seat.ensures)
