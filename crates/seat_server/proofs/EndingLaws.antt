-- How a server ends, from how the finish of its relay went.
use Rattle.std.proofs.Common.{◌≡◌, ℕ, List, None, true, subst}
use Rattle.std.specs.Prelude.{Result, Ok, Err, IfOk}
use mathlib.Core.List.{IsPrefix}
use Rattle.board.proofs.Fronts.{prefix_trans}
use Rattle.board.specs.Origins.{list_of}
use Rattle.relay_board.specs.Relaying.{Relaying}
use Rattle.relay_board.specs.Closing.{IsWhole}
use Rattle.relay_board.specs.Seating.{Seating}
use Rattle.seat_server.specs.Serving.{FinishedValue, GoesOnFrom}
use Rattle.seat_server.specs.Turning.{IsTurned}
use Rattle.seat_server.specs.declared.fault.ServerFault.{ServerFault}
use Rattle.seat_server.proofs.TurningLaws.{turned_adds}

-- a relay that was turned up to an idle turn, and closed
module _ (most : ℕ) (a turned closed : Relaying) (turns : IsTurned most a None turned) (is : closed ≡ record turned { closed = true }) where
  pub goes_on_from : (r : Result FinishedValue ServerFault) (after : List Seating) → IfOk r (λ f. IsWhole closed.origin closed.list (list_of f.account.front) after f.account)
      → IfOk r (λ f. GoesOnFrom most a (list_of f.account.front))
  goes_on_from (Err fault) after whole = tt
  goes_on_from (Ok f) after whole = record { turned = turned; turns = turns; goes_on = subst (λ (r : Relaying). IsPrefix r.list (list_of f.account.front)) is whole.goes_on }

  pub stays : (r : Result FinishedValue ServerFault) (after : List Seating) → IfOk r (λ f. IsWhole closed.origin closed.list (list_of f.account.front) after f.account)
      → IfOk r (λ f. IsPrefix a.list (list_of f.account.front))
  stays (Err fault) after whole = tt
  stays (Ok f) after whole =
      prefix_trans a.list turned.list (list_of f.account.front) (turned_adds most a turned turns) (subst (λ (r : Relaying). IsPrefix r.list (list_of f.account.front)) is whole.goes_on)
