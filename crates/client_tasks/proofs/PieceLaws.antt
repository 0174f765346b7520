-- Cells that are drawn edit by edit.
use Rattle.std.proofs.Common.{◌≡◌, ◌<◌, ◌≤◌, List, length, take, drop, Result, Ok, subst}
use Rattle.pattern_cells.specs.declared.cell.Cell.{Cell}
use Rattle.edit_stamps.specs.Edit.{most_cells}
use Rattle.client_session.specs.declared.outcome.Outcome.{Outcome}
use Rattle.client_session.specs.declared.outcome.Outcome.TheVariants.{Drawn}
use Rattle.client_session.specs.declared.fault.CommandFault.{CommandFault}
use Rattle.client_session.specs.Moment.{Moment}
use Rattle.client_tasks.specs.declared.pieces.Part.{Part}
use Rattle.client_tasks.specs.Opening.{DrawsAll, DrawsSome, IsStopped}
use Rattle.client_tasks.specs.Opening.DrawsAll.{last, more, stops}

module _ (part : Part) (cells rest : List Cell) (start m : Moment) (left : (n : Moment) (result : Result Outcome CommandFault) → DrawsAll part rest m n result → DrawsAll part cells start n result) where
  pub drawn_last : (n : Moment) (result : Result Outcome CommandFault) → length rest ≤ most_cells → DrawsSome part rest m n result → DrawsAll part cells start n result
  drawn_last n result few draws = left n result (last few draws)

  pub drawn_on : (some behind : List Cell) (mid : Moment) → most_cells < length rest → some ≡ take most_cells rest → behind ≡ drop most_cells rest → DrawsSome part some m mid (Ok Drawn)
      → (n : Moment) (result : Result Outcome CommandFault) → DrawsAll part behind mid n result → DrawsAll part cells start n result
  drawn_on some behind mid many front back draws n result all =
      left n result (more many (subst (λ (xs : List Cell). DrawsSome part xs m mid (Ok Drawn)) front draws) (subst (λ (xs : List Cell). DrawsAll part xs mid n result) back all))

  pub drawn_not : (some : List Cell) (n : Moment) (result : Result Outcome CommandFault) → most_cells < length rest → some ≡ take most_cells rest → DrawsSome part some m n result → IsStopped result
      → DrawsAll part cells start n result
  drawn_not some n result many front draws stopped = left n result (stops many (subst (λ (xs : List Cell). DrawsSome part xs m n result) front draws) stopped)
