use Rattle.std.proofs.Common.{sym, subst}
use Rattle.edit_stamps.specs.Edit.{HaveStatesBelow}
use Rattle.board.specs.Entries.{edits_of}
use Rattle.board.specs.Origins.{list_of}
use Rattle.relay_board.specs.Seating.{Seating}
use Rattle.relay_board.proofs.States.{have_below}
use Rattle.relay_board.proofs.seat.Seat.rule.Goals as goal

pub returns-clause-below : goal.returns-clause-below
returns-clause-below g c =
    let front = c.self.inside.reader.window.front in
    subst (λ (s : Seating). HaveStatesBelow s.rule.states (edits_of s.seen)) c.self.view_is
    (subst (λ n. HaveStatesBelow n (edits_of (list_of front))) (sym c.self.invariant.ruled) (have_below front.states (list_of front) front.below))
