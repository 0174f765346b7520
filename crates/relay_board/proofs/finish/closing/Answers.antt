use Rattle.std.proofs.Common.{◌≡◌, List, ◌∙◌, sym, ap, subst}
use Rattle.edit_stamps.specs.Edit.{greatest}
use Rattle.stamped_writes.specs.Write.{AreSame}
use Rattle.board.specs.declared.entry.Entry.{Entry}
use Rattle.board.specs.Entries.{edits_of}
use Rattle.stamped_tree.specs.Plane.{map_of}
use Rattle.board.specs.Origins.{list_of}
use Rattle.relay_board.proofs.States.{have_below, plane_below}
use Rattle.relay_board.proofs.Ending.{counted_all}
use Rattle.relay_board.proofs.finish.closing.Goals as goal

pub returns-in-Ok-clause-accepted : goal.returns-in-Ok-clause-accepted
returns-in-Ok-clause-accepted g c = c.in-Ok.ensures.accepted ∙ counted_all c.args.seats.now c.requires.countable

pub returns-in-Ok-clause-below : goal.returns-in-Ok-clause-below
returns-in-Ok-clause-below g c =
    let front = c.in-Ok.account.front in
    have_below front.states (list_of front) front.below

pub returns-in-Ok-clause-states : goal.returns-in-Ok-clause-states
returns-in-Ok-clause-states g c some =
    let front = c.in-Ok.account.front in
    let same : c.board.result.now.list ≡ list_of front = c.board.ensures ∙ sym (ap list_of c.in-Ok.ensures.account.1 ∙ c.front-front.ensures.list) in
    let plane = subst (λ (l : List Entry). AreSame (map_of c.in-Ok.account.plane) (greatest (edits_of l))) same c.in-Ok.ensures.account.0.plane in
    plane_below front.states (list_of front) (map_of c.in-Ok.account.plane) some front.below plane
