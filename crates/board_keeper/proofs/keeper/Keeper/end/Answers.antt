use Rattle.std.proofs.Common.{◌≡◌, [], List, ap, subst, sym, ◌∙◌}
use Rattle.board.specs.Origins.{list_of}
use Rattle.kept_log.specs.Kept.{Keeps}
use Rattle.relay_board.specs.Relaying.{Relaying}
use Rattle.relay_board.specs.Seating.{BeginsWithAll, Seating}
use Rattle.board_keeper.specs.Keeping.{Keeping, bodies_in}
use Rattle.board_keeper.proofs.Ends.{end_fault, ended_file}
use Rattle.board_keeper.proofs.keeper.Keeper.end.Goals as goal

pub returns-in-Ok-clause-file : goal.returns-in-Ok-clause-file
returns-in-Ok-clause-file g c =
    let s = c.self.inside in
    let k : Keeping = record { relay = s.relay; rule = s.rule; file = g.K.Keep.known s.log.keep; takes = s.log.state; committed = s.committed } in
    let none : k.relay.kept ≡ [] = ap (λ (v : Keeping). v.relay.kept) c.self.view_is ∙ c.requires.kept in
    subst (λ (v : Keeping). Keeps (bodies_in v.rule (list_of c.in-Ok.account.front)) k.file) c.self.view_is
    (ended_file k s.bodies.items (list_of c.in-Ok.account.front) c.self.invariant none c.in-Ok.ensures.list)

pub returns-in-Err-clause-fault : goal.returns-in-Err-clause-fault
returns-in-Err-clause-fault g c =
    let s = c.self.inside in
    let k : Keeping = record { relay = s.relay; rule = s.rule; file = g.K.Keep.known s.log.keep; takes = s.log.state; committed = s.committed } in
    let same = c.in-Err.ensures.same in
    end_fault c.in-Err.fault (record k { relay = c.in-Err.relay }) c.in-Err.seats.items c.in-Err.ensures.fault
    (λ h begun. c.in-Err.ensures.unseen h
    (subst (λ (ss : List Seating). BeginsWithAll s.relay.list ss) same.1 (subst (λ (r : Relaying). BeginsWithAll r.list c.in-Err.seats.items) same.0 begun)))

pub returns-in-Ok-clause-left : goal.returns-in-Ok-clause-left
returns-in-Ok-clause-left g c = (
  ap (λ (v : Keeping). v.relay.list) (sym c.self.view_is) ∙ sym c.in-Ok.ensures.list,
  ap (λ (v : Keeping). v.file) (sym c.self.view_is),
)
