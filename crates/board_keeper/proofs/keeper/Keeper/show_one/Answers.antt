use Rattle.std.proofs.Common.{◌<◌, ◌-◌, refl, sym, subst}
use Rattle.board_keeper.specs.Keeping.{Keeping}
use Rattle.board_keeper.specs.Steps.{ShowsKept}
use Rattle.board_keeper.proofs.Doing.{shown_keeper}
use Rattle.board_keeper.proofs.keeper.Keeper.show_one.Goals as goal

pub invariant_of-self : goal.invariant_of-self
invariant_of-self g c =
    let s = c.self.inside in
    let k : Keeping = record { relay = s.relay; rule = s.rule; file = g.K.Keep.known s.log.keep; takes = s.log.state; committed = s.committed } in
    let some : 0 < k.committed = subst (λ (v : Keeping). 0 < v.committed) (sym c.self.view_is) c.requires in
    shown_keeper k c.show.new.self _ s.bodies.items c.self.invariant some (rw c.in-Ok.is at c.show.ensures.shown)

pub returns-in-Ok : goal.returns-in-Ok
returns-in-Ok g c =
    let s = c.self.inside in
    let k : Keeping = record { relay = s.relay; rule = s.rule; file = g.K.Keep.known s.log.keep; takes = s.log.state; committed = s.committed } in
    let b : Keeping = record k { relay = c.show.new.self; committed = k.committed - 1 } in
    let some : 0 < k.committed = subst (λ (v : Keeping). 0 < v.committed) (sym c.self.view_is) c.requires in
    let shown = rw c.in-Ok.is at c.show.ensures.shown in
    let shows : ShowsKept k b = record { kept = some; stamp = c.in-Ok.field-0; shown = shown; left = refl } in
    (subst (λ (v : Keeping). ShowsKept v b) c.self.view_is shows, (shown_keeper k c.show.new.self c.in-Ok.field-0 s.bodies.items c.self.invariant some shown).safe)
