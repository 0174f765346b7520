use Rattle.std.proofs.Common.{◌≡◌, ◌∙◌, ◌≤◌, ap, sym, subst, arith}
use Rattle.macrocell_universes.proofs.EntryReaches.{reach_got, state_reach, zero_reach}
use Rattle.macrocell_universes.proofs.Numbers.{none_past}
use Rattle.macrocell_universes.proofs.reaches.reach_numbered.Goals as goal

pub returns-then-square-eq0 : goal.returns-then-square-eq0
returns-then-square-eq0 c = λ es are few is within. zero_reach es c.args.square c.if-square-eq0.true

pub returns-then-square-eq0-2 : goal.returns-then-square-eq0-2
returns-then-square-eq0-2 c = λ es are few is within. state_reach es c.args.square c.args.square.number c.of_cell.result c.if-square-eq0-2.true (λ i. c.args.square.number) c.of_cell.ensures

pub returns-in-Some : goal.returns-in-Some
returns-in-Some c = λ es are few is within. reach_got es c.args.reaches.now c.args.square c.in-Some.reach are few is (omega (arith, c.if-square-eq0-2.false)) c.if-square-eq0.false (sym c.reach_at.ensures ∙ c.in-Some.is)

pub returns-in-None : goal.returns-in-None
returns-in-None c = λ es are few is within. (
    let above : 1 ≤ c.args.square.level = omega (arith, c.if-square-eq0-2.false) in
    let past = none_past c.args.reaches.now _ (sym c.reach_at.ensures ∙ c.in-None.is) in
    let low = within above in
    absurd (omega (arith, past, low, c.if-square-eq0.false)))
