use Rattle.std.proofs.Common.{◌+◌, Option, Some, slice_index_or, ℕ, subst, sym}
use Rattle.std.proofs.lemmas.Option.{slice_get-get_or}
use Rattle.chairs.specs.declared.chair.Chair.TheVariants.{Fresh}
use Rattle.chairs.specs.Turns.{earlier_of, turn_of}
use Rattle.chairs.proofs.TurnLaws.{NoTurnBelow, IsFound, found_more, found_none, next_of_all, none_of_all}
use Rattle.chairs.proofs.plan.next_of.Goals as goal

pub loop-at-init : goal.loop-at-init
loop-at-init c = found_none c.args.now c.args.chairs.now

pub loop-at-preserved : goal.loop-at-preserved
loop-at-preserved c =
    let chair = slice_index_or c.args.chairs.now c.loop-at.at Fresh in
    let more : IsFound c.args.now c.args.chairs.now (c.loop-at.at + 1) (earlier_of c.loop-at.next c.loop-at.at (turn_of c.args.now chair)) =
    found_more c.args.now c.args.chairs.now c.loop-at.at chair c.loop-at.next (slice_get-get_or c.args.chairs.now c.loop-at.at Fresh c.loop-at-test.true) c.loop-at.invariant in
    subst (λ (o : Option (ℕ × ℕ)). IsFound c.args.now c.args.chairs.now (c.loop-at.at + 1) o) (sym c.earlier-next.ensures)
    (subst (λ (t : Option ℕ). IsFound c.args.now c.args.chairs.now (c.loop-at.at + 1) (earlier_of c.loop-at.next c.loop-at.at t)) (sym c.turn.ensures) more)

pub returns-in-None : goal.returns-in-None
returns-in-None c =
    let none : NoTurnBelow c.args.now c.args.chairs.now c.loop-at.at = subst (IsFound c.args.now c.args.chairs.now c.loop-at.at) c.in-None.is c.loop-at.invariant in
    none_of_all c.args.now c.args.chairs.now c.loop-at.at c.loop-at-test.false none

pub returns-in-Some : goal.returns-in-Some
returns-in-Some c =
    let so : IsFound c.args.now c.args.chairs.now c.loop-at.at (Some (c.in-Some.at, c.in-Some.field-0-1)) = subst (IsFound c.args.now c.args.chairs.now c.loop-at.at) c.in-Some.is c.loop-at.invariant in
    next_of_all c.args.now c.args.chairs.now c.loop-at.at c.in-Some.at c.in-Some.field-0-1 c.loop-at-test.false so
