use Rattle.std.proofs.Common.{Err, subst, sym}
use Rattle.opened_files.specs.declared.opening.Unopened.{Unopened}
use Rattle.opened_files.specs.Opening.{OpensBoard}
use Rattle.opened_files.proofs.OpeningLaws.{finds_clock_full, opens_not}
use Rattle.opened_files.proofs.opening.board_opening.Goals as goal

pub returns-else-suffice : goal.returns-else-suffice
returns-else-suffice c =
    finds_clock_full c.args.replica.now c.rule.result c.args.text.now _ c.in-Ok.saved.counter _ _ _ c.rule.ensures (rw (← c.deref.ensures.value) at c.in-Ok.ensures.saved) c.plane-in-Ok.ensures.value c.suffice.ensures.1 c.suffice.ensures.2 c.if-suffice.false

pub returns-in-Err : goal.returns-in-Err
returns-in-Err c =
    subst (λ (u : Unopened). OpensBoard c.args.replica.now c.args.text.now (Err u)) (sym c.unopened_by.ensures) (opens_not c.args.replica.now c.rule.result c.args.text.now c.rule.ensures c.in-Err.fault c.in-Err.ensures.fault c.in-Err.ensures.full c.in-Err.ensures.too_large)
