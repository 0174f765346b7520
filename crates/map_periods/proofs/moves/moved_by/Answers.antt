use Rattle.std.proofs.Common.{arith, refl}
use Rattle.std.proofs.lemmas.Bool.{false≢true}
use Rattle.map_periods.proofs.ExtentLaws.{not_as_large}
use Rattle.map_periods.proofs.MoveLaws.{no_move, not_as_many, some_from_test, the_move}
use Rattle.map_periods.proofs.moves.moved_by.Goals as goal

pub returns-then-before-after : goal.returns-then-before-after
returns-then-before-after c = λ f h. not_as_many f h c.args.before.now c.args.after.now c.if-before-after.true

pub returns-then-are_moved : goal.returns-then-are_moved
returns-then-are_moved c = λ f h.
    the_move f h c.args.before.now c.args.after.now _ c.between-by.result (some_from_test _ c.if-is_empty.ensures) (record { right = c.between-by.ensures.right; down = c.between-by.ensures.down }) (c.if-are_moved.ensures.0 refl)

pub returns-else-are_moved : goal.returns-else-are_moved
returns-else-are_moved c = λ f h.
    no_move f h c.args.before.now c.args.after.now _ c.between-by.result (some_from_test _ c.if-is_empty.ensures) (record { right = c.between-by.ensures.right; down = c.between-by.ensures.down })
    (λ is. false≢true (c.if-are_moved.ensures.1 is))

pub returns-then-not-have_one_size : goal.returns-then-not-have_one_size
returns-then-not-have_one_size c = λ f h.
    not_as_large f h c.args.before.now c.args.after.now (λ same. grind (arith, same, c.have_one_size.ensures, c.if-not-have_one_size.true))
