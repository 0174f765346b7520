use Rattle.std.proofs.Common.{ap, subst, Err}
use Rattle.square_store.proofs.Made.{told}
use Rattle.square_store.specs.Squares.{IsAt}
use Rattle.generation_engine.proofs.Blocks.{block_centre, middle_later}
use Rattle.generation_engine.proofs.Passes.{some_above, above_one, level_below}
use Rattle.generation_engine.proofs.results.ResultStore.centre.Goals as goal

pub returns-clause-later : goal.returns-clause-later
returns-clause-later c = middle_later _ _ _ c.args.level _ _ _ (above_one c.args.level c.requires.level c.if-level-eq1.false) c.middle-parts.ensures c.in_ok-centre-2.ensures.draws

pub block-requires : goal.block-requires
block-requires c = subst (λ k. IsAt c.args.self.now.store k c.args.part) c.if-level-eq1.true c.requires.stands

pub returns-then-level-eq1-clause-later : goal.returns-then-level-eq1-clause-later
returns-then-level-eq1-clause-later c = rw c.if-level-eq1.true (block_centre _ _ _ _ _ c.block.result c.centre-leaf.result c.block.ensures.states c.centre-leaf.ensures.states c.in_ok-centre.ensures.draws)

pub middle-parts-requires-clause-level : goal.middle-parts-requires-clause-level
middle-parts-requires-clause-level c = above_one c.args.level c.requires.level c.if-level-eq1.false

pub overflow_sub-level : goal.overflow_sub-level
overflow_sub-level c = some_above c.args.level (above_one c.args.level c.requires.level c.if-level-eq1.false)

pub add_four-requires-clause-level : goal.add_four-requires-clause-level
add_four-requires-clause-level c = level_below c.args.level (above_one c.args.level c.requires.level c.if-level-eq1.false)

pub add_four-requires-clause-parts : goal.add_four-requires-clause-parts
add_four-requires-clause-parts c = c.middle-parts.ensures.stand

pub returns-in_err-centre-clause-full : goal.returns-in_err-centre-clause-full
returns-in_err-centre-clause-full c = λ e. c.in_err-centre.ensures.full (ap (λ e. Err e) (told _ _ _ c.from_residual.ensures.1 e))

pub returns-in_err-centre-2-clause-full : goal.returns-in_err-centre-2-clause-full
returns-in_err-centre-2-clause-full c = λ e. c.in_err-centre-2.ensures.full (ap (λ e. Err e) (told _ _ _ c.from_residual-in_err-centre-2.ensures.1 e))
