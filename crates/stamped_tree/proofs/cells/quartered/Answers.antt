use Rattle.std.proofs.Common.{◌∙◌, nat_le, nat_lt}
use Rattle.std.proofs.lemmas.List.Kept.{IsNonDecreasingBy-filter}
use Rattle.stamped_tree.specs.Morton.{digit_at}
use Rattle.stamped_tree.proofs.Morton.{digits_rise, first_digit, second_digit, third_digit, last_digit}
use Rattle.stamped_tree.proofs.cells.quartered.Goals as goal

pub cut-requires-clause-order : goal.cut-requires-clause-order
cut-requires-clause-order c = digits_rise c.args.bit c.args.cells.now c.requires.bit c.requires.cells

pub cut-requires-2-clause-order : goal.cut-requires-2-clause-order
cut-requires-2-clause-order c =
    let rise = digits_rise c.args.bit c.args.cells.now c.requires.bit c.requires.cells in
    rw c.cut.ensures.below (IsNonDecreasingBy-filter (digit_at c.args.bit) (λ cell. nat_lt (digit_at c.args.bit cell) 2) c.args.cells.now rise)

pub cut-requires-3-clause-order : goal.cut-requires-3-clause-order
cut-requires-3-clause-order c =
    let rise = digits_rise c.args.bit c.args.cells.now c.requires.bit c.requires.cells in
    rw c.cut.ensures.from (IsNonDecreasingBy-filter (digit_at c.args.bit) (λ cell. nat_le 2 (digit_at c.args.bit cell)) c.args.cells.now rise)

pub returns-clause-nw : goal.returns-clause-nw
returns-clause-nw c = c.cut-2.ensures.below ∙ rw c.cut.ensures.below (first_digit c.args.bit c.args.cells.now)

pub returns-clause-ne : goal.returns-clause-ne
returns-clause-ne c = c.cut-2.ensures.from ∙ rw c.cut.ensures.below (second_digit c.args.bit c.args.cells.now)

pub returns-clause-sw : goal.returns-clause-sw
returns-clause-sw c = c.cut-3.ensures.below ∙ rw c.cut.ensures.from (third_digit c.args.bit c.args.cells.now)

pub returns-clause-se : goal.returns-clause-se
returns-clause-se c = c.cut-3.ensures.from ∙ rw c.cut.ensures.from (last_digit c.args.bit c.args.cells.now)
