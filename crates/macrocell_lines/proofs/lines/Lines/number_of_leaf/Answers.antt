use Rattle.std.proofs.Common.{◌∙◌, sym, subst}
use Rattle.bitplane_kernel.specs.Square.{state_at}
use Rattle.macrocell_lines.specs.Squares.{seen_from, square_of}
use Rattle.macrocell_lines.specs.Listing.{IsWalked}
use Rattle.macrocell_lines.specs.Raised.{square_of_pair}
use Rattle.macrocell_lines.proofs.PairSquares.{leaf_pair, leaf_walked, whole_block}
use Rattle.macrocell_lines.proofs.Walked.{ok_then, put_told}
use Rattle.macrocell_lines.proofs.lines.Lines.number_of_leaf.Goals as goal

pub returns-then-of_two : goal.returns-then-of_two
returns-then-of_two c =
    let s = c.args.store.now in
    let is = leaf_pair s c.args.pair c.states_at-upper.result c.states_at-lower.result c.one_row_on-states.result c.requires.level c.states_at-upper.ensures c.states_at-lower.ensures c.one_row_on-states.ensures.states in
    ok_then c.put.result (λ n put. subst (λ q. IsWalked c.args.of_two (square_of_pair s) c.args.self.now c.put.new.self q n) is
    (leaf_walked c.args.of_two (square_of_pair s) c.args.self.now c.put.new.self c.one_row_on-states.result c.of_states.result n c.if-of_two.true c.one_row_on-states.ensures.count c.of_states.ensures put))
    (put_told c.put.result c.args.self.now c.put.new.self _ c.put.ensures.number c.put.ensures.lines c.put.ensures.numbers)

pub returns : goal.returns
returns c =
    let s = c.args.store.now in
    let is = whole_block (state_at 8 c.one_row_on-states.result) ∙ leaf_pair s c.args.pair c.states_at-upper.result c.states_at-lower.result c.one_row_on-states.result c.requires.level c.states_at-upper.ensures c.states_at-lower.ensures c.one_row_on-states.ensures.states in
    ok_then c.number_of_block.result (λ n walked. subst (λ q. IsWalked c.args.of_two (square_of_pair s) c.args.self.now c.number_of_block.new.self q n) is
    (subst (λ t. IsWalked t (square_of_pair s) c.args.self.now c.number_of_block.new.self (square_of 3 (seen_from 0 0 (state_at 8 c.one_row_on-states.result))) n) (sym c.if-of_two.false) (walked (square_of_pair s)))) c.number_of_block.ensures
