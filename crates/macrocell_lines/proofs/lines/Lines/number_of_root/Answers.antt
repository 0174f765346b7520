use Rattle.std.proofs.Common.{◌≡◌, ◌-◌, ◌≤◌, ℕ, Bool, true, false, sym, subst, arith}
use Rattle.bitplane_kernel.specs.Square.{state_at}
use Rattle.macrocell_lines.specs.Squares.{seen_from, square_of}
use Rattle.macrocell_lines.specs.Listing.{IsWalked}
use Rattle.macrocell_lines.specs.Raised.{square_of_pair}
use Rattle.macrocell_lines.proofs.Middles.{block_about}
use Rattle.macrocell_lines.proofs.Walked.{ok_then}
use Rattle.macrocell_lines.proofs.lines.Lines.number_of_root.Goals as goal

not_two : (b : Bool) (level : ℕ) → (b ≡ true → 4 ≤ level) → level ≤ 3 → b ≡ false
not_two true level h few = absurd (omega (arith, h (λ i. true), few))
not_two false level h few = λ i. false

pub overflow_sub-corner : goal.overflow_sub-corner
overflow_sub-corner c = c.half_of-corner.ensures.most

pub number_of_block-requires-clause-column : goal.number_of_block-requires-clause-column
number_of_block-requires-clause-column c = omega (arith, c.half_of-corner.ensures.double, c.half_of-corner.ensures.most)

pub number_of_block-requires-clause-row : goal.number_of_block-requires-clause-row
number_of_block-requires-clause-row c = omega (arith, c.half_of-corner.ensures.double, c.half_of-corner.ensures.most)

pub returns : goal.returns
returns c =
    let s = c.args.store.now in
    let states = c.states_in_middle-states.result in
    let few : c.args.level ≤ 3 = omega arith in
    let one = not_two c.args.of_two c.args.level c.requires.two few in
    let corner = 4 - c.half_of-corner.result in
    let is = block_about s c.args.root c.args.level c.half_of-corner.result corner corner states c.requires.least few c.half_of-corner.ensures.half (λ i. corner) (λ i. corner) c.states_in_middle-states.ensures in
    ok_then c.number_of_block.result (λ n walked. subst (λ q. IsWalked c.args.of_two (square_of_pair s) c.args.self.now c.number_of_block.new.self q n) is
    (subst (λ t. IsWalked t (square_of_pair s) c.args.self.now c.number_of_block.new.self (square_of c.args.level (seen_from corner corner (state_at 8 states))) n) (sym one) (walked (square_of_pair s)))) c.number_of_block.ensures
