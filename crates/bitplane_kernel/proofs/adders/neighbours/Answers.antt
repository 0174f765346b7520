use Rattle.std.proofs.Common.{◌≡◌, ◌+◌, ◌∙◌, ap, arith}
use Rattle.bitplane_kernel.specs.Planes.{bit}
use Rattle.bitplane_kernel.proofs.adders.neighbours.Goals as goal

pub returns : goal.returns
returns c = λ x y h k.
    let right : x + 1 + 1 ≡ x + 2 = omega arith in
    let down : y + 1 + 1 ≡ y + 2 = omega arith in
    -- the rows above and below, in the three columns
    let above_west = c.from_above-above.ensures x y (omega arith) (omega arith) in
    let above_own = c.from_above-above.ensures (x + 1) y (omega arith) (omega arith) in
    let above_east = c.from_above-above.ensures (x + 2) y (omega arith) (omega arith) in
    let below_west = c.from_below-below.ensures x (y + 1) (omega arith) (omega arith) ∙ ap (λ n. bit c.args.live x n) down in
    let below_own = c.from_below-below.ensures (x + 1) (y + 1) (omega arith) (omega arith) ∙ ap (λ n. bit c.args.live (x + 1) n) down in
    let below_east = c.from_below-below.ensures (x + 2) (y + 1) (omega arith) (omega arith) ∙ ap (λ n. bit c.args.live (x + 2) n) down in
    -- the sums of the columns
    let own = c.sum_of_two-two.ensures.sum (x + 1) (y + 1) (omega arith) (omega arith) in
    let west = c.sum_of_three-three.ensures.sum x (y + 1) (omega arith) (omega arith) in
    let east = c.sum_of_three-three.ensures.sum (x + 2) (y + 1) (omega arith) (omega arith) in
    let low_west = c.from_left.ensures x (y + 1) (omega arith) (omega arith) in
    let low_east = c.from_right.ensures (x + 1) (y + 1) (omega arith) (omega arith) ∙ ap (λ n. bit c.sum_of_three-three.result.low n (y + 1)) right in
    let high_west = c.from_left-2.ensures x (y + 1) (omega arith) (omega arith) in
    let high_east = c.from_right-2.ensures (x + 1) (y + 1) (omega arith) (omega arith) ∙ ap (λ n. bit c.sum_of_three-three.result.high n (y + 1)) right in
    -- the digits of their sum
    let ones = c.sum_of_three-ones.ensures.sum (x + 1) (y + 1) (omega arith) (omega arith) in
    let twos = c.sum_of_three-twos.ensures.sum (x + 1) (y + 1) (omega arith) (omega arith) in
    let carried = c.sum_of_two-carried.ensures.sum (x + 1) (y + 1) (omega arith) (omega arith) in
    let fours = c.sum_of_two-fours.ensures.sum (x + 1) (y + 1) (omega arith) (omega arith) in
    omega arith
