use Rattle.std.proofs.Common.{subst, arith}
use Rattle.macrocell_lines.specs.Listing.{IsWalked}
use Rattle.macrocell_lines.specs.Raised.{square_of_pair}
use Rattle.macrocell_lines.proofs.Rows.{listed}
use Rattle.macrocell_lines.proofs.Middles.{squares_walked}
use Rattle.macrocell_lines.proofs.Walked.{ok_then, put_told}
use Rattle.macrocell_lines.proofs.lines.Lines.number_of_squares.Goals as goal

pub returns : goal.returns
returns c =
    let s = c.args.store.now in
    let m = c.middle_of-middle.result in
    let xa = c.quarters-upper_left.ensures in
    let xb = c.quarters-upper_right.ensures in
    let xc = c.quarters-left.ensures in
    let xd = c.quarters-right.ensures in
    let level = c.middle_of-middle.ensures.level in
    ok_then c.put.result (λ n put. squares_walked s c.args.root m c.quarters-upper_left.result c.quarters-upper_right.result c.quarters-left.result c.quarters-right.result
    (omega (arith, level, c.requires.least)) (omega (arith, level, c.requires.most)) c.middle_of-middle.ensures.middle xa xb xc xd
    c.args.of_two c.args.level _ _ _ _ _ _ _ _ c.in_ok-nw.nw c.in_ok-ne.ne c.in_ok-sw.sw c.in_ok-se.se n
    c.args.self.now c.number_of_pair.new.self c.number_of_pair-2.new.self c.number_of_pair-3.new.self c.number_of_pair-4.new.self c.put.new.self c.requires.least level
    (listed _ xa.four 3 c.index-upper_left-3.result (omega arith)) (listed _ xc.four 1 c.index-left-1.result (omega arith)) (listed _ xb.four 2 c.index-upper_right-2.result (omega arith)) (listed _ xd.four 0 c.index-right-0.result (omega arith))
    (listed _ xc.four 1 c.index-left-1-2.result (omega arith)) (listed _ xc.four 3 c.index-left-3.result (omega arith)) (listed _ xd.four 0 c.index-right-0-2.result (omega arith)) (listed _ xd.four 2 c.index-right-2.result (omega arith))
    (subst (λ p. IsWalked c.args.of_two (square_of_pair s) c.args.self.now c.number_of_pair.new.self (square_of_pair s p) c.in_ok-nw.nw) c.pair.ensures c.in_ok-nw.ensures)
    (subst (λ p. IsWalked c.args.of_two (square_of_pair s) c.number_of_pair.new.self c.number_of_pair-2.new.self (square_of_pair s p) c.in_ok-ne.ne) c.pair-2.ensures c.in_ok-ne.ensures)
    (subst (λ p. IsWalked c.args.of_two (square_of_pair s) c.number_of_pair-2.new.self c.number_of_pair-3.new.self (square_of_pair s p) c.in_ok-sw.sw) c.pair-3.ensures c.in_ok-sw.ensures)
    (subst (λ p. IsWalked c.args.of_two (square_of_pair s) c.number_of_pair-3.new.self c.number_of_pair-4.new.self (square_of_pair s p) c.in_ok-se.se) c.pair-4.ensures c.in_ok-se.ensures) put)
    (put_told c.put.result c.number_of_pair-4.new.self c.put.new.self _ c.put.ensures.number c.put.ensures.lines c.put.ensures.numbers)
