use Rattle.std.proofs.Common.{◌≡◌, sym, subst, ◌+◌, arith}
use Rattle.macrocell_lines.specs.declared.line.Line.TheVariants as lines
use Rattle.macrocell_lines.specs.Listing.{IsWalked}
use Rattle.macrocell_lines.specs.Raised.{square_of_pair}
use Rattle.macrocell_lines.proofs.Rows.{listed}
use Rattle.macrocell_lines.proofs.PairSquares.{both_told, pair_four, pair_noted}
use Rattle.macrocell_lines.proofs.Walked.{IsPut, dead_walked, noted_walked, ok_then}
use Rattle.macrocell_lines.proofs.lines.Lines.+number_of_pair.Goals as goal

pub returns-then-are_blank : goal.returns-then-are_blank
returns-then-are_blank t c = dead_walked c.args.of_two (square_of_pair c.args.store.now) c.args.self.now (square_of_pair c.args.store.now c.args.pair) (c.are_blank.ensures c.if-are_blank.true)

pub returns-in-Some : goal.returns-in-Some
returns-in-Some t c = noted_walked c.args.of_two (square_of_pair c.args.store.now) c.args.self.now c.args.pair c.in-Some.number.now (sym c.in-Some.ensures.value)

pub returns-then-pair-eq0 : goal.returns-then-pair-eq0
returns-then-pair-eq0 t c =
    ok_then c.note.result (λ n told. pair_noted c.args.of_two (square_of_pair c.args.store.now) c.args.self.now _ _ c.args.pair _ n c.in_ok-number.ensures told.0 told.1.0 told.1.1)
    (both_told (λ n. n ≡ c.in_ok-number.number) _ _ c.note.result c.note.ensures.number c.note.ensures.lines c.note.ensures.noted)

pub returns : goal.returns
returns t c =
    let above = c.quarters-above.ensures in
    let below = c.quarters-below.ensures in
    let s = c.args.store.now in
    let put : IsPut c.number_of_pair-4.new.self c.put.new.self (lines.Four (c.args.pair.level + 3) c.in_ok-nw.nw c.in_ok-ne.ne c.in_ok-sw.sw c.in_ok-se.se) c.in_ok-number-2.number
    = record { number = c.in_ok-number-2.ensures.number; lines = c.in_ok-number-2.ensures.lines; numbers = c.in_ok-number-2.ensures.numbers } in
    let walked = pair_four c.args.of_two s c.args.self.now c.number_of_pair.new.self c.number_of_pair-2.new.self c.number_of_pair-3.new.self c.number_of_pair-4.new.self c.put.new.self
    c.args.pair.level c.args.pair.upper c.args.pair.lower c.in_ok-nw.nw c.in_ok-ne.ne c.in_ok-sw.sw c.in_ok-se.se c.in_ok-number-2.number c.quarters-above.result c.quarters-below.result _ _ _ _ _ _ _ _
    (omega (arith, c.if-pair-eq0.false)) above below
    (listed _ above.four 0 c.index-above-0.result (omega arith)) (listed _ above.four 1 c.index-above-1.result (omega arith)) (listed _ above.four 2 c.index-above-2.result (omega arith)) (listed _ above.four 3 c.index-above-3.result (omega arith))
    (listed _ above.four 2 c.index-above-2-2.result (omega arith)) (listed _ above.four 3 c.index-above-3-2.result (omega arith)) (listed _ below.four 0 c.index-below-0.result (omega arith)) (listed _ below.four 1 c.index-below-1.result (omega arith))
    (subst (λ p. IsWalked c.args.of_two (square_of_pair s) c.args.self.now c.number_of_pair.new.self (square_of_pair s p) c.in_ok-nw.nw) c.below.ensures c.in_ok-nw.ensures)
    (subst (λ p. IsWalked c.args.of_two (square_of_pair s) c.number_of_pair.new.self c.number_of_pair-2.new.self (square_of_pair s p) c.in_ok-ne.ne) c.below-2.ensures c.in_ok-ne.ensures)
    (subst (λ p. IsWalked c.args.of_two (square_of_pair s) c.number_of_pair-2.new.self c.number_of_pair-3.new.self (square_of_pair s p) c.in_ok-sw.sw) c.below-3.ensures c.in_ok-sw.ensures)
    (subst (λ p. IsWalked c.args.of_two (square_of_pair s) c.number_of_pair-3.new.self c.number_of_pair-4.new.self (square_of_pair s p) c.in_ok-se.se) c.below-4.ensures c.in_ok-se.ensures)
    put in
    ok_then c.note-2.result (λ n told. pair_noted c.args.of_two (square_of_pair s) c.args.self.now c.put.new.self c.note-2.new.self c.args.pair c.in_ok-number-2.number n walked told.0 told.1.0 told.1.1)
    (both_told (λ n. n ≡ c.in_ok-number-2.number) _ _ c.note-2.result c.note-2.ensures.number c.note-2.ensures.lines c.note-2.ensures.noted)
