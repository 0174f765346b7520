use Rattle.std.proofs.Common.{◌≡◌, ◌<◌, ◌≤◌, ◌^◌, ℕ, [], length, slice_index_or, sym, ap, arith}
use borrow.Author.Count.{below_more}
use Rattle.inbox.specs.Hands.{of}
use Rattle.relay_board.specs.Seating.{mines_of}
use Rattle.relay_board.proofs.Ending.{enough, mine_at}
use Rattle.relay_board.proofs.relay.Relay.has_all.Goals as goal

pub loop-k-preserved : goal.loop-k-preserved
loop-k-preserved g c =
    let k : ℕ = c.loop-k.k in
    let seats = c.args.seats.now in
    let count : ℕ = slice_index_or c.counts-counts.result.now k 0 in
    let mine : slice_index_or (mines_of seats) k [] ≡ c.index-seats-k.result.mine = mine_at seats k c.index-seats-k.result (sym c.index-seats-k.is) c.loop-k-test.true in
    below_more (λ j. (length (slice_index_or (mines_of seats) j []) ≤ length (of j c.args.self.now.list)) × (length (slice_index_or (mines_of seats) j []) < 2 ^ 64)) k c.loop-k.invariant
    (enough (length (slice_index_or (mines_of seats) k [])) (length (of k c.args.self.now.list)) count (c.counts-counts.ensures.tallies k (omega (arith, c.if-k-counts.false))) (λ most. absurd (omega (arith, most, c.if-count.false)))
    (omega (arith, c.accepted.ensures, ap length mine, c.if-count-accepted.false)))
