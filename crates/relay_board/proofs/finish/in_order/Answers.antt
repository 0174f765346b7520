use Rattle.std.proofs.Common.{◌≡◌, ◌∙◌, Some, slice_get, refl, sym, ap, arith}
use borrow.Author.Count.{below_more}
use Rattle.relay_board.specs.Seating.{Seating}
use Rattle.relay_board.proofs.Ending.{get_at, get_below, numbered_at, numbered_by}
use Rattle.relay_board.proofs.finish.in_order.Goals as goal

pub loop-k-preserved : goal.loop-k-preserved
loop-k-preserved g c =
    let seats = c.args.seats.now in
    let here : slice_get seats c.loop-k.k ≡ Some c.index-seats-k.result = get_at seats c.loop-k.k c.index-seats-k.result (sym c.index-seats-k.is) c.loop-k-test.true in
    let place : c.index-seats-k.result.place ≡ c.loop-k.k = omega (arith, c.place.ensures, c.if-place-k.false) in
    below_more (λ j. (s : Seating) → slice_get seats j ≡ Some s → s.place ≡ j) c.loop-k.k c.loop-k.invariant
    (λ s at. let same : s ≡ c.index-seats-k.result = cc (here, at) in ap (λ (t : Seating). t.place) same ∙ place)

pub returns : goal.returns
returns g c = (
  (λ _. numbered_by 0 c.args.seats.now (λ k s at. let h = get_below c.args.seats.now k s at in c.loop-k.invariant k (omega arith) s at ∙ omega arith)),
  (λ _. refl),
)

pub returns-then-place-k : goal.returns-then-place-k
returns-then-place-k g c =
    let seats = c.args.seats.now in
    let here : slice_get seats c.loop-k.k ≡ Some c.index-seats-k.result = get_at seats c.loop-k.k c.index-seats-k.result (sym c.index-seats-k.is) c.loop-k-test.true in (
      (λ no. absurd (cc (no))),
      (λ numbered. let place = numbered_at 0 seats c.loop-k.k c.index-seats-k.result numbered here in absurd (c.if-place-k.true (omega (arith, c.place.ensures, place)))),
    )
