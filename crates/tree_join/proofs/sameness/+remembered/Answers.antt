use Rattle.std.proofs.Common.{◌≡◌}
use Rattle.stamped_writes.specs.declared.write.Write.{Write}
use Rattle.square_store.proofs.Places.{at_within}
use Rattle.tree_join.specs.Squares.{AreQuarters, AreSameSquares}
use Rattle.tree_join.proofs.Comparing.{refuted, related_0, related_1, related_2, related_3, related_whole}
use Rattle.tree_join.proofs.sameness.+remembered.Goals as goal

pub are_same_quarters-square-requires : goal.are_same_quarters-square-requires
are_same_quarters-square-requires t c = at_within c.args.plane.now.store c.args.pair.above c.args.pair.here c.requires.here

pub are_same_quarters-square-requires-2 : goal.are_same_quarters-square-requires-2
are_same_quarters-square-requires-2 t c = at_within c.args.other.now.store c.args.pair.above c.args.pair.there c.requires.there

pub are_same_remembered-square-square-requires : goal.are_same_remembered-square-square-requires
are_same_remembered-square-square-requires t c = at_within c.args.plane.now.store c.args.pair.above c.args.pair.here c.requires.here

pub are_same_remembered-square-counterpart-requires : goal.are_same_remembered-square-counterpart-requires
are_same_remembered-square-counterpart-requires t c = at_within c.args.other.now.store c.args.pair.above c.args.pair.there c.requires.there

pub are_same_quarters-returns-then-not-branch-clause-answer : goal.are_same_quarters-returns-then-not-branch-clause-answer
are_same_quarters-returns-then-not-branch-clause-answer t c =
    let qa : AreQuarters c.args.plane.now.store c.args.pair.above c.args.pair.here c.quarter_parts-a.result = rw c.square.ensures at c.quarter_parts-a.ensures in
    let qb : AreQuarters c.args.other.now.store c.args.pair.above c.args.pair.there c.quarter_parts-b.result = rw c.square-2.ensures at c.quarter_parts-b.ensures in
    refuted _ (AreSameSquares c.args.plane.now.store c.args.other.now.store c.args.pair.above c.args.pair.here c.args.pair.there) c.in_ok-are_same_remembered.field-0 c.if-not-branch.true c.in_ok-are_same_remembered.ensures.answer
    (λ whole. related_0 (λ (v w : Write). v ≡ w) c.args.plane.now.store c.args.other.now.store c.args.pair.above c.args.pair.here c.args.pair.there c.requires.above _ _ qa qb whole _ _)

pub are_same_quarters-returns-then-not-branch-2-clause-answer : goal.are_same_quarters-returns-then-not-branch-2-clause-answer
are_same_quarters-returns-then-not-branch-2-clause-answer t c =
    let qa : AreQuarters c.args.plane.now.store c.args.pair.above c.args.pair.here c.quarter_parts-a.result = rw c.square.ensures at c.quarter_parts-a.ensures in
    let qb : AreQuarters c.args.other.now.store c.args.pair.above c.args.pair.there c.quarter_parts-b.result = rw c.square-2.ensures at c.quarter_parts-b.ensures in
    refuted _ (AreSameSquares c.args.plane.now.store c.args.other.now.store c.args.pair.above c.args.pair.here c.args.pair.there) c.in_ok-are_same_remembered-2.field-0 c.if-not-branch-2.true c.in_ok-are_same_remembered-2.ensures.answer
    (λ whole. related_1 (λ (v w : Write). v ≡ w) c.args.plane.now.store c.args.other.now.store c.args.pair.above c.args.pair.here c.args.pair.there c.requires.above _ _ qa qb whole _ _)

pub are_same_quarters-returns-then-not-branch-3-clause-answer : goal.are_same_quarters-returns-then-not-branch-3-clause-answer
are_same_quarters-returns-then-not-branch-3-clause-answer t c =
    let qa : AreQuarters c.args.plane.now.store c.args.pair.above c.args.pair.here c.quarter_parts-a.result = rw c.square.ensures at c.quarter_parts-a.ensures in
    let qb : AreQuarters c.args.other.now.store c.args.pair.above c.args.pair.there c.quarter_parts-b.result = rw c.square-2.ensures at c.quarter_parts-b.ensures in
    refuted _ (AreSameSquares c.args.plane.now.store c.args.other.now.store c.args.pair.above c.args.pair.here c.args.pair.there) c.in_ok-are_same_remembered-3.field-0 c.if-not-branch-3.true c.in_ok-are_same_remembered-3.ensures.answer
    (λ whole. related_2 (λ (v w : Write). v ≡ w) c.args.plane.now.store c.args.other.now.store c.args.pair.above c.args.pair.here c.args.pair.there c.requires.above _ _ qa qb whole _ _)

pub are_same_quarters-returns-clause-answer : goal.are_same_quarters-returns-clause-answer
are_same_quarters-returns-clause-answer t c =
    let qa : AreQuarters c.args.plane.now.store c.args.pair.above c.args.pair.here c.quarter_parts-a.result = rw c.square.ensures at c.quarter_parts-a.ensures in
    let qb : AreQuarters c.args.other.now.store c.args.pair.above c.args.pair.there c.quarter_parts-b.result = rw c.square-2.ensures at c.quarter_parts-b.ensures in (
      λ h. related_whole (λ (v w : Write). v ≡ w) c.args.plane.now.store c.args.other.now.store c.args.pair.above c.args.pair.here c.args.pair.there c.requires.above _ _ qa qb _ _ _ _ _ _ _ _ (c.in_ok-are_same_remembered.ensures.answer.0 c.if-not-branch.false) (c.in_ok-are_same_remembered-2.ensures.answer.0 c.if-not-branch-2.false) (c.in_ok-are_same_remembered-3.ensures.answer.0 c.if-not-branch-3.false) (c.in_ok-last.ensures.answer.0 h),
      λ whole. c.in_ok-last.ensures.answer.1 (related_3 (λ (v w : Write). v ≡ w) c.args.plane.now.store c.args.other.now.store c.args.pair.above c.args.pair.here c.args.pair.there c.requires.above _ _ qa qb whole _ _),
    )
