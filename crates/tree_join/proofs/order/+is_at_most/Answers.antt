use Rattle.std.proofs.Common.{refl, arith}
use Rattle.std.specs.Prelude.{IsTrue}
use Rattle.stamped_writes.specs.declared.write.Write.{Write}
use Rattle.stamped_writes.specs.Write.{at_most}
use Rattle.square_store.proofs.Places.{at_within}
use Rattle.tree_join.specs.Squares.{AreQuarters, AreSquaresAtMost}
use Rattle.tree_join.proofs.Comparing.{refuted, related_0, related_1, related_2, related_3, related_whole}
use Rattle.tree_join.proofs.order.+is_at_most.Goals as goal

pub square-square-requires : goal.square-square-requires
square-square-requires t c = at_within c.args.plane.now.store c.args.above c.args.part c.requires.part

pub square-counterpart-requires : goal.square-counterpart-requires
square-counterpart-requires t c = at_within c.args.other.now.store c.args.above c.args.others c.requires.others

pub returns-then-is_surely_at_most : goal.returns-then-is_surely_at_most
returns-then-is_surely_at_most t c = (λ h. (rw (c.square-square.ensures, c.square-counterpart.ensures) at c.if-is_surely_at_most.ensures) refl c.args.above c.requires.part c.requires.others, λ h. refl)

pub returns-then-not-is_at_most : goal.returns-then-not-is_at_most
returns-then-not-is_at_most t c =
    let qa : AreQuarters c.args.plane.now.store c.args.above c.args.part c.quarter_parts-a.result = rw c.square-square.ensures at c.quarter_parts-a.ensures in
    let qb : AreQuarters c.args.other.now.store c.args.above c.args.others c.quarter_parts-b.result = rw c.square-counterpart.ensures at c.quarter_parts-b.ensures in
    refuted _ (AreSquaresAtMost c.args.plane.now.store c.args.other.now.store c.args.above c.args.part c.args.others) c.is_at_most.result c.if-not-is_at_most.true c.is_at_most.ensures
    (λ whole. related_0 (λ (v w : Write). IsTrue (at_most v w)) c.args.plane.now.store c.args.other.now.store c.args.above c.args.part c.args.others (omega arith) _ _ qa qb whole _ _)

pub returns-then-not-is_at_most-2 : goal.returns-then-not-is_at_most-2
returns-then-not-is_at_most-2 t c =
    let qa : AreQuarters c.args.plane.now.store c.args.above c.args.part c.quarter_parts-a.result = rw c.square-square.ensures at c.quarter_parts-a.ensures in
    let qb : AreQuarters c.args.other.now.store c.args.above c.args.others c.quarter_parts-b.result = rw c.square-counterpart.ensures at c.quarter_parts-b.ensures in
    refuted _ (AreSquaresAtMost c.args.plane.now.store c.args.other.now.store c.args.above c.args.part c.args.others) c.is_at_most-2.result c.if-not-is_at_most-2.true c.is_at_most-2.ensures
    (λ whole. related_1 (λ (v w : Write). IsTrue (at_most v w)) c.args.plane.now.store c.args.other.now.store c.args.above c.args.part c.args.others (omega arith) _ _ qa qb whole _ _)

pub returns-then-not-is_at_most-3 : goal.returns-then-not-is_at_most-3
returns-then-not-is_at_most-3 t c =
    let qa : AreQuarters c.args.plane.now.store c.args.above c.args.part c.quarter_parts-a.result = rw c.square-square.ensures at c.quarter_parts-a.ensures in
    let qb : AreQuarters c.args.other.now.store c.args.above c.args.others c.quarter_parts-b.result = rw c.square-counterpart.ensures at c.quarter_parts-b.ensures in
    refuted _ (AreSquaresAtMost c.args.plane.now.store c.args.other.now.store c.args.above c.args.part c.args.others) c.is_at_most-3.result c.if-not-is_at_most-3.true c.is_at_most-3.ensures
    (λ whole. related_2 (λ (v w : Write). IsTrue (at_most v w)) c.args.plane.now.store c.args.other.now.store c.args.above c.args.part c.args.others (omega arith) _ _ qa qb whole _ _)

pub returns : goal.returns
returns t c =
    let qa : AreQuarters c.args.plane.now.store c.args.above c.args.part c.quarter_parts-a.result = rw c.square-square.ensures at c.quarter_parts-a.ensures in
    let qb : AreQuarters c.args.other.now.store c.args.above c.args.others c.quarter_parts-b.result = rw c.square-counterpart.ensures at c.quarter_parts-b.ensures in (
      λ h. related_whole (λ (v w : Write). IsTrue (at_most v w)) c.args.plane.now.store c.args.other.now.store c.args.above c.args.part c.args.others (omega arith) _ _ qa qb _ _ _ _ _ _ _ _ (c.is_at_most.ensures.0 c.if-not-is_at_most.false) (c.is_at_most-2.ensures.0 c.if-not-is_at_most-2.false) (c.is_at_most-3.ensures.0 c.if-not-is_at_most-3.false) (c.is_at_most-4.ensures.0 h),
      λ whole. c.is_at_most-4.ensures.1 (related_3 (λ (v w : Write). IsTrue (at_most v w)) c.args.plane.now.store c.args.other.now.store c.args.above c.args.part c.args.others (omega arith) _ _ qa qb whole _ _),
    )
