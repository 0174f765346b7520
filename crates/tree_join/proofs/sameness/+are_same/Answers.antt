use Rattle.std.proofs.Common.{◌≡◌, arith}
use Rattle.stamped_writes.specs.declared.write.Write.{Write}
use Rattle.square_store.proofs.Places.{at_within}
use Rattle.tree_join.specs.Squares.{AreQuarters, AreSameSquares}
use Rattle.tree_join.proofs.Comparing.{refuted, related_0, related_1, related_2, related_3, related_whole}
use Rattle.tree_join.proofs.sameness.+are_same.Goals as goal

pub square-square-requires : goal.square-square-requires
square-square-requires t c = at_within c.args.plane.now.store c.args.above c.args.part c.requires.part

pub square-counterpart-requires : goal.square-counterpart-requires
square-counterpart-requires t c = at_within c.args.other.now.store c.args.above c.args.others c.requires.others

pub returns-then-not-are_same : goal.returns-then-not-are_same
returns-then-not-are_same t c =
    let qa : AreQuarters c.args.plane.now.store c.args.above c.args.part c.quarter_parts-a.result = rw c.square-square.ensures at c.quarter_parts-a.ensures in
    let qb : AreQuarters c.args.other.now.store c.args.above c.args.others c.quarter_parts-b.result = rw c.square-counterpart.ensures at c.quarter_parts-b.ensures in
    refuted _ (AreSameSquares c.args.plane.now.store c.args.other.now.store c.args.above c.args.part c.args.others) c.are_same.result c.if-not-are_same.true c.are_same.ensures
    (λ whole. related_0 (λ (v w : Write). v ≡ w) c.args.plane.now.store c.args.other.now.store c.args.above c.args.part c.args.others (omega arith) _ _ qa qb whole _ _)

pub returns-then-not-are_same-2 : goal.returns-then-not-are_same-2
returns-then-not-are_same-2 t c =
    let qa : AreQuarters c.args.plane.now.store c.args.above c.args.part c.quarter_parts-a.result = rw c.square-square.ensures at c.quarter_parts-a.ensures in
    let qb : AreQuarters c.args.other.now.store c.args.above c.args.others c.quarter_parts-b.result = rw c.square-counterpart.ensures at c.quarter_parts-b.ensures in
    refuted _ (AreSameSquares c.args.plane.now.store c.args.other.now.store c.args.above c.args.part c.args.others) c.are_same-2.result c.if-not-are_same-2.true c.are_same-2.ensures
    (λ whole. related_1 (λ (v w : Write). v ≡ w) c.args.plane.now.store c.args.other.now.store c.args.above c.args.part c.args.others (omega arith) _ _ qa qb whole _ _)

pub returns-then-not-are_same-3 : goal.returns-then-not-are_same-3
returns-then-not-are_same-3 t c =
    let qa : AreQuarters c.args.plane.now.store c.args.above c.args.part c.quarter_parts-a.result = rw c.square-square.ensures at c.quarter_parts-a.ensures in
    let qb : AreQuarters c.args.other.now.store c.args.above c.args.others c.quarter_parts-b.result = rw c.square-counterpart.ensures at c.quarter_parts-b.ensures in
    refuted _ (AreSameSquares c.args.plane.now.store c.args.other.now.store c.args.above c.args.part c.args.others) c.are_same-3.result c.if-not-are_same-3.true c.are_same-3.ensures
    (λ whole. related_2 (λ (v w : Write). v ≡ w) c.args.plane.now.store c.args.other.now.store c.args.above c.args.part c.args.others (omega arith) _ _ qa qb whole _ _)

pub returns : goal.returns
returns t c =
    let qa : AreQuarters c.args.plane.now.store c.args.above c.args.part c.quarter_parts-a.result = rw c.square-square.ensures at c.quarter_parts-a.ensures in
    let qb : AreQuarters c.args.other.now.store c.args.above c.args.others c.quarter_parts-b.result = rw c.square-counterpart.ensures at c.quarter_parts-b.ensures in (
      λ h. related_whole (λ (v w : Write). v ≡ w) c.args.plane.now.store c.args.other.now.store c.args.above c.args.part c.args.others (omega arith) _ _ qa qb _ _ _ _ _ _ _ _ (c.are_same.ensures.0 c.if-not-are_same.false) (c.are_same-2.ensures.0 c.if-not-are_same-2.false) (c.are_same-3.ensures.0 c.if-not-are_same-3.false) (c.are_same-4.ensures.0 h),
      λ whole. c.are_same-4.ensures.1 (related_3 (λ (v w : Write). v ≡ w) c.args.plane.now.store c.args.other.now.store c.args.above c.args.part c.args.others (omega arith) _ _ qa qb whole _ _),
    )
