use Rattle.std.proofs.Common.{subst, arith, ℕ, ◌+◌, ◌-◌, ◌≡◌}
use Rattle.square_store.specs.Squares.{IsAt}
use Rattle.square_store.proofs.Drawn.{four_at}
use Rattle.samples.proofs.path.one_cell.Goals as goal

below : (level : ℕ) → level - 3 ≡ level + 1 - 3 - 1
below level = omega arith

pub loop-level-init : goal.loop-level-init
loop-level-init c = record {
  blank = λ k. c.in_ok-part.ensures.grows.store.stands k _ (c.in_ok-blank.ensures.draws k).stands;
  part = c.in_ok-part.ensures.draws.stands;
}

pub add_four-requires-clause-parts : goal.add_four-requires-clause-parts
add_four-requires-clause-parts c =
    let blank = c.loop-level.invariant.blank (c.loop-level.level - 3 - 1) in
    four_at _ _ _ _ _ _ c.loop-level.invariant.part blank blank blank

pub loop-level-preserved : goal.loop-level-preserved
loop-level-preserved c = record {
  blank = λ k. c.in_ok-part-2.ensures.grows.store.stands k _ (c.loop-level.invariant.blank k);
  part = subst (λ k. IsAt c.add_four.new.self.store k c.in_ok-part-2.part) (below c.loop-level.level) c.in_ok-part-2.ensures.draws.stands;
}

pub add_four-requires-2-clause-parts : goal.add_four-requires-2-clause-parts
add_four-requires-2-clause-parts c =
    let blank = c.loop-level.invariant.blank 27 in
    let end : c.loop-level.level - 3 - 1 ≡ 27 = omega (arith, c.loop-level-test.false, c.loop-level.auto.level, c.loop-level.auto.level-end) in
    four_at _ _ _ _ _ _ blank blank blank (subst (λ k. IsAt c.loop-level.plane.store k c.loop-level.part) end c.loop-level.invariant.part)
