use Rattle.std.proofs.Common.{ℕ, ◌-◌}
use Rattle.square_store.specs.Squares.{IsAt}
use Rattle.samples.proofs.path.one_cell.Given as goal

-- the blank is of every level, and the part of the level below the next
abbrev pub invariant-loop-level : goal.invariant-loop-level
invariant-loop-level l = record {
  blank : (k : ℕ) → IsAt l.plane.store k l.blank;
  part : IsAt l.plane.store (l.level - 3 - 1) l.part;
}
