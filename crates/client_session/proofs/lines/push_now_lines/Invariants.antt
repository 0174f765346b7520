use Rattle.std.proofs.Common.{◌≡◌, ◌++◌}
use Rattle.std.specs.Slice.Iter.{chunks_rest, chunks_size}
use mathlib.Core.List.{IsPrefix}
use Rattle.client_session.specs.Lines.{now_lines}
use Rattle.client_session.proofs.lines.push_now_lines.Given as goal

-- the lines that are printed, and then those of the cells that are left, are the lines of all; what was printed before stands
abbrev pub invariant-loop-line : goal.invariant-loop-line
invariant-loop-line l =
    goal.iterator-loop-line.can_next l.line-iterator
    × goal.iterator-loop-line.is_finite l.line-iterator
    × (chunks_size l.line-iterator ≡ 1000)
    × (l.fn.out.items ++ now_lines 1000 l.fn.cells ≡ l.out.items ++ now_lines 1000 (chunks_rest l.line-iterator))
    × IsPrefix l.fn.out.items l.out.items
