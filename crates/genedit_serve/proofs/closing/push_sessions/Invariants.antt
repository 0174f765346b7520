use Rattle.std.proofs.Common.{◌≡◌, ◌++◌, ◌+◌, length}
use Rattle.genedit_serve.specs.Closing.{session_lines}
use Rattle.genedit_serve.proofs.closing.push_sessions.Given as goal

-- with the lines of the sessions that are left, all lines are there
abbrev pub invariant-loop-edits : goal.invariant-loop-edits
invariant-loop-edits l =
    (l.out.items ++ session_lines l.number l.edits-iterator.a.rest.now l.edits-iterator.b.rest.now ≡ l.fn.out.items ++ session_lines l.fn.first l.fn.accepted l.fn.ends)
    × (l.number + length l.edits-iterator.a.rest.now ≡ l.fn.first + length l.fn.accepted)
