use Rattle.std.proofs.Common.{◌≡◌, ◌+◌, ◌≤◌, length}
use Rattle.std.specs.Str.Lines.{lines}
use Rattle.genedit_script.specs.Script.{lines_from, past_skipped}
use Rattle.genedit_script.proofs.line.Lines.next_spoken.Given as goal

-- skipped lines are counted, and say nothing
abbrev pub invariant-loop-line : goal.invariant-loop-line
invariant-loop-line l = record {
  said : past_skipped (lines_from l.self.number l.self.rest.now) ≡ past_skipped (lines_from l.fn.self.number l.fn.self.rest.now);
  counted : l.self.number + length (lines l.self.rest.now) ≡ l.fn.self.number + length (lines l.fn.self.rest.now);
  shorter : length l.self.rest.now ≤ length l.fn.self.rest.now;
}

abbrev pub decreases-loop-line : goal.decreases-loop-line
decreases-loop-line l = length l.self.rest.now
