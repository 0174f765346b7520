use Rattle.std.proofs.Common.{◌≡◌, ◌≤◌, [], length}
use Rattle.std.specs.Prelude.{Some}
use Rattle.genedit_script.specs.Script.{commands_spelled, lines_from}
use Rattle.genedit_script.proofs.script.block_in.Given as goal

-- the block goes on with the text so far
abbrev pub invariant-loop-line : goal.invariant-loop-line
invariant-loop-line l = record {
  goes_on : commands_spelled (Some (record { line = l.number; name = l.name; text = l.text.items })) (lines_from l.lines.number l.lines.rest.now)
      ≡ commands_spelled (Some (record { line = l.number; name = l.name; text = [] })) (lines_from l.fn.lines.number l.fn.lines.rest.now);
  shorter : length l.lines.rest.now ≤ length l.fn.lines.rest.now;
}

abbrev pub decreases-loop-line : goal.decreases-loop-line
decreases-loop-line l = length l.lines.rest.now
