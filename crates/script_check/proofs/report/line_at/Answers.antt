use Rattle.std.proofs.Common.{arith, inl}
use Rattle.script_check.proofs.LineLemmas.{further, is_first, is_none, none_left, still_left}
use Rattle.script_check.proofs.report.line_at.Goals as goal
use Rattle.script_check.proofs.report.line_at.Goals.{in_default-next_line-via-in-Some-next_line+else-line-number, in_default-next_line-via-in_default-next_line}

pub loop-lines-smaller : goal.loop-lines-smaller
loop-lines-smaller c =
    let f = further c.loop-lines.lines.rest.now c.loop-lines.lines.number _ c.next_line.new.self.number c.next_line.new.self.rest.now c.in-Some.ensures.line c.in-Some.ensures.all in
    let t = c.loop-lines-test.true in
    omega (arith, f, t)

pub loop-lines-preserved : goal.loop-lines-preserved
loop-lines-preserved c =
    let f = further c.loop-lines.lines.rest.now c.loop-lines.lines.number _ c.next_line.new.self.number c.next_line.new.self.rest.now c.in-Some.ensures.line c.in-Some.ensures.all in
    let t = c.loop-lines-test.true in
    record {
      left = still_left c.loop-lines.lines.rest.now c.loop-lines.lines.number _ c.next_line.new.self.number c.next_line.new.self.rest.now c.in-Some.ensures.line c.args.script.now c.loop-lines.invariant.left f;
      begun = inl (omega (arith, f, t));
    }

pub returns-in-Some-next_line-clause-line : goal.returns-in-Some-next_line-clause-line
returns-in-Some-next_line-clause-line c =
    is_first c.loop-lines.lines.rest.now c.loop-lines.lines.number _ c.next_line-2.new.self.number c.next_line-2.new.self.rest.now c.in-Some-next_line.ensures.line c.args.script.now c.loop-lines.invariant.left
    c.args.number c.if-line-number.true

pub returns-in_default-next_line-clause-line : goal.returns-in_default-next_line-clause-line
returns-in_default-next_line-clause-line c =
    elim c.in_default-next_line.branch [
      | in_default-next_line-via-in-Some-next_line+else-line-number w ↦
          is_none c.loop-lines.lines.rest.now c.loop-lines.lines.number _ c.next_line-2.new.self.number c.next_line-2.new.self.rest.now w.in-Some-next_line.ensures.line c.args.script.now c.args.number
          c.loop-lines.invariant.begun (let t = c.loop-lines-test.false in omega (arith, t)) w.if-line-number.false
      | in_default-next_line-via-in_default-next_line w ↦
          none_left c.args.script.now c.loop-lines.lines.rest.now c.loop-lines.lines.number c.args.number c.loop-lines.invariant.left w.in_default-next_line.ensures.line c.loop-lines.invariant.begun
    ]
