use Rattle.std.proofs.Common.{◌≡◌, ◌∙◌, ◌+◌, ◌++◌, ap, arith, length, List, ℕ}
use Rattle.std.specs.Prelude.{false, option_to_list}
use Rattle.std.specs.Str.Lines.{lines}
use Rattle.genedit_script.specs.Script.{lines_from}
use Rattle.script_faults.specs.Faults.{fault_lines, faulty_lines, is_passed}
use Rattle.script_faults.proofs.FaultLemmas.{told_on, due_is, told_whole, told_begin}
use Rattle.script_faults.proofs.notes.notes_in.Goals as goal

pub loop-line-preserved-then-not-passes : goal.loop-line-preserved-then-not-passes
loop-line-preserved-then-not-passes c =
    let passed : is_passed c.loop-line.due c.in-Some.line.text.now ≡ false = cc in
    let next = due_is c.loop-line.due c.behind-due.result c.in-Some.line.text.now (lines_from c.next_line.new.self.number c.next_line.new.self.rest.now) c.opens_closed-closed.result
    c.opens_closed-closed.ensures.closed c.behind-due.ensures in
    record {
      told = told_on (fault_lines c.loop-line.notes.items) (fault_lines c.push_told.new.notes.items) (fault_lines (option_to_list c.in_ok-note_at.field-0)) c.loop-line.due c.behind-due.result
          (length (lines c.args.script.now) + 1) (record { number = c.in-Some.line.number; text = c.in-Some.line.text.now })
          (lines_from c.loop-line.lines.number c.loop-line.lines.rest.now) (lines_from c.next_line.new.self.number c.next_line.new.self.rest.now) (faulty_lines c.args.script.now)
          c.in-Some.ensures.line passed c.in_ok-push_told.ensures c.in_ok-note_at.ensures next c.loop-line.invariant.told;
      end = c.in-Some.ensures.all ∙ c.loop-line.invariant.end;
      known = c.opens_closed-closed.ensures.known;
    }

pub returns-clause-first : goal.returns-clause-first
returns-clause-first c =
    let end : c.next_line.new.self.number ≡ length (lines c.args.script.now) + 1 =
    omega (arith, ap length c.in_default.ensures.end, c.next_line.ensures.all, c.loop-line.invariant.end) in
    told_begin c.args.script.now (fault_lines c.push_told-2.new.notes.items)
    (told_whole (fault_lines c.loop-line.notes.items) (fault_lines c.push_told-2.new.notes.items) c.loop-line.due (length (lines c.args.script.now) + 1) c.next_line.new.self.number
    (lines_from c.loop-line.lines.number c.loop-line.lines.rest.now) (faulty_lines c.args.script.now) c.in_default.ensures.line end
    (c.in_ok-push_told-2.ensures ∙ ap (λ (told : List ℕ). fault_lines c.loop-line.notes.items ++ told) c.note_behind.ensures) c.loop-line.invariant.told)
