use Rattle.std.proofs.Common.{List, ◌++◌, ℕ, rules, arith, sym, ap, ◌∙◌, append_assoc}
use Rattle.std.specs.Slice.Iter.{chunks_rest}
use Rattle.client_session.specs.Lines.{now_line, now_lines}
use Rattle.client_session.proofs.LineLaws.{line_first}
use Rattle.client_session.proofs.lines.push_now_lines.Goals as goal

pub loop-line-preserved : goal.loop-line-preserved
loop-line-preserved c =
    let steps = c.in-Some.ensures.steps in
    let size = c.loop-line.invariant.2 in
    let before = c.loop-line.invariant.4 in
    let line = c.in-Some.line.now in
    let rest = chunks_rest c.next.new.self in
    let lines = line_first 1000 (omega arith) _ line rest steps.1.0 (rw size at steps.1.1) steps.1.2 in (
      search rules,
      tt,
      steps.0 ∙ size,
      c.loop-line.invariant.3
          ∙ ap (λ (text : List ℕ). c.loop-line.out.items ++ text) lines
          ∙ sym (append_assoc c.loop-line.out.items (now_line line) (now_lines 1000 rest))
          ∙ ap (λ (text : List ℕ). text ++ now_lines 1000 rest) (sym c.in_ok-push_now.ensures.told),
      (
        before.0 ++ now_line line,
        sym (append_assoc c.args.out.now.items before.0 (now_line line)) ∙ ap (λ (text : List ℕ). text ++ now_line line) before.1 ∙ sym c.in_ok-push_now.ensures.told,
      ),
    )
