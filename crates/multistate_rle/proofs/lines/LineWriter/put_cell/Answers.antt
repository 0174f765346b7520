use Rattle.std.proofs.Common.{refl, sym, ◌∙◌, ap, subst, ◌++◌, arith, map, List, [], ◌≢◌}
use Rattle.std.specs.Prelude.{IfSome}
use Rattle.multistate_rle.specs.declared.lines.Run.{Run}
use Rattle.multistate_rle.specs.Tokens.{Token, gap}
use Rattle.multistate_rle.specs.Writing.{token_text}
use Rattle.multistate_rle.specs.Filling.{text_with, run_tokens, WritesPieces}
use Rattle.multistate_rle.proofs.FillLemmas.{parted, extended, writes_both, GoesOn, alive_run}
use Rattle.multistate_rle.proofs.lines.LineWriter.put_cell.Goals as goal
use Rattle.multistate_rle.proofs.lines.LineWriter.put_cell.Goals.{in-Some, in-None+in_ok-put_run-in-None+in_ok-put_gap-in-None}

pub returns : goal.returns
returns c = elim c.match-extended.branch [
  | in-Some w ↦
      let goes : GoesOn c.args.pen c.args.cell w.in-Some.run' = extended c.args.pen c.args.cell w.in-Some.run' (sym w.in-Some.ensures) in
      rw (c.from.ensures, c.from-2.ensures, w.self-is, w.run-is)
      (record {
        text = λ cells rest. ap (λ (tokens : List Token). text_with c.args.self.now (map (token_text c.args.self.now.two_states) tokens ++ rest)) (sym (goes.tokens cells));
        two_states = refl;
        run = (λ dead. c.requires.cell (sym goes.state ∙ dead), rw goes.run (omega arith));
      })
  | in-None+in_ok-put_run-in-None+in_ok-put_gap-in-None w ↦
      let first : WritesPieces c.args.self.now (map (token_text c.args.self.now.two_states) (run_tokens c.args.pen.run [])) w.put_run.new.self = w.in_ok-put_run-in-None.ensures in
      let own : WritesPieces w.put_run.new.self (map (token_text w.put_run.new.self.two_states) (gap c.args.pen.column c.args.pen.row c.args.cell)) w.put_gap.new.self = w.in_ok-put_gap-in-None.ensures in
      let second : WritesPieces w.put_run.new.self (map (token_text c.args.self.now.two_states) (gap c.args.pen.column c.args.pen.row c.args.cell)) w.put_gap.new.self =
      subst (λ two. WritesPieces w.put_run.new.self (map (token_text two) (gap c.args.pen.column c.args.pen.row c.args.cell)) w.put_gap.new.self) first.two_states own in
      let alive : IfSome c.args.pen.run (λ (r : Run). r.state ≢ 0) = alive_run c.args.pen.run c.requires.pen in
      rw (c.from.ensures, c.from-2.ensures, w.self-is, w.run-is)
      (record {
        text = λ cells rest. writes_both c.args.self.now.two_states c.args.self.now w.put_run.new.self w.put_gap.new.self _ _ _ _ first second (parted c.args.pen c.args.cell cells alive (sym w.in-None.ensures)) rest;
        two_states = second.two_states ∙ first.two_states;
        run = (c.requires.cell, omega arith);
      })
]
