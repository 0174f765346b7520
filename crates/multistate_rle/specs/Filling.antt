-- What is written so far, and what is still to come.
use Rattle.std.specs.Prelude.{◌≡◌, ◌≢◌, ℕ, ◌+◌, ◌≤◌, ◌^◌, ◌&&◌, nat_le, ◌==◌, if◌then◌else◌, List, ◌∷◌, ◌++◌, map, Option, Some, None, unwrap_or, option_map, IfSome}
use Rattle.multistate_rle.specs.declared.lines.LineWriter.{LineWriter}
use Rattle.multistate_rle.specs.declared.lines.WritingPen.{WritingPen}
use Rattle.multistate_rle.specs.declared.lines.Run.{Run}
use Rattle.pattern_cells.specs.declared.pattern.PatternCell.{PatternCell}
use Rattle.multistate_rle.specs.Tokens.{Token, with_run, tokens_from}
use Rattle.multistate_rle.specs.Writing.{wrapped, token_text}

-- the whole text, once the pieces that follow are written too
abbrev pub text_with : LineWriter → List (List ℕ) → List ℕ
text_with lines pieces = lines.text.items ++ wrapped lines.used pieces

-- Pieces were written: whatever follows, the whole text is what it would have been with the pieces in front.
pub record WritesPieces (old : LineWriter) (pieces : List (List ℕ)) (new : LineWriter) : Type 0 where
  pub text : (rest : List (List ℕ)) → text_with new rest ≡ text_with old (pieces ++ rest)
  pub two_states : new.two_states ≡ old.two_states

abbrev pub no_pen : WritingPen
no_pen = record { column = 0; row = 0; run = None }

-- a run in front of tokens, one with those of its state
abbrev pub run_tokens : Option Run → List Token → List Token
run_tokens None tokens = tokens
run_tokens (Some r) tokens = with_run r.count r.state tokens

-- the tokens of what a pen has not written and of the cells that follow
abbrev pub tokens_with : WritingPen → List PatternCell → List Token
tokens_with pen cells = run_tokens pen.run (tokens_from pen.column pen.row cells)

-- the run of which a cell is one more
abbrev pub extends_run : WritingPen → PatternCell → Run → Option Run
extends_run pen cell r = if cell.row == pen.row && nat_le cell.column pen.column && r.state == cell.state then Some r else None

abbrev pub extends : WritingPen → PatternCell → Option Run
extends pen cell = elim pen.run [ None ↦ None | Some r ↦ extends_run pen cell r ]

-- its run is no dead one, and can grow
abbrev pub IsPen : WritingPen → Type 0
IsPen pen = IfSome pen.run (λ r. (r.state ≢ 0) × (r.count + 1 ≤ 2 ^ 63))

-- a cell was taken: what follows is written as behind the cell
pub record WritesCell (old : LineWriter) (pen : WritingPen) (cell : PatternCell) (next : WritingPen) (new : LineWriter) : Type 0 where
  pub text : (cells : List PatternCell) (rest : List (List ℕ)) →
      text_with new (map (token_text old.two_states) (tokens_with next cells) ++ rest)
      ≡ text_with old (map (token_text old.two_states) (tokens_with pen (cell ∷ cells)) ++ rest)
  pub two_states : new.two_states ≡ old.two_states
  pub run : IfSome next.run (λ r. (r.state ≢ 0) × (r.count ≤ unwrap_or (option_map (λ (r : Run). r.count) pen.run) 0 + 1))
