-- The lines that a client prints.
use Rattle.std.specs.Prelude.{Bool, true, false, ℕ, zero, suc, nat_lt, if◌then◌else◌, List, [], ◌∷◌, ◌++◌, length, take, drop, codes, decimal, Option, None, Some}
use Rattle.generations_rule.specs.Rule.{GenerationsRule}
use Rattle.generations_rule.specs.RuleText.{text_of}
use Rattle.pattern_cells.specs.declared.cell.Cell.{Cell}
use Rattle.drawing_history.specs.Ways.{way_done}
use Rattle.drawing_history.specs.declared.way.Way.{Way}
use Rattle.genedit_io.specs.RunFault.{run_fault_text}
use Rattle.genedit_io.specs.declared.fault.RunFault.TheVariants.{Refused}
use Rattle.genedit_lib.specs.EditLines.{cells_text}
use Rattle.genedit_lib.specs.Output.{no_pattern_line}

-- the seat's number, and the board's rule
abbrev pub joined_line : ℕ → GenerationsRule → List ℕ
joined_line number rule = codes "joined " ++ decimal number ++ codes " " ++ text_of rule ++ codes "\n"

-- ---- what came: each edit in a line, or which cells look different

-- cells that look different, as they are now; no line where there is none
abbrev pub now_line : List Cell → List ℕ
now_line [] = []
now_line (cell ∷ cells) = codes "now" ++ cells_text (cell ∷ cells) ++ codes "\n"

-- the server sent its plane
abbrev pub whole_line : List ℕ
whole_line = codes "whole\n"

-- ---- what looks different behind a whole plane

-- so many lines of at most so many cells each, from the first on; no line where no cell is left
abbrev pub lines_of : (size lines : ℕ) → List Cell → List ℕ
lines_of size zero cells = []
lines_of size (suc lines) cells = now_line (take size cells) ++ lines_of size lines (drop size cells)

-- cells that look different, as they are now, in as many lines of at most so many as they need
abbrev pub now_lines : ℕ → List Cell → List ℕ
now_lines size cells = lines_of size (length cells) cells

-- so many cells look different, none of which is told
abbrev pub many_line : ℕ → List ℕ
many_line number = codes "many " ++ decimal number ++ codes " cells look different: export 0 has them\n"

-- cells are told in lines of at most so many; of more cells than a limit their number alone is
abbrev pub lines_within : (most size : ℕ) → List Cell → List ℕ
lines_within most size cells = if nat_lt most (length cells) then many_line (length cells) else now_lines size cells

-- at most 100,000 cells are told, 1,000 in a line
abbrev pub replaced_lines : List Cell → List ℕ
replaced_lines cells = lines_within 100000 1000 cells

-- ---- numbers of edits

abbrev pub edits_line : ℕ → List ℕ
edits_line number = codes "edits " ++ decimal number ++ codes "\n"

abbrev pub late_line : ℕ → List ℕ
late_line number = codes "late " ++ decimal number ++ codes "\n"

-- ---- what was done

abbrev pub drawn_line : ℕ → ℕ → List ℕ
drawn_line counter number = codes "drawn " ++ decimal counter ++ codes " " ++ decimal number ++ codes "\n"

-- the same of an edit that was in doubt, and that the board did not have
abbrev pub anew_line : ℕ → ℕ → List ℕ
anew_line counter number = codes "drawn anew " ++ decimal counter ++ codes " " ++ decimal number ++ codes "\n"

-- the same of an edit that takes something back
abbrev pub back_line : Way → ℕ → ℕ → List ℕ
back_line way counter number = way_done way ++ codes " " ++ decimal counter ++ codes " " ++ decimal number ++ codes "\n"

-- which way an edit takes something back, if it does, and whether it was drawn anew, is told
abbrev pub drawn_as : Option Way → Bool → ℕ → ℕ → List ℕ
drawn_as None false counter number = drawn_line counter number
drawn_as None true counter number = anew_line counter number
drawn_as (Some way) anew counter number = back_line way counter number

-- a refusal by its number, with the name that the table of faults has
abbrev pub refusal_line : ℕ → List ℕ
refusal_line number = run_fault_text (Refused number None) ++ codes "\n"

-- the name of a paste stands for no pattern
abbrev pub nameless_line : List ℕ
nameless_line = no_pattern_line ++ codes "\n"
