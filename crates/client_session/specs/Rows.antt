-- Worked values of the definitions.
use Rattle.std.specs.Prelude.{◌≡◌, ℕ, [], ◌∷◌, ◌++◌, replicate, codes, refl, pos}
use Rattle.std.specs.Fmt.{digits}
use Rattle.generations_rule.specs.RuleText.{rule_of_text, text_of_set}
use Rattle.pattern_cells.specs.declared.cell.Cell.{Cell}
use Rattle.drawing_history.specs.declared.way.Way.TheVariants.{Redo}
use Rattle.client_session.specs.Lines.{back_line, edits_line, joined_line, lines_within, now_line, refusal_line, replaced_lines}

pub joined_at_a_board : joined_line 1 (rule_of_text (codes "/2/3")) ≡ codes "joined 1 /2/3\n"
unfolding digits text_of_set
joined_at_a_board = refl

pub two_cells_look_different : now_line (record { x = pos 1; y = pos 0; state = 2 } ∷ record { x = pos 0; y = pos 7; state = 0 } ∷ []) ≡ codes "now 1 0 2 0 7 0\n"
unfolding digits
two_cells_look_different = refl

pub no_cell_looks_different : now_line [] ≡ []
no_cell_looks_different = refl

-- a cell of row 0
abbrev dot : ℕ → Cell
dot x = record { x = pos x; y = pos 0; state = 1 }

pub a_board_that_looks_as_before : replaced_lines [] ≡ []
a_board_that_looks_as_before = refl

pub few_cells_behind_a_whole_plane : replaced_lines (dot 4 ∷ dot 5 ∷ []) ≡ codes "now 4 0 1 5 0 1\n"
unfolding digits
few_cells_behind_a_whole_plane = refl

pub a_line_has_a_thousand_cells : replaced_lines (replicate 1001 (dot 4)) ≡ now_line (replicate 1000 (dot 4)) ++ codes "now 4 0 1\n"
unfolding digits
a_line_has_a_thousand_cells = refl

pub lines_of_two_cells : lines_within 5 2 (dot 4 ∷ dot 5 ∷ dot 6 ∷ dot 7 ∷ dot 8 ∷ []) ≡ codes "now 4 0 1 5 0 1\nnow 6 0 1 7 0 1\nnow 8 0 1\n"
unfolding digits
lines_of_two_cells = refl

pub one_cell_more_than_the_limit : lines_within 4 2 (dot 4 ∷ dot 5 ∷ dot 6 ∷ dot 7 ∷ dot 8 ∷ []) ≡ codes "many 5 cells look different: export 0 has them\n"
unfolding digits
one_cell_more_than_the_limit = refl

pub no_edit_came : edits_line 0 ≡ codes "edits 0\n"
unfolding digits
no_edit_came = refl

pub closed : refusal_line 30 ≡ codes "refused 30 Closed\n"
unfolding digits
closed = refl

pub a_redo_is_told_by_its_stamp : back_line Redo 7 2 ≡ codes "redone 7 2\n"
unfolding digits
a_redo_is_told_by_its_stamp = refl
