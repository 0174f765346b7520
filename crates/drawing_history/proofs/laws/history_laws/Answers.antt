use Rattle.drawing_history.proofs.Undoing.{redoes_drawing, redoes_stroke, undoes_drawing, undoes_stroke}
use Rattle.drawing_history.proofs.laws.history_laws.Goals as goal

pub returns-clause-undo : goal.returns-clause-undo
returns-clause-undo c = undoes_stroke

pub returns-clause-redo : goal.returns-clause-redo
returns-clause-redo c = redoes_stroke

pub returns-clause-undo_all : goal.returns-clause-undo_all
returns-clause-undo_all c = undoes_drawing

pub returns-clause-redo_all : goal.returns-clause-redo_all
returns-clause-redo_all c = redoes_drawing
