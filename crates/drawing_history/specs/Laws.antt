-- What taking back obeys.
use Rattle.std.specs.Prelude.{◌≡◌, ◌≢◌, ◌↔◌, ◌⊎◌, ℕ, ◌<◌, List, [], ◌∷◌, Contains, None}
use Rattle.generations_rule.specs.Place.{Place}
use Rattle.pattern_cells.specs.declared.cell.Cell.{Cell}
use Rattle.stamped_writes.specs.Write.{AreSame, Writes, joined, unwritten}
use Rattle.edit_stamps.specs.Edit.{PlaneEdit, writes_of}
use Rattle.cell_changes.specs.Changes.{AreChanges}
use Rattle.drawing_history.specs.declared.stroke.Stroke.{Stroke}
use Rattle.drawing_history.specs.Strokes.{cells_back, stroke_back}

-- ---- drawing

-- an edit with a stamp above all of a map is drawn on it
pub record IsDrawn (before : Writes) (edit : PlaneEdit) (after : Writes) : Type 0 where
  pub above : (c : Place) → (before c).stamp < edit.stamp
  pub drawn : AreSame after (joined before (writes_of edit))

-- a stroke of an edit has its stamp, and the cells that look different afterwards, as they looked before
pub record IsStrokeOf (before : Writes) (edit : PlaneEdit) (after : Writes) (stroke : Stroke) : Type 0 where
  pub stamp : stroke.stamp ≡ edit.stamp
  pub earlier : AreChanges after before stroke.earlier.items

-- edits are drawn one after another
abbrev pub AreDrawn : Writes → List PlaneEdit → Writes → Type 0
AreDrawn before [] after = AreSame after before
AreDrawn before (edit ∷ edits) after = (between : Writes) × (IsDrawn before edit between × AreDrawn between edits after)

-- these are the strokes of edits that are drawn one after another on a map
abbrev pub AreStrokesOf : Writes → List PlaneEdit → List Stroke → Type 0
AreStrokesOf before [] [] = Unit {0}
AreStrokesOf before (edit ∷ edits) (stroke ∷ strokes) = (let after = joined before (writes_of edit) in IsStrokeOf before edit after stroke × AreStrokesOf after edits strokes)
AreStrokesOf before (edit ∷ edits) [] = ⊥
AreStrokesOf before [] (stroke ∷ strokes) = ⊥

-- no place is written by two of the edits
abbrev pub AreApart : List PlaneEdit → Type 0
AreApart [] = Unit {0}
AreApart (edit ∷ edits) = ((other : PlaneEdit) (c : Place) → Contains edits other → (writes_of edit c ≡ unwritten) ⊎ (writes_of other c ≡ unwritten)) × AreApart edits

-- ---- one edit

-- an edit lists just these cells, and has no area
pub record ListsJust (edit : PlaneEdit) (cells : List Cell) : Type 0 where
  pub area : edit.area ≡ None
  pub just : (cell : Cell) → Contains edit.cells cell ↔ Contains cells cell

-- Each place whose write still has the stamp of the edit shows again what it showed before; each other place has the write that it has.
pub record ShowsBefore (stamp : ℕ) (before now undone : Writes) : Type 0 where
  pub still : (c : Place) → (now c).stamp ≡ stamp → (undone c).state ≡ (before c).state
  pub others : (c : Place) → (now c).stamp ≢ stamp → undone c ≡ now c

-- An edit was drawn, and others drew since with other stamps. Another edit, which lists what takes it back, is drawn: that takes it back.
abbrev pub UndoesStroke : Type 0
UndoesStroke = (before after others now undone : Writes) (edit undo : PlaneEdit) (stroke : Stroke)
    → IsDrawn before edit after → IsStrokeOf before edit after stroke
    → AreSame now (joined after others) → ((c : Place) → (others c).stamp ≢ edit.stamp)
    → IsDrawn now undo undone → ListsJust undo (stroke_back now stroke)
    → ShowsBefore edit.stamp before now undone

-- An edit, as one that took another back, is drawn, and taken back the same way with nobody drawing between: each place shows what it showed before both.
abbrev pub RedoesStroke : Type 0
RedoesStroke = (now undone redone : Writes) (undo redo : PlaneEdit) (stroke : Stroke)
    → IsDrawn now undo undone → IsStrokeOf now undo undone stroke
    → IsDrawn undone redo redone → ListsJust redo (stroke_back undone stroke)
    → (c : Place) → (redone c).state ≡ (now c).state

-- ---- many edits

-- some edits list just these cells, each edit some of them, and have no area
pub record ListJust (edits : List PlaneEdit) (cells : List Cell) : Type 0 where
  pub areas : (edit : PlaneEdit) → Contains edits edit → edit.area ≡ None
  pub just : (cell : Cell) → ((edit : PlaneEdit) × (Contains edits edit × Contains edit.cells cell)) ↔ Contains cells cell

-- a stamp is that of one of the strokes
abbrev pub IsStampOf : List Stroke → ℕ → Type 0
IsStampOf strokes stamp = (stroke : Stroke) × (Contains strokes stroke × (stamp ≡ stroke.stamp))

-- the same as of one edit, of all whose strokes these are
pub record ShowBefore (strokes : List Stroke) (before now undone : Writes) : Type 0 where
  pub still : (c : Place) → IsStampOf strokes (now c).stamp → (undone c).state ≡ (before c).state
  pub others : (c : Place) → ¬ IsStampOf strokes (now c).stamp → undone c ≡ now c

-- Edits that write no place in common were drawn one after another, and others drew since with other stamps. Edits that list what takes them back are drawn: that takes them back.
abbrev pub UndoesDrawing : Type 0
UndoesDrawing = (before after others now undone : Writes) (edits undos : List PlaneEdit) (strokes : List Stroke)
    → AreDrawn before edits after → AreStrokesOf before edits strokes → AreApart edits
    → AreSame now (joined after others) → ((c : Place) → ¬ IsStampOf strokes (others c).stamp)
    → AreDrawn now undos undone → ListJust undos (cells_back now strokes)
    → ShowBefore strokes before now undone

-- Edits that write no place in common, as those that took a drawing back, are drawn, and taken back the same way with nobody drawing between.
abbrev pub RedoesDrawing : Type 0
RedoesDrawing = (now undone redone : Writes) (undos redos : List PlaneEdit) (strokes : List Stroke)
    → AreDrawn now undos undone → AreStrokesOf now undos strokes → AreApart undos
    → AreDrawn undone redos redone → ListJust redos (cells_back undone strokes)
    → (c : Place) → (redone c).state ≡ (now c).state
