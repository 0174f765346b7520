-- The lines that tell edits, to whoever follows a board or reads a document.
use Rattle.std.specs.Prelude.{ℕ, ℤ, List, [], ◌++◌, codes, decimal, flat_map, Option, Some, None}
use Rattle.std.specs.Fmt.{signed_decimal}
use Rattle.pattern_cells.specs.declared.cell.Cell.{Cell}
use Rattle.edit_stamps.specs.declared.rect.Rect.{Rect}
use Rattle.edit_stamps.specs.Edit.{PlaneEdit}
use Rattle.genedit_lib.specs.Output.{stamp_text}

-- a column and a row, each behind a blank
abbrev pub place_text : ℤ → ℤ → List ℕ
place_text x y = codes " " ++ signed_decimal x ++ codes " " ++ signed_decimal y

-- a cell's place and state
abbrev pub cell_text : Cell → List ℕ
cell_text cell = place_text cell.x cell.y ++ codes " " ++ decimal cell.state

abbrev pub cells_text : List Cell → List ℕ
cells_text cells = flat_map cell_text cells

-- width and height of an area, each behind a blank
abbrev pub size_text : Rect → List ℕ
size_text area = codes " " ++ decimal area.width ++ codes " " ++ decimal area.height

-- corner, width and height of an area
abbrev pub rect_text : Rect → List ℕ
rect_text area = codes " area" ++ place_text area.x area.y ++ size_text area

-- of an edit, where it has one
abbrev pub area_text : Option Rect → List ℕ
area_text None = []
area_text (Some area) = rect_text area

-- counter and replica of an edit's stamp, its area, and its cells in their order
abbrev pub edit_line : PlaneEdit → List ℕ
edit_line e = codes "edit " ++ stamp_text e.stamp ++ area_text e.area ++ codes " cells" ++ cells_text e.cells ++ codes "\n"

-- a line for each edit
abbrev pub edit_lines : List PlaneEdit → List ℕ
edit_lines edits = flat_map edit_line edits
