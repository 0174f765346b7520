-- Strokes, and what takes them back.
use Rattle.std.specs.Prelude.{ℕ, Bool, ◌==◌, List, length, filter, sum_by}
use Rattle.std.specs.List.{flat_map}
use Rattle.pattern_cells.specs.declared.cell.Cell.{Cell}
use Rattle.pattern_cells.specs.Cells.{place_of}
use Rattle.stamped_writes.specs.Write.{Writes}
use Rattle.drawing_history.specs.declared.stroke.Stroke.{Stroke}

-- how many cells some strokes have
abbrev pub cells_in : List Stroke → ℕ
cells_in strokes = sum_by (λ (s : Stroke). length s.earlier.items) strokes

-- whether the write of a map at a cell's place still has a stamp
abbrev pub is_still : Writes → ℕ → Cell → Bool
is_still map stamp cell = (map (place_of cell)).stamp == stamp

-- the earlier cells of a stroke at whose places the write of a map is still the stroke's
abbrev pub stroke_back : Writes → Stroke → List Cell
stroke_back map stroke = filter (is_still map stroke.stamp) stroke.earlier.items

-- those of all strokes, in their order
abbrev pub cells_back : Writes → List Stroke → List Cell
cells_back map strokes = flat_map (stroke_back map) strokes
