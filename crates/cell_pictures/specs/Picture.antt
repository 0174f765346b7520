-- A picture in one of the forms: of a window, or of all cells.
use Rattle.std.specs.Prelude.{ℕ, List, [], ◌++◌, if◌then◌else◌, codes, decimal, Option, Some, None}
use Rattle.pattern_cells.specs.declared.cell.Cell.{Cell}
use Rattle.cell_pictures.specs.declared.picture.Form.{Form}
use Rattle.cell_pictures.specs.declared.picture.Form.TheVariants.{Plain, HalfBlocks, Svg}
use Rattle.cell_pictures.specs.Blocks.{half_blocks}
use Rattle.cell_pictures.specs.Plain.{plain_text}
use Rattle.cell_pictures.specs.Svg.{svg_text}
use Rattle.cell_pictures.specs.Window.{WindowValue, box_of, cut, is_too_large}

-- a window, whole
abbrev pub window_text : Form → ℕ → List Cell → WindowValue → List ℕ
window_text Plain states cells w = plain_text states cells w
window_text HalfBlocks states cells w = half_blocks states cells w
window_text Svg states cells w = svg_text states cells w

-- what is told where a picture was cut: the sides that it would have had
abbrev pub cut_line : WindowValue → List ℕ
cut_line w = if is_too_large w then codes "cut: " ++ decimal w.width ++ codes " by " ++ decimal w.height ++ codes "\n" else []

-- a window as it is drawn in a terminal unless it was asked for: cut, where it is too large
abbrev pub cut_text : Form → ℕ → List Cell → WindowValue → List ℕ
cut_text form states cells w = window_text form states cells (cut w) ++ cut_line w

-- the least window that shows all cells; an SVG of it is not cut
abbrev pub box_text : Form → ℕ → List Cell → List ℕ
box_text Plain states cells = cut_text Plain states cells (box_of cells)
box_text HalfBlocks states cells = cut_text HalfBlocks states cells (box_of cells)
box_text Svg states cells = svg_text states cells (box_of cells)

-- the window that was asked for, if one was, else that of all cells
abbrev pub picture_text : Form → ℕ → List Cell → Option WindowValue → List ℕ
picture_text form states cells (Some w) = window_text form states cells w
picture_text form states cells None = box_text form states cells
