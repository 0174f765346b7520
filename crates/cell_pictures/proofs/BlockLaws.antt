-- The text of two rows is that of the cells from the first of them on.
use Rattle.std.proofs.Common.{◌≡◌, ℕ, ◌+◌, ◌*◌, List, ◌∷◌, ◌++◌, arith}
use Rattle.std.specs.Prelude.{codes, Some, None, nat_lt, if◌then◌else◌}
use Rattle.pattern_cells.specs.declared.cell.Cell.{Cell}
use Rattle.cell_pictures.specs.Colour.{colour_of}
use Rattle.cell_pictures.specs.Blocks.{block_row, block_text}
use Rattle.cell_pictures.specs.Shown.{TellsFrom, state_at, texts_below}
use Rattle.cell_pictures.specs.Window.{WindowValue, place_in}
use Rattle.cell_pictures.proofs.RowLaws.{tells_row, told_in_row}

pub same_row : (states : ℕ) (w : WindowValue) (line : ℕ) (cells rest : List Cell) → TellsFrom (place_in w 0 (2 * line)) cells rest →
    block_row states rest w line ≡ block_row states cells w line
same_row states w line cells rest tells =
    let row : ℕ = 2 * line in
    let upper : (column : ℕ) → state_at rest (place_in w column row) ≡ state_at cells (place_in w column row) = λ column. told_in_row w column row cells rest tells in
    let below : TellsFrom (place_in w 0 (row + 1)) cells rest = tells_row w 0 row (row + 1) cells rest (omega arith) tells in
    let lower : (column : ℕ) → state_at rest (place_in w column (row + 1)) ≡ state_at cells (place_in w column (row + 1)) = λ column. told_in_row w column (row + 1) cells rest below in
    λ i. texts_below w.width (λ column. block_text (colour_of states (upper column i)) (if nat_lt (row + 1) w.height then Some (colour_of states (lower column i)) else None)) ++ 27 ∷ codes "[0m\n"
