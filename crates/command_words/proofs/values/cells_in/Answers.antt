use Rattle.std.proofs.Common.{◌≡◌, ◌∙◌, sym, ap, refl, List, [], ◌∷◌, ◌++◌, append_assoc}
use Rattle.std.specs.Prelude.{Option, Some, None, option_map}
use Rattle.text_scan.specs.Words.{words}
use Rattle.pattern_cells.specs.declared.cell.Cell.{Cell}
use Rattle.command_words.specs.Values.{cells_spelled}
use Rattle.command_words.proofs.values.cells_in.Goals as goal

-- a cell at the end of those so far stands in front of those to come
cell_between : (cells : List Cell) (cell : Cell) (more : Option (List Cell)) →
    option_map (λ more. (cells ++ cell ∷ []) ++ more) more ≡ option_map (λ more. cells ++ more) (option_map (λ more. cell ∷ more) more)
cell_between cells cell None = refl
cell_between cells cell (Some more) = ap Some (append_assoc cells (cell ∷ []) more)

pub loop-x-preserved : goal.loop-x-preserved
loop-x-preserved c =
    ap (λ (cells : List Cell). option_map (λ more. cells ++ more) (cells_spelled (words c.in-Some-split_cell.behind.now))) c.in_ok-push.ensures.items
    ∙ cell_between c.loop-x.cells.items c.in-Some-split_cell.cell (cells_spelled (words c.in-Some-split_cell.behind.now))
    ∙ ap (option_map (λ more. c.loop-x.cells.items ++ more)) (sym c.in-Some-split_cell.ensures.cell ∙ ap cells_spelled (sym c.in-Some.ensures.word))
    ∙ c.loop-x.invariant
