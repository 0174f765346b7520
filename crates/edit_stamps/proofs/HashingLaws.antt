-- What the cells from one on feed a hasher.
use Rattle.std.proofs.Common.{◌≡◌, ◌∙◌, ℕ, ◌+◌, ◌<◌, List, length, drop, get_or, sym, ap}
use Rattle.std.specs.List.{flat_map, fold}
use Rattle.std.proofs.lemmas.List.{drop_more}
use Rattle.pattern_cells.specs.declared.cell.Cell.{Cell}
use Rattle.edit_stamps.specs.Hashing.{fed_of_cell}

-- a cell is fed, and then those behind it
pub one_fed : {S : Type 0} (write : S → List ℕ → S) (old new : S) (cells : List Cell) (i : ℕ) (none : Cell) → i < length cells
    → new ≡ fold write old (fed_of_cell (get_or cells i none))
    → fold write new (flat_map fed_of_cell (drop (i + 1) cells)) ≡ fold write old (flat_map fed_of_cell (drop i cells))
one_fed write old new cells i none within fed =
    ap (λ s. fold write s (flat_map fed_of_cell (drop (i + 1) cells))) fed ∙ ap (λ rest. fold write old (flat_map fed_of_cell rest)) (sym (drop_more cells i none within))
