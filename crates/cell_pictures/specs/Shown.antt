-- What a picture shows of cells.
use Rattle.std.specs.Prelude.{◌≡◌, false, ℕ, zero, suc, List, [], ◌++◌, unwrap_or}
use Rattle.generations_rule.specs.Place.{Place, is_before}
use Rattle.pattern_cells.specs.declared.cell.Cell.{Cell}
use Rattle.edit_stamps.specs.Edit.{listed}

-- the state at a place: that of the cell that stands there, or 0
abbrev pub state_at : List Cell → Place → ℕ
state_at cells c = unwrap_or (listed cells c) 0

-- at a place and at those behind it, by row, then column, some cells tell what others do
abbrev pub TellsFrom : Place → List Cell → List Cell → Type 0
TellsFrom p cells others = (c : Place) → is_before c p ≡ false → state_at others c ≡ state_at cells c

-- the texts that a function gives for the numbers below n, one behind another
abbrev pub texts_below : ℕ → (ℕ → List ℕ) → List ℕ
texts_below zero text = []
texts_below (suc n) text = texts_below n text ++ text n
