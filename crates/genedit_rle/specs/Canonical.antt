-- The canonical form of an RLE text under a rule: the text's cells, put where the text says that they were, as the one
-- canonical text says them.
use Rattle.std.specs.Prelude.{ℕ, not, List, [], ◌∷◌, Option, Result, Ok, Err}
use Rattle.generations_rule.specs.Refusal.{when, first_of, unless, ◌>>=◌}
use Rattle.generations_rule.specs.Rule.{GenerationsRule}
use Rattle.pattern_cells.specs.declared.cell.Cell.{Cell}
use Rattle.multistate_rle.specs.declared.fault.RleFault.{RleFault}
use Rattle.pattern_cells.specs.Pattern.{RlePattern}
use Rattle.multistate_rle.specs.Reading.{parsed}
use Rattle.multistate_rle.specs.Writing.{text_of_cells}
use Rattle.edit_stamps.specs.Pasting.{are_placeable, have_states_below, placed}
use Rattle.genedit_rle.specs.Refusal.{FormRefusal, Text, OutOfPlane, StateRange}

-- a pattern's cells in the plane: each at the position plus its column and row
abbrev pub cells_in_plane : RlePattern → List Cell
cells_in_plane p = placed p.pos.0 p.pos.1 p.cells

-- the first refusal of a pattern under a rule of so many states, if there is one
abbrev pub pattern_refusal : ℕ → RlePattern → Option FormRefusal
pattern_refusal states p = first_of (
    when (not (are_placeable p.pos.0 p.pos.1 p.cells)) OutOfPlane
    ∷ when (not (have_states_below states p.cells)) StateRange
    ∷ [])

-- the text of a pattern's cells in the plane, at its generation
abbrev pub form_written : GenerationsRule → RlePattern → Result (List ℕ) FormRefusal
form_written r p = unless (pattern_refusal r.states p) (text_of_cells r p.generation (cells_in_plane p))

-- what was read, where the text was refused nothing
abbrev pub read : Result RlePattern RleFault → Result RlePattern FormRefusal
read (Ok p) = Ok p
read (Err fault) = Err (Text fault)

-- the canonical form of a text, or its first refusal
abbrev pub canonical : GenerationsRule → List ℕ → Result (List ℕ) FormRefusal
canonical r text = read (parsed text) >>= form_written r
