-- What is told of a refusal, by its number in the table of faults; with the bounds where they are known.
use Rattle.std.specs.Prelude.{ℕ, ◌-◌, ◌==◌, List, [], ◌∷◌, ◌++◌, codes, decimal, if◌then◌else◌, Option, Some, None, unwrap_or}
use Rattle.script_faults.specs.declared.refused.Refused.{Refused}

-- of 8: how many cells would be drawn
abbrev pub cells_known : Option ℕ → Option (List ℕ)
cells_known None = None
cells_known (Some cells) = Some (decimal cells ++ codes " cells would be drawn, and at most 1048576 are drawn at once")

-- of 11: the states, by how many there are
abbrev pub states_known : Option ℕ → Option (List ℕ)
states_known None = None
states_known (Some states) = Some (codes "the rule's states are 0 to " ++ decimal (states - 1))

-- of 26: the replicas, by how many there are
abbrev pub replicas_known : Option ℕ → Option (List ℕ)
replicas_known None = None
replicas_known (Some replicas) = Some (if replicas == 0 then codes "there are no replicas" else codes "the replicas are 1 to " ++ decimal replicas)

abbrev pub bounds_known : Refused → Option (List ℕ)
bounds_known refused =
    if refused.number == 8 then cells_known refused.cells
    else if refused.number == 11 then states_known refused.states
    else if refused.number == 26 then replicas_known refused.replicas
    else None

-- what is said where no bounds are known
abbrev pub refusal_words : List (ℕ × List ℕ)
refusal_words =
    (4, codes "a pattern begins with a header `x = w, y = h`, behind comments")
    ∷ (5, codes "this can stand neither as a cell nor as the end of a row or of the pattern")
    ∷ (6, codes "a count is 1 at least, and leads no further than column and row 4294967295")
    ∷ (7, codes "a pattern's states are 0 to 255")
    ∷ (8, codes "at most 1048576 cells are drawn at once")
    ∷ (9, codes "no cell would be drawn")
    ∷ (10, codes "the plane has x and y from -1073741824 to 1073741823")
    ∷ (11, codes "the rule has no such state")
    ∷ (22, codes "the last generation is 536870912")
    ∷ (23, codes "there are more than 16777216 cells then")
    ∷ (24, codes "the counter of stamps is at its end")
    ∷ (25, codes "the replica has drawn or taken fewer edits; the first is 0")
    ∷ (26, codes "there is no replica of this number; they are numbered from 1")
    ∷ (27, codes "no message of this number was sent before; they are numbered from 1")
    ∷ (38, codes "no pattern of this name stands before")
    ∷ []

-- what stands beside a number in a table; beside one that it has not, that the command would do nothing
abbrev pub said_of : List (ℕ × List ℕ) → ℕ → List ℕ
said_of [] number = codes "the command would do nothing"
said_of (row ∷ rows) number = if number == row.0 then row.1 else said_of rows number

abbrev pub cure_text : Refused → List ℕ
cure_text refused = unwrap_or (bounds_known refused) (said_of refusal_words refused.number)
