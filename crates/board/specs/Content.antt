-- What a publication does to each of the two copies of the board.
use Rattle.std.specs.Prelude.{[], ◌∷◌, ◌++◌}
use Rattle.board.specs.declared.value.Publication.{Publication}
use Rattle.board.specs.Origins.{origin, list_of}
use Rattle.board.specs.Showing.{Showing}

-- the entry stands behind the list, and the front is the publication's
abbrev pub published : Showing → Publication → Showing
published s p = record { list = s.list ++ p.entry ∷ []; log = list_of p.front; origin = origin p.front }
