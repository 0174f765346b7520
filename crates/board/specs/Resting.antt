-- A publisher between two calls.
use Rattle.std.specs.Prelude.{◌≡◌, true, drop, List, [], ◌∷◌, ◌++◌, Option, Some, None}
use Rattle.left_right.specs.Sides.{view}
use Rattle.board.specs.declared.entry.Entry.{Entry}
use Rattle.board.specs.declared.front.Front.{Front}
use Rattle.board.specs.declared.value.Publication.{Publication}
use Rattle.board.specs.declared.publisher.Publisher.TheInside.{Inside}
use Rattle.board.specs.Origins.{origin, list_of}
use Rattle.board.specs.Publishing.{Publishing}
use Rattle.board.specs.Sights.{sight}

-- p is the next entry, and the front is the list with it
abbrev pub IsNext : Front → Publication → List Entry → Type 0
IsNext f p list = (p.front ≡ f) × (list_of f ≡ list ++ p.entry ∷ [])

-- nothing was announced; or one entry was, which waits, or which the writer has
abbrev pub Rests : Front → Option Publication → List Publication → List Entry → Type 0
Rests f None [] list = list_of f ≡ list
Rests f None (p ∷ []) list = IsNext f p list
Rests f None (p ∷ q ∷ ps) list = ⊥
Rests f (Some p) [] list = IsNext f p list
Rests f (Some p) (q ∷ ps) list = ⊥

-- what is seen of a publisher
abbrev pub published_by : Inside → Publishing
published_by p = record { list = p.writer.desk.shown.value.list; announced = list_of p.front; origin = origin p.front }

-- its history is its front's, the board that readers see is of the same origin, at most one entry is announced, and it knows what is published
pub record IsPublisher (p : Inside) : Type 0 where
  pub history : p.history.head.book ≡ p.front.prefix.seen.book
  pub same : p.writer.desk.shown.value.origin ≡ origin p.front
  pub rests : Rests p.front p.waiting (drop p.writer.behind p.writer.log.items) p.writer.desk.shown.value.list
  pub knows : view p.writer.desk.place ≡ sight true p.writer.desk.shown.value.list (origin p.front)
