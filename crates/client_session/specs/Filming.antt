-- What is told of a film, and which texts an album is handed.
use Rattle.std.specs.Prelude.{◌≡◌, ◌⊎◌, ℕ, List, Option, Result, Ok, Err}
use Rattle.generation_engine.specs.Universe.{states_in_writes}
use Rattle.stamped_tree.specs.Plane.{map_of}
use Rattle.told_generations.specs.declared.film_form.FilmPlan.{FilmPlan}
use Rattle.told_generations.specs.Films.{BreaksFilm, Frame, TellsFilm}
use Rattle.client_session.specs.declared.fault.CommandFault.{CommandFault}
use Rattle.client_session.specs.declared.polling.News.{News}
use Rattle.client_session.specs.declared.polling.News.TheVariants as news
use Rattle.client_session.specs.declared.workspace.Workspace.{Workspace}
use Rattle.client_session.specs.Counting.{IsCountsWant}
use Rattle.client_session.specs.Exporting.{StaysAt}
use Rattle.client_session.specs.Moment.{Moment}
use Rattle.client_session.specs.News.{EndsPolling, GoesOn, Leaves}

-- the film of what the replica holds is made, or a refusal printed; or memory or room is wanting amid it
abbrev pub IsFilmTold : {A : Type 0} → FilmPlan → Workspace → Option (List Frame) → Option (List Frame) → List ℕ → List ℕ → Result A CommandFault → Type 0
IsFilmTold plan s album album' out out' (Ok done) = TellsFilm plan s.replica.rule (states_in_writes (map_of s.replica.plane)) album album' out out'
IsFilmTold plan s album album' out out' (Err fault) = IsCountsWant plan.range s fault × BreaksFilm plan s.replica.rule (states_in_writes (map_of s.replica.plane)) album album' out out'

-- ---- commands: what the last poll brought is in what is filmed, of all generations alike

-- that is done, and nothing else
abbrev pub FilmsNow : FilmPlan → Option (List Frame) → Option (List Frame) → Moment → Moment → Result (Unit {0}) CommandFault → Type 0
FilmsNow plan album album' m n result = StaysAt m n × IsFilmTold plan m.workspace album album' m.out n.out result

abbrev pub FilmsBehind : FilmPlan → Option (List Frame) → Option (List Frame) → News → Moment → Moment → Result (Unit {0}) CommandFault → Type 0
FilmsBehind plan album album' news.Edits m n result = FilmsNow plan album album' m n result
FilmsBehind plan album album' news.Whole m n result = FilmsNow plan album album' m n result
FilmsBehind plan album album' news.Refused m n result = Leaves tt m n result × (album' ≡ album)

-- behind one poll; where the client ends at that, the album is handed nothing
abbrev pub IsFilmCommand : FilmPlan → Option (List Frame) → Option (List Frame) → Moment → Moment → Result (Unit {0}) CommandFault → Type 0
IsFilmCommand plan album album' m n (Ok done) = GoesOn (FilmsBehind plan album album') m n (Ok done)
IsFilmCommand plan album album' m n (Err fault) = (EndsPolling fault m n × (album' ≡ album)) ⊎ GoesOn (FilmsBehind plan album album') m n (Err fault)
