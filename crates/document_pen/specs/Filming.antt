-- What is told of a film of a document, and which texts an album is handed.
use Rattle.std.specs.Prelude.{List, Option, Result, Ok, Err}
use Rattle.generation_engine.specs.Universe.{states_in_writes}
use Rattle.stamped_tree.specs.Plane.{map_of}
use Rattle.told_generations.specs.declared.film_form.FilmPlan.{FilmPlan}
use Rattle.told_generations.specs.Films.{BreaksFilm, Frame, TellsFilm}
use Rattle.document_pen.specs.declared.fault.PenFault.{PenFault}
use Rattle.document_pen.specs.Counting.{IsCountsWant}
use Rattle.document_pen.specs.Pen.{PenState}
use Rattle.document_pen.specs.Searching.{KeepsAllButPrinted}

-- the film of what the document shows is made, or a refusal printed; or memory or room is wanting amid it; and nothing else is done
abbrev pub IsFilmed : FilmPlan → Option (List Frame) → Option (List Frame) → PenState → PenState → Result (Unit {0}) PenFault → Type 0
IsFilmed plan album album' m n (Ok done) =
    TellsFilm plan m.replica.rule (states_in_writes (map_of m.replica.plane)) album album' m.out n.out × KeepsAllButPrinted m n
IsFilmed plan album album' m n (Err fault) =
    IsCountsWant plan.range m fault × BreaksFilm plan m.replica.rule (states_in_writes (map_of m.replica.plane)) album album' m.out n.out × KeepsAllButPrinted m n
