-- What is told of the counts of cells of a document at several generations.
use Rattle.std.specs.Prelude.{◌≡◌, ℕ, Result, Ok, Err}
use Rattle.generation_engine.specs.Universe.{states_in_writes}
use Rattle.stamped_tree.specs.Plane.{map_of}
use Rattle.command_words.specs.declared.ranges.GenerationRange.{GenerationRange}
use Rattle.told_generations.specs.Counts.{IsRoomWantedWithin, PrintsCounts}
use Rattle.document_pen.specs.declared.fault.PenFault.{PenFault}
use Rattle.document_pen.specs.declared.fault.PenFault.TheVariants.{Memory, StoreFull, Write}
use Rattle.document_pen.specs.Pen.{PenState}
use Rattle.document_pen.specs.Searching.{KeepsAllButPrinted}

-- memory is wanting, or room for a universe at one of the generations
abbrev pub IsCountsWant : GenerationRange → PenState → PenFault → Type 0
IsCountsWant range m Memory = Unit {0}
IsCountsWant range m StoreFull = IsRoomWantedWithin m.replica.rule m.replica.plane range
IsCountsWant range m Write = ⊥

-- how many cells the document has at each generation of a range is printed, or a refusal; or memory or room is wanting, and nothing is done
abbrev pub AreCountsTold : GenerationRange → PenState → PenState → Result (Unit {0}) PenFault → Type 0
AreCountsTold range m n (Ok done) = PrintsCounts m.replica.rule (states_in_writes (map_of m.replica.plane)) range m.out n.out × KeepsAllButPrinted m n
AreCountsTold range m n (Err fault) = IsCountsWant range m fault × (n ≡ m)
