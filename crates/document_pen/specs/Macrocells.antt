-- What a document shows at a later generation, as a macrocell.
use Rattle.std.specs.Prelude.{◌≡◌, ℕ, List, Option, Result, Ok, Err}
use Rattle.square_store.specs.Limits.{usual_room}
use Rattle.generation_engine.specs.Universe.{states_in_writes}
use Rattle.export.specs.Export.{IsRoomWanted}
use Rattle.stamped_tree.specs.Plane.{map_of}
use Rattle.told_generations.specs.Macrocells.{IsMacrocellGiven}
use Rattle.document_pen.specs.declared.fault.PenFault.{PenFault}
use Rattle.document_pen.specs.declared.fault.PenFault.TheVariants.{Memory, StoreFull, Write}
use Rattle.document_pen.specs.Pen.{PenState}
use Rattle.document_pen.specs.Searching.{KeepsAllButPrinted}

-- memory is wanting, or room for the run of a universe, and nothing is done
abbrev pub LacksForMacrocell : ℕ → PenState → PenState → PenFault → Type 0
LacksForMacrocell g m n Memory = n ≡ m
LacksForMacrocell g m n StoreFull = (n ≡ m) × IsRoomWanted m.replica.rule m.replica.plane g usual_room
LacksForMacrocell g m n Write = ⊥

-- the macrocell of what the document shows at a generation is given, or the refusal of the generation printed, and nothing else done; or
-- memory or room is wanting
abbrev pub IsMacrocellTold : {B : Type 0} → (B → List ℕ) → ℕ → PenState → PenState → Result (Option B) PenFault → Type 0
IsMacrocellTold bytes_of g m n (Ok text) = IsMacrocellGiven bytes_of m.replica.rule (states_in_writes (map_of m.replica.plane)) g m.out n.out text × KeepsAllButPrinted m n
IsMacrocellTold bytes_of g m n (Err fault) = LacksForMacrocell g m n fault
