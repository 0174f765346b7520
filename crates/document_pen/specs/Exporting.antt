-- What is told of later generations of a document.
use Rattle.std.specs.Prelude.{◌≡◌, ⊤, ℕ, List, Option, Some, None, Result, Ok, Err}
use Rattle.square_store.specs.Limits.{usual_room}
use Rattle.stamped_tree.specs.Plane.{map_of}
use Rattle.generation_engine.specs.Universe.{states_in_writes}
use Rattle.export.specs.Export.{IsRoomWanted}
use Rattle.replica_core.specs.Exporting.{Tells, generation_of}
use Rattle.replica_core.specs.declared.event.Question.{Question}
use Rattle.replica_core.specs.declared.event.Reply.{Reply}
use Rattle.replica_core.specs.declared.event.Reply.TheVariants as reply
use Rattle.replica_core.specs.declared.event.Stop.{Stop}
use Rattle.replica_core.specs.declared.event.Stop.TheVariants as stops
use Rattle.genedit_lib.specs.Output.{reply_line}
use Rattle.document_pen.specs.declared.fault.PenFault.{PenFault}
use Rattle.document_pen.specs.declared.fault.PenFault.TheVariants.{Memory, StoreFull, Write}
use Rattle.document_pen.specs.Pen.{PenState, Prints}

-- a want of a replica, as a pen's
abbrev pub fault_of_stop : Stop → PenFault
fault_of_stop stops.Memory = Memory
fault_of_stop stops.StoreFull = StoreFull

-- the reply to a question about what the document shows
abbrev pub IsReplyTold : Question → PenState → Reply → Type 0
IsReplyTold question m told = Tells m.replica.rule (states_in_writes (map_of m.replica.plane)) question told

-- memory is wanting, or room for the run of a universe, and nothing is done
abbrev pub LacksForTelling : Question → PenState → PenState → PenFault → Type 0
LacksForTelling question m n Memory = n ≡ m
LacksForTelling question m n StoreFull = IsRoomWanted m.replica.rule m.replica.plane (generation_of question) usual_room × (n ≡ m)
LacksForTelling question m n Write = ⊥

-- the reply is printed; or memory or room is wanting
abbrev pub IsTold : Question → PenState → PenState → Result (Unit {0}) PenFault → Type 0
IsTold question m n (Ok done) = (told : Reply) × IsReplyTold question m told × Prints (reply_line told) m n
IsTold question m n (Err fault) = LacksForTelling question m n fault

-- a reply is no text
abbrev pub HasNoText : Reply → Type 0
HasNoText (reply.Text text) = ⊥
HasNoText _ = ⊤

-- the text that is told is given, and nothing done; or none is told, and what is told is printed; or memory or room is wanting
abbrev pub IsTextGiven : {B : Type 0} → (B → List ℕ) → Question → PenState → PenState → Result (Option B) PenFault → Type 0
IsTextGiven bytes_of question m n (Ok (Some text)) = IsReplyTold question m (reply.Text (bytes_of text)) × (n ≡ m)
IsTextGiven bytes_of question m n (Ok None) = (told : Reply) × IsReplyTold question m told × HasNoText told × Prints (reply_line told) m n
IsTextGiven bytes_of question m n (Err fault) = LacksForTelling question m n fault
