-- Replicas that hold a document, and states of its map.
use Rattle.std.specs.Prelude.{◌≡◌, ⊤, ℕ, List, [], Option, Some, None, Result, Ok, Err}
use Rattle.square_store.specs.Limits.{usual_room}
use Rattle.kept_records.specs.Records.{BeginsNone}
use Rattle.documents.specs.declared.reading.ListedEdits.{ListedEdits}
use Rattle.documents.specs.Reading.{IsListRead}
use Rattle.delta_exchange.specs.declared.message.Content.TheVariants.{Edits}
use Rattle.delta_exchange.specs.StateText.{IsStateText}
use Rattle.replica_core.specs.declared.fault.Fault.{Fault}
use Rattle.replica_core.specs.declared.fault.Fault.TheVariants.{Memory, StoreFull}
use Rattle.replica_core.specs.Room.{IsFullFor}
use Rattle.genedit_documents.specs.declared.states.StateFault.{StateFault}
use Rattle.genedit_documents.specs.declared.states.StateFault.TheVariants.{Document, Want}
use Rattle.genedit_documents.specs.Listing.{first_of}
use Rattle.generations_rule.specs.Rule.{GenerationsRule}
use Rattle.edit_stamps.specs.Edit.{PlaneEdit, greatest}
use Rattle.stamped_writes.specs.Write.{AreSame}
use Rattle.stamped_tree.specs.Plane.{map_of}
use Rattle.replica_core.specs.Replica.{ReplicaState}

-- a replica of a rule and a number holds at each cell the greatest-stamped write of some edits
pub record HoldsMap (r : GenerationsRule) (n : ℕ) (edits : List PlaneEdit) (s : ReplicaState) : Type 0 where
  pub rule : s.rule ≡ r
  pub number : s.number ≡ n
  pub map : AreSame (map_of s.plane) (greatest edits)

-- memory is wanting for a replica that holds some edits, or a plane of 2^26 squares became full of what they need
abbrev pub IsHoldingWant : List PlaneEdit → Fault → Type 0
IsHoldingWant edits Memory = ⊤
IsHoldingWant edits StoreFull = IsFullFor usual_room [] (λ content. content ≡ Edits edits)
IsHoldingWant edits _ = ⊥

-- of a document that was read, its first edits find no memory, or no room
abbrev pub IsStateWant : List ℕ → Option ℕ → Fault → Type 0
IsStateWant bytes most fault = (l : ListedEdits) × IsListRead bytes (Ok l) × IsHoldingWant (first_of most l.edits.items) fault

-- no record begins the bytes; or they tell a document, and the text is that of the map of its first edits; or they tell none, for this
-- cause; or memory or room is wanting
abbrev pub IsAsState : {B : Type 0} → (B → List ℕ) → List ℕ → Option ℕ → Result (Option B) StateFault → Type 0
IsAsState bytes_of bytes most (Ok None) = BeginsNone bytes
IsAsState bytes_of bytes most (Ok (Some text)) = (l : ListedEdits) × IsListRead bytes (Ok l) × IsStateText l.rule (greatest (first_of most l.edits.items)) (bytes_of text)
IsAsState bytes_of bytes most (Err (Document fault)) = ¬ BeginsNone bytes × IsListRead bytes (Err fault)
IsAsState bytes_of bytes most (Err (Want fault)) = IsStateWant bytes most fault
