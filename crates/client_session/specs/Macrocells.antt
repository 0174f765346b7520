-- What a client's replica holds at a later generation, as a macrocell.
use Rattle.std.specs.Prelude.{◌≡◌, ℕ, List, Option, None, Result, Ok, Err}
use mathlib.Core.List.{IsPrefix}
use Rattle.square_store.specs.Limits.{usual_room}
use Rattle.generation_engine.specs.Universe.{states_in_writes}
use Rattle.export.specs.Export.{IsRoomWanted}
use Rattle.stamped_tree.specs.Plane.{map_of}
use Rattle.told_generations.specs.Macrocells.{IsMacrocellGiven}
use Rattle.client_session.specs.declared.fault.CommandFault.{CommandFault}
use Rattle.client_session.specs.declared.fault.CommandFault.TheVariants.{Memory, StoreFull}
use Rattle.client_session.specs.declared.polling.News.{News}
use Rattle.client_session.specs.declared.polling.News.TheVariants as news
use Rattle.client_session.specs.declared.workspace.Workspace.{Workspace}
use Rattle.client_session.specs.Exporting.{StaysAt}
use Rattle.client_session.specs.Moment.{Moment}
use Rattle.client_session.specs.News.{BehindPoll, Leaves}

-- memory is wanting, and what was printed before stands; or room for the run of a universe, and nothing is printed
abbrev pub IsMacrocellWant : ℕ → Workspace → List ℕ → List ℕ → CommandFault → Type 0
IsMacrocellWant g s out out' Memory = IsPrefix out out'
IsMacrocellWant g s out out' StoreFull = (out' ≡ out) × IsRoomWanted s.replica.rule s.replica.plane g usual_room
IsMacrocellWant g s out out' fault = ⊥

-- the macrocell of what the replica holds at a generation is given, or the refusal of the generation printed; or memory or room is wanting
abbrev pub IsMacrocellAnswer : {B : Type 0} → (B → List ℕ) → ℕ → Workspace → List ℕ → List ℕ → Result (Option B) CommandFault → Type 0
IsMacrocellAnswer bytes_of g s out out' (Ok text) = IsMacrocellGiven bytes_of s.replica.rule (states_in_writes (map_of s.replica.plane)) g out out' text
IsMacrocellAnswer bytes_of g s out out' (Err fault) = IsMacrocellWant g s out out' fault

-- ---- commands: what the last poll brought is in what is made

-- the macrocell is given, or the refusal printed, and nothing else done
abbrev pub GivesMacrocellNow : {B : Type 0} → (B → List ℕ) → ℕ → Moment → Moment → Result (Option B) CommandFault → Type 0
GivesMacrocellNow bytes_of g m n result = StaysAt m n × IsMacrocellAnswer bytes_of g m.workspace m.out n.out result

abbrev pub GivesMacrocellBehind : {B : Type 0} → (B → List ℕ) → ℕ → News → Moment → Moment → Result (Option B) CommandFault → Type 0
GivesMacrocellBehind bytes_of g news.Edits m n result = GivesMacrocellNow bytes_of g m n result
GivesMacrocellBehind bytes_of g news.Whole m n result = GivesMacrocellNow bytes_of g m n result
GivesMacrocellBehind bytes_of g news.Refused m n result = Leaves None m n result

abbrev pub IsMacrocellCommand : {B : Type 0} → (B → List ℕ) → ℕ → Moment → Moment → Result (Option B) CommandFault → Type 0
IsMacrocellCommand bytes_of g m n result = BehindPoll (GivesMacrocellBehind bytes_of g) m n result
