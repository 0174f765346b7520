-- What a client takes back of what it drew.
use Rattle.std.specs.Prelude.{◌≡◌, ℕ, Option, Some, None, Result, Ok, Err}
use Rattle.stamped_tree.specs.Plane.{map_of}
use Rattle.replica_events.specs.declared.edit_spec.EditSpec.{EditSpec}
use Rattle.drawing_history.specs.Findings.{IsFound}
use Rattle.drawing_history.specs.declared.found.Found.{Found}
use Rattle.drawing_history.specs.declared.way.Way.{Way}
use Rattle.client_session.specs.declared.outcome.Outcome.{Outcome}
use Rattle.client_session.specs.declared.fault.CommandFault.{CommandFault}
use Rattle.client_session.specs.declared.fault.CommandFault.TheVariants.{Memory}
use Rattle.client_session.specs.declared.polling.News.{News}
use Rattle.client_session.specs.declared.polling.News.TheVariants as news
use Rattle.client_session.specs.Drawing.{DrawsAs, DrawsWaiting}
use Rattle.client_session.specs.Moment.{Moment}
use Rattle.client_session.specs.News.{BehindPoll, Leaves}

-- ---- what is found

-- what can be taken back is found at what the replica holds, or memory is wanting for it; nothing is done
abbrev pub IsFoundHere : Way → Moment → Moment → Result (Option Found) CommandFault → Type 0
IsFoundHere way m n (Ok (Some what)) = IsFound way m.workspace.making.history (map_of m.workspace.replica.plane) what × (n ≡ m)
IsFoundHere way m n (Ok None) = ⊥
IsFoundHere way m n (Err fault) = (fault ≡ Memory) × (n ≡ m)

-- the same by what the poll brought
abbrev pub FindsBehind : Way → News → Moment → Moment → Result (Option Found) CommandFault → Type 0
FindsBehind way news.Edits m n result = IsFoundHere way m n result
FindsBehind way news.Whole m n result = IsFoundHere way m n result
FindsBehind way news.Refused m n result = Leaves None m n result

-- by whether a poll waits
abbrev pub FindsFrom : Option ℕ → Way → Moment → Moment → Result (Option Found) CommandFault → Type 0
FindsFrom None way m n result = BehindPoll (FindsBehind way) m n result
FindsFrom (Some milliseconds) way m n result = IsFoundHere way m n result

abbrev pub IsFindCommand : Way → Moment → Moment → Result (Option Found) CommandFault → Type 0
IsFindCommand way m n result = FindsFrom m.workspace.awaited way m n result

-- ---- what is drawn

-- a drawing at what the replica holds: behind the poll that waits, or without a poll
abbrev pub DrawsHere : Option ℕ → ℕ → EditSpec → Moment → Moment → Result Outcome CommandFault → Type 0
DrawsHere None after spec m n result = DrawsAs m.workspace.closed after spec m n result
DrawsHere (Some milliseconds) after spec m n result = DrawsWaiting m.workspace.closed after spec m n result

-- an edit is drawn that takes something back, and told as such
pub record DrawsBack (way : Way) (spec : EditSpec) (m n : Moment) (result : Result Outcome CommandFault) : Type 0 where
  pub mid : Moment
  pub draws : DrawsHere m.workspace.awaited 0 spec (record m { workspace = record m.workspace { way = Some way } }) mid result
  pub rest : n ≡ record mid { workspace = record mid.workspace { way = None } }

-- ---- how a drawing ends

-- all stays but what was drawn and can be taken back
abbrev pub KeepsAllButMaking : Moment → Moment → Type 0
KeepsAllButMaking m n = n ≡ record m { workspace = record m.workspace { making = n.workspace.making } }
