-- What joining a board does.
use Rattle.std.specs.Prelude.{◌≡◌, ◌⊎◌, ⊤, ℕ, ◌≤◌, Bool, true, false, List, [], ◌++◌, Option, Some, None, Result, Ok, Err}
use mathlib.Core.List.{IsPrefix}
use Rattle.square_store.specs.Limits.{usual_room}
use Rattle.generations_rule.specs.Rule.{GenerationsRule}
use Rattle.stamped_writes.specs.Write.{unwritten}
use Rattle.stamped_tree.specs.Plane.{StampedPlane}
use Rattle.drawing_history.specs.Makings.{nothing_made}
use Rattle.replica_core.specs.Replica.{IsNew}
use Rattle.genedit_lib.specs.Output.{no_patterns}
use Rattle.genedit_lib.specs.Patterns.{pattern_in}
use Rattle.client_protocol.specs.declared.greeting.Greeting.{Greeting}
use Rattle.client_protocol.specs.declared.greeting.Greeting.TheVariants as greeting
use Rattle.board_client.specs.declared.fault.ClientFault.{ClientFault}
use Rattle.board_client.specs.declared.fault.ClientFault.TheVariants.{NoReply}
use Rattle.board_client.specs.Client.{LineState}
use Rattle.board_client.specs.Greeting.{IsGreeting}
use Rattle.client_session.specs.declared.fault.CommandFault.{CommandFault}
use Rattle.client_session.specs.declared.fault.CommandFault.TheVariants.{Client, Refused, Memory}
use Rattle.client_session.specs.declared.joining.Telling.{Telling}
use Rattle.client_session.specs.declared.joining.Telling.TheVariants.{Edits, Changes, Nothing}
use Rattle.client_session.specs.declared.workspace.Workspace.{Workspace}
use Rattle.client_session.specs.Lines.{joined_line}
use Rattle.client_session.specs.Moment.{Moment}
use Rattle.client_session.specs.News.{IsFollowing}
use Rattle.client_session.specs.Telling.{ShowsMap}

-- no map is told; or one is where nothing was written
abbrev pub IsBlank : Telling → Option StampedPlane → Type 0
IsBlank Edits None = ⊤
IsBlank Nothing None = ⊤
IsBlank Changes (Some plane) = ShowsMap (λ _. unwritten) plane
IsBlank _ _ = ⊥

-- edits that come are not told
abbrev pub is_quiet : Telling → Bool
is_quiet Edits = false
is_quiet Changes = false
is_quiet Nothing = true

-- of a client that was handed nothing, and drew nothing
pub record IsFresh (telling : Telling) (number : ℕ) (rule : GenerationsRule) (s : Workspace) : Type 0 where
  pub replica : IsNew rule number usual_room s.replica
  pub patterns : (name : List ℕ) → pattern_in s.patterns name ≡ no_patterns name
  pub shown : IsBlank telling s.shown
  pub counted : s.counted ≡ 0
  pub awaited : s.awaited ≡ None
  pub open_still : s.closed ≡ false
  pub quiet : s.quiet ≡ is_quiet telling
  pub doubt : s.doubt ≡ None
  pub making : s.making ≡ nothing_made
  pub way : s.way ≡ None

-- such a one, and its seat's line was printed
pub record IsJoined (telling : Telling) (number : ℕ) (rule : GenerationsRule) (s : Workspace) (out out' : List ℕ) : Type 0 where
  pub fresh : IsFresh telling number rule s
  pub told : out' ≡ out ++ joined_line number rule

-- the number of a seat, where a greeting gave one, is not 0
abbrev pub HasNumber : Greeting → Type 0
HasNumber (greeting.Seat number rule) = 1 ≤ number
HasNumber (greeting.Refused number) = ⊤
HasNumber greeting.Faulty = ⊤

-- by what was greeted a workspace was made and the seat printed, or memory is wanting for it, and what was printed before stands; or there is none
abbrev pub SetsUp : Telling → Greeting → List ℕ → List ℕ → Result Workspace CommandFault → Type 0
SetsUp telling (greeting.Seat number rule) out out' (Ok workspace) = IsJoined telling number rule workspace out out'
SetsUp telling (greeting.Seat number rule) out out' (Err fault) = (fault ≡ Memory) × IsPrefix out out'
SetsUp telling (greeting.Refused number) out out' result = (result ≡ Err (Refused number)) × (out' ≡ out)
SetsUp telling greeting.Faulty out out' result = (result ≡ Err (Client NoReply)) × (out' ≡ out)

-- the server was greeted; a workspace was made, or is not; how it went on P says
pub record Greets (telling : Telling) (a : LineState) (P : LineState → List ℕ → Result Workspace CommandFault → Type 0) : Type 0 where
  pub heard : Greeting
  pub line : LineState
  pub printed : List ℕ
  pub made : Result Workspace CommandFault
  pub greeted : IsGreeting a line (Ok heard)
  pub sets_up : SetsUp telling heard [] printed made
  pub goes : P line printed made

-- a client that did not join: why, the line, and what was printed by then
pub record NotJoined : Type 0 where
  pub fault : CommandFault
  pub line : LineState
  pub out : List ℕ

-- Behind that a poll is made and told; without a workspace all is left as it is.
abbrev pub JoinsBehind : Result Moment NotJoined → LineState → List ℕ → Result Workspace CommandFault → Type 0
JoinsBehind (Ok n) line printed (Ok fresh) = IsFollowing {A = Unit {0}} (record { line = line; workspace = fresh; out = printed }) n (Ok tt)
JoinsBehind (Err u) line printed (Ok fresh) =
    (left : Workspace) × IsFollowing {A = Unit {0}} (record { line = line; workspace = fresh; out = printed }) (record { line = u.line; workspace = left; out = u.out }) (Err u.fault)
JoinsBehind (Ok n) line printed (Err fault) = ⊥
JoinsBehind (Err u) line printed (Err fault) = u ≡ record { fault = fault; line = line; out = printed }

-- the greeting failed, and nothing was printed
abbrev pub FailsGreeting : LineState → NotJoined → Type 0
FailsGreeting a u = (fault : ClientFault) × IsGreeting a u.line (Err fault) × (u ≡ record { fault = Client fault; line = u.line; out = [] })

abbrev pub IsJoining : Telling → LineState → Result Moment NotJoined → Type 0
IsJoining telling a (Ok n) = Greets telling a (JoinsBehind (Ok n))
IsJoining telling a (Err u) = FailsGreeting a u ⊎ Greets telling a (JoinsBehind (Err u))
