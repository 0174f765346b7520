-- What leaving a board does.
use Rattle.std.specs.Prelude.{◌≡◌, ◌⊎◌, ℕ, [], Option, Some, None, Result, Ok, Err}
use Rattle.board_client.specs.declared.fault.ClientFault.{ClientFault}
use Rattle.board_client.specs.declared.polling.Polling.{Polling}
use Rattle.board_client.specs.declared.pushing.Pushing.{Pushing}
use Rattle.board_client.specs.Client.{LineState}
use Rattle.board_client.specs.Greeting.{IsLeaving, bye_request}
use Rattle.board_client.specs.Hearing.{IsSaidOrWanting}
use Rattle.board_client.specs.Polling.{IsReplyTaken}
use Rattle.board_client.specs.Pushing.{IsAnswering}
use Rattle.client_session.specs.Moment.{Moment}

-- all but the line and the replica stays, and no poll waits any more
abbrev pub HasLeft : Moment → Moment → Type 0
HasLeft m n = n ≡ record { line = n.line; workspace = record m.workspace { replica = n.workspace.replica; awaited = None }; out = m.out }

-- the farewell was said, the reply to the poll that waits heard and taken, and what came of the farewell
pub record HearsBoth (m n : Moment) (result : Result Pushing ClientFault) : Type 0 where
  pub said : LineState
  pub farewell : IsSaidOrWanting {A = Unit {0}} bye_request m.line said (Ok tt)
  pub heard : Polling
  pub line : LineState
  pub reply : IsReplyTaken [] said line m.workspace.replica n.workspace.replica (Ok heard)
  pub answer : IsAnswering [] line n.line result
  pub left : HasLeft m n

-- no such reply came, or it was not taken
pub record FailsBoth (fault : ClientFault) (m n : Moment) : Type 0 where
  pub said : LineState
  pub farewell : IsSaidOrWanting {A = Unit {0}} bye_request m.line said (Ok tt)
  pub reply : IsReplyTaken [] said n.line m.workspace.replica n.workspace.replica (Err fault)
  pub left : HasLeft m n

-- the farewell could not be said
abbrev pub IsFarewellUnsaid : ClientFault → Moment → Moment → Type 0
IsFarewellUnsaid fault m n = IsSaidOrWanting {A = Unit {0}} bye_request m.line n.line (Err fault) × (n ≡ record m { line = n.line })

-- where a poll waits
abbrev pub LeavesBehind : Moment → Moment → Result Pushing ClientFault → Type 0
LeavesBehind m n (Ok answer) = HearsBoth m n (Ok answer)
LeavesBehind m n (Err fault) = IsFarewellUnsaid fault m n ⊎ (FailsBoth fault m n ⊎ HearsBoth m n (Err fault))

abbrev pub LeavesBoard : Option ℕ → Moment → Moment → Result Pushing ClientFault → Type 0
LeavesBoard None m n result = IsLeaving m.line n.line result × (n ≡ record m { line = n.line })
LeavesBoard (Some milliseconds) m n result = LeavesBehind m n result
