-- Polls, and what they bring.
use Rattle.std.specs.Prelude.{◌≡◌, ◌≢◌, ◌⊎◌, ℕ, [], length, Option, Some, None, Result, Ok, Err}
use Rattle.board_client.specs.declared.polling.Polling.{Polling}
use Rattle.board_client.specs.declared.polling.Polling.TheVariants as polling
use Rattle.board_client.specs.declared.fault.ClientFault.{ClientFault}
use Rattle.replica_core.specs.Replica.{ReplicaState}
use Rattle.board_client.specs.Awaiting.{await_request}
use Rattle.board_client.specs.Client.{LineState}
use Rattle.board_client.specs.Hearing.{IsSaidOrWanting}
use Rattle.board_client.specs.Polling.{IsNewsHeard, IsPoll, IsReplyTaken, poll_request}
use Rattle.client_session.specs.declared.following.Followed.{Followed}
use Rattle.client_session.specs.declared.following.Followed.TheVariants as followed
use Rattle.client_session.specs.declared.fault.CommandFault.{CommandFault}
use Rattle.client_session.specs.declared.fault.CommandFault.TheVariants.{Client, Refused, Memory, StoreFull}
use Rattle.client_session.specs.declared.polling.News.{News}
use Rattle.client_session.specs.declared.polling.News.TheVariants as news
use Rattle.client_session.specs.Lines.{refusal_line}
use Rattle.client_session.specs.Moment.{KeepsRest, LacksTelling, Moment, Prints, taken}
use Rattle.client_session.specs.Telling.{PollFindsNoRoom, TellsPoll}

-- what comes of a poll on the line, and what a replica takes of it
abbrev pub Comes : Type 1
Comes = LineState → LineState → ReplicaState → ReplicaState → Result Polling ClientFault → Type 0

-- it came so, the replica took it, and what stands behind its journal's old end was told
pub record PollsBy (P : Comes) (heard : Polling) (m n : Moment) : Type 0 where
  pub polled : P m.line n.line m.workspace.replica n.workspace.replica (Ok heard)
  pub told : TellsPoll heard (length m.workspace.replica.journal) (taken m n) n.workspace m.out n.out

-- it failed, and nothing is told of it
pub record FailsPollingBy (P : Comes) (fault : ClientFault) (m n : Moment) : Type 0 where
  pub polled : P m.line n.line m.workspace.replica n.workspace.replica (Err fault)
  pub kept : KeepsRest m.workspace n.workspace
  pub told : n.out ≡ m.out

-- it ended well, but what it brought is not all told
abbrev pub IsUntoldBy : Comes → CommandFault → Moment → Moment → Type 0
IsUntoldBy P fault m n = LacksTelling (λ heard. P m.line n.line m.workspace.replica n.workspace.replica (Ok heard))
    (λ heard. PollFindsNoRoom heard (length m.workspace.replica.journal) (taken m n) n.workspace m.out n.out) fault m n

-- how a client ends at it: a refusal by 21 is one
abbrev pub EndsPollingBy : Comes → CommandFault → Moment → Moment → Type 0
EndsPollingBy P (Client fault) m n = FailsPollingBy P fault m n
EndsPollingBy P (Refused number) m n = (number ≡ 21) × PollsBy P (polling.Refused 21) m n
EndsPollingBy P Memory m n = IsUntoldBy P Memory m n
EndsPollingBy P StoreFull m n = IsUntoldBy P StoreFull m n

-- it tells what it brought; by a refusal nothing is told
abbrev pub IsPollToldBy : Comes → Moment → Moment → Result Polling CommandFault → Type 0
IsPollToldBy P m n (Ok heard) = (heard ≢ polling.Refused 21) × PollsBy P heard m n
IsPollToldBy P m n (Err fault) = EndsPollingBy P fault m n

-- it was refused, which is printed
pub record PrintsRefusalBy (P : Comes) (m n : Moment) : Type 0 where
  pub number : ℕ
  pub mid : Moment
  pub refused : IsPollToldBy P m mid (Ok (polling.Refused number))
  pub printed : Prints (refusal_line number) mid n

-- what it brought
abbrev pub BringsBy : Comes → News → Moment → Moment → Type 0
BringsBy P news.Edits m n = (count : ℕ) × IsPollToldBy P m n (Ok (polling.Edits count))
BringsBy P news.Whole m n = IsPollToldBy P m n (Ok polling.Whole)
BringsBy P news.Refused m n = PrintsRefusalBy P m n

abbrev pub IsNewsBy : Comes → Moment → Moment → Result News CommandFault → Type 0
IsNewsBy P m n (Ok news) = BringsBy P news m n
IsNewsBy P m n (Err fault) = EndsPollingBy P fault m n

-- ---- a poll that is said and heard

abbrev pub Polls : Polling → Moment → Moment → Type 0
Polls heard m n = PollsBy IsPoll heard m n

abbrev pub IsPollTold : Moment → Moment → Result Polling CommandFault → Type 0
IsPollTold m n result = IsPollToldBy IsPoll m n result

-- a poll that no command asked for
abbrev pub IsFollowing : {A : Type 0} → Moment → Moment → Result A CommandFault → Type 0
IsFollowing m n (Ok done) = (heard : Polling) × IsPollTold m n (Ok heard)
IsFollowing m n (Err fault) = EndsPollingBy IsPoll fault m n

-- ---- a poll that waits

-- what comes of one that is open, and behind which nothing was said: its reply is heard, and a plane that is too long for it
abbrev pub IsAwaited : Comes
IsAwaited a b old new result = IsNewsHeard [] a b old new result

-- what comes of one behind which more was said: its reply is heard
abbrev pub IsReplyHeard : Comes
IsReplyHeard a b old new result = IsReplyTaken [] a b old new result

-- something was said on the line, and none is open any more
abbrev pub answered : LineState → Moment → Moment
answered line m = record { line = line; workspace = record m.workspace { awaited = None }; out = m.out }

-- one of so many milliseconds was said, and is open; or could not be said; where one is open already, nothing is said
abbrev pub SaysAwait : Option ℕ → ℕ → Moment → Moment → Result (Unit {0}) CommandFault → Type 0
SaysAwait (Some open_still) milliseconds m n result = (result ≡ Ok tt) × (n ≡ m)
SaysAwait None milliseconds m n (Ok done) =
    IsSaidOrWanting {A = Unit {0}} (await_request milliseconds) m.line n.line (Ok tt) × (n ≡ record { line = n.line; workspace = record m.workspace { awaited = Some milliseconds }; out = m.out })
SaysAwait None milliseconds m n (Err (Client fault)) = IsSaidOrWanting {A = Unit {0}} (await_request milliseconds) m.line n.line (Err fault) × (n ≡ record m { line = n.line })
SaysAwait None milliseconds m n (Err fault) = ⊥

-- what a client that follows hears
abbrev pub followed_of : Polling → Followed
followed_of (polling.Edits count) = followed.Told
followed_of polling.Whole = followed.Told
followed_of (polling.Refused number) = followed.Refused number

-- it came so and was told
abbrev pub FollowsBy : Comes → Moment → Moment → Result Followed CommandFault → Type 0
FollowsBy P m n (Ok heard) = (came : Polling) × (heard ≡ followed_of came) × IsPollToldBy P m n (Ok came)
FollowsBy P m n (Err fault) = EndsPollingBy P fault m n

-- the reply to the poll that waits, where one is open; else a poll
abbrev pub FollowsAs : Option ℕ → Moment → Moment → Result Followed CommandFault → Type 0
FollowsAs None m n result = FollowsBy IsPoll m n result
FollowsAs (Some milliseconds) m n result = FollowsBy IsAwaited (answered m.line m) n result

abbrev pub Follows : Moment → Moment → Result Followed CommandFault → Type 0
Follows m n result = FollowsAs m.workspace.awaited m n result

-- ---- polls of commands

-- behind the poll that waits a poll was said, and its reply heard and told first
pub record HearsReply (m n : Moment) : Type 0 where
  pub line : LineState
  pub said : IsSaidOrWanting {A = Unit {0}} poll_request m.line line (Ok tt)
  pub heard : Polling
  pub reply : IsPollToldBy IsReplyHeard (answered line m) n (Ok heard)

-- that failed: the poll could not be said, or the client ends at the reply to the one that waits
pub record FailsReply (fault : CommandFault) (m n : Moment) : Type 0 where
  pub line : LineState
  pub said : IsSaidOrWanting {A = Unit {0}} poll_request m.line line (Ok tt)
  pub ends : EndsPollingBy IsReplyHeard fault (answered line m) n

abbrev pub IsPollUnsaid : CommandFault → Moment → Moment → Type 0
IsPollUnsaid (Client fault) m n = IsSaidOrWanting {A = Unit {0}} poll_request m.line n.line (Err fault) × (n ≡ record m { line = n.line })
IsPollUnsaid fault m n = ⊥

-- the news of a command's poll, where one waits, or none
abbrev pub BringsAs : Option ℕ → News → Moment → Moment → Type 0
BringsAs None news m n = BringsBy IsPoll news m n
BringsAs (Some milliseconds) news m n = (mid : Moment) × HearsReply m mid × BringsBy IsAwaited news mid n

abbrev pub EndsPollingAs : Option ℕ → CommandFault → Moment → Moment → Type 0
EndsPollingAs None fault m n = EndsPollingBy IsPoll fault m n
EndsPollingAs (Some milliseconds) fault m n = IsPollUnsaid fault m n ⊎ (FailsReply fault m n ⊎ ((mid : Moment) × HearsReply m mid × EndsPollingBy IsAwaited fault mid n))

-- what a command's poll brought
abbrev pub Brings : News → Moment → Moment → Type 0
Brings news m n = BringsAs m.workspace.awaited news m n

-- how a client ends at it
abbrev pub EndsPolling : CommandFault → Moment → Moment → Type 0
EndsPolling fault m n = EndsPollingAs m.workspace.awaited fault m n

abbrev pub IsNewsAs : Option ℕ → Moment → Moment → Result News CommandFault → Type 0
IsNewsAs awaited m n (Ok news) = BringsAs awaited news m n
IsNewsAs awaited m n (Err fault) = EndsPollingAs awaited fault m n

abbrev pub IsNews : Moment → Moment → Result News CommandFault → Type 0
IsNews m n result = IsNewsAs m.workspace.awaited m n result

-- what a command does behind its poll is as P says
pub record GoesOn {A : Type 0} (P : News → Moment → Moment → Result A CommandFault → Type 0) (m n : Moment) (result : Result A CommandFault) : Type 0 where
  pub news : News
  pub mid : Moment
  pub brought : Brings news m mid
  pub does : P news mid n result

-- a command that polls first: it goes on behind the poll, or ends at it
abbrev pub BehindPoll : {A : Type 0} → (News → Moment → Moment → Result A CommandFault → Type 0) → Moment → Moment → Result A CommandFault → Type 0
BehindPoll P m n (Ok answer) = GoesOn P m n (Ok answer)
BehindPoll P m n (Err fault) = EndsPolling fault m n ⊎ GoesOn P m n (Err fault)

-- a command does nothing more, and answers so
abbrev pub Leaves : {A : Type 0} → A → Moment → Moment → Result A CommandFault → Type 0
Leaves answer m n result = (result ≡ Ok answer) × (n ≡ m)
