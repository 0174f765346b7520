-- What a client hears of a push that it said before.
use Rattle.std.specs.Prelude.{◌≡◌, ◌⊎◌, None, Bool, true, false, [], Result, Ok, Err}
use Rattle.board_client.specs.declared.polling.Polling.{Polling}
use Rattle.board_client.specs.declared.pushing.Pushing.{Pushing}
use Rattle.board_client.specs.Pushing.{IsAnswering}
use Rattle.client_session.specs.declared.fault.CommandFault.{CommandFault}
use Rattle.client_session.specs.declared.fault.CommandFault.TheVariants.{Client}
use Rattle.client_session.specs.Moment.{Moment}
use Rattle.client_session.specs.News.{EndsPollingBy, IsPollToldBy, IsReplyHeard}

-- its answer is heard, and nothing is in doubt any more; or none comes, and nothing else is done
abbrev pub HearsAnswer : Moment → Moment → Result Pushing CommandFault → Type 0
HearsAnswer m n (Ok answer) = IsAnswering [] m.line n.line (Ok answer) × (n ≡ record { line = n.line; workspace = record m.workspace { doubt = None }; out = m.out })
HearsAnswer m n (Err (Client fault)) = IsAnswering [] m.line n.line (Err fault) × (n ≡ record m { line = n.line })
HearsAnswer m n (Err fault) = ⊥

-- the reply to the poll behind which it was said is heard and told first
pub record HearsBehindReply (m n : Moment) (result : Result Pushing CommandFault) : Type 0 where
  pub heard : Polling
  pub mid : Moment
  pub reply : IsPollToldBy IsReplyHeard m mid (Ok heard)
  pub answer : HearsAnswer mid n result

-- so it is where the push was said behind a poll; or the client ends at that reply
abbrev pub HearsLate : Bool → Moment → Moment → Result Pushing CommandFault → Type 0
HearsLate false m n result = HearsAnswer m n result
HearsLate true m n (Ok answer) = HearsBehindReply m n (Ok answer)
HearsLate true m n (Err fault) = EndsPollingBy IsReplyHeard fault m n ⊎ HearsBehindReply m n (Err fault)
