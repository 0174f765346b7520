-- Joining that a poll ends.
use Rattle.std.proofs.Common.{◌≡◌, List, [], ℕ, Ok, Err, sym, subst, inr}
use Rattle.client_protocol.specs.declared.greeting.Greeting.{Greeting}
use Rattle.board_client.specs.Client.{LineState}
use Rattle.board_client.specs.Greeting.{IsGreeting}
use Rattle.client_session.specs.declared.fault.CommandFault.{CommandFault}
use Rattle.client_session.specs.declared.joining.Telling.{Telling}
use Rattle.client_session.specs.declared.workspace.Workspace.{Workspace}
use Rattle.client_session.specs.Joining.{IsJoining, NotJoined, SetsUp}
use Rattle.client_session.specs.Moment.{Moment}
use Rattle.client_session.specs.News.{IsFollowing}

-- a client that was greeted, and whose first poll ended it
pub ended : (telling : Telling) (a line : LineState) (heard : Greeting) (nothing printed : List ℕ) (fresh : Workspace) (n : Moment) (fault : CommandFault) (u : NotJoined)
    → nothing ≡ [] → IsGreeting a line (Ok heard) → SetsUp telling heard nothing printed (Ok fresh)
    → IsFollowing {A = Unit {0}} (record { line = line; workspace = fresh; out = printed }) n (Err fault)
    → u ≡ record { fault = fault; line = n.line; out = n.out } → IsJoining telling a (Err u)
ended telling a line heard nothing printed fresh n fault u none greeted sets_up follows is =
    subst (λ (x : NotJoined). IsJoining telling a (Err x)) (sym is)
    (inr (record {
      heard = heard;
      line = line;
      printed = printed;
      made = Ok fresh;
      greeted = greeted;
      sets_up = subst (λ (xs : List ℕ). SetsUp telling heard xs printed (Ok fresh)) none sets_up;
      goes = (n.workspace, follows);
    }))
