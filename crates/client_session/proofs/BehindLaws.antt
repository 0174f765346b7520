-- What is said behind a poll that waits.
use Rattle.std.proofs.Common.{◌≡◌, false, [], None, Result, Ok, Err, inl, inr, refl, subst, ℕ}
use Rattle.replica_core.specs.Replica.{ReplicaState}
use Rattle.replica_core.specs.declared.fault.Fault.{Fault}
use Rattle.replica_core.specs.declared.event.Reply.TheVariants as reply
use Rattle.replica_events.specs.declared.edit_spec.EditSpec.{EditSpec}
use Rattle.genedit_lib.specs.Output.{reply_line}
use Rattle.board_client.specs.declared.fault.ClientFault.{ClientFault}
use Rattle.board_client.specs.declared.polling.Polling.{Polling}
use Rattle.board_client.specs.declared.publishing.Saying.TheVariants as saying
use Rattle.board_client.specs.declared.pushing.Pushing.{Pushing}
use Rattle.board_client.specs.Anew.{IsAnewSaid}
use Rattle.board_client.specs.Client.{LineState}
use Rattle.board_client.specs.Greeting.{bye_request}
use Rattle.board_client.specs.Hearing.{IsSaidOrWanting}
use Rattle.board_client.specs.Polling.{IsReplyTaken}
use Rattle.board_client.specs.Pushed.{PushedEdit}
use Rattle.board_client.specs.Pushing.{IsAnswering}
use Rattle.board_client.specs.Saying.{IsDrawingSaid}
use Rattle.client_session.specs.declared.fault.CommandFault.{CommandFault}
use Rattle.client_session.specs.declared.fault.CommandFault.TheVariants.{Client, Refused, Memory, StoreFull}
use Rattle.client_session.specs.declared.outcome.Outcome.{Outcome}
use Rattle.client_session.specs.declared.outcome.Outcome.TheVariants as outcome
use Rattle.client_session.specs.Drawing.{DrawsBy, DrawsWaiting, EndsAtReply, EndsSaid, RefusesDrawing, RefusesSaying, Says, SaysDrawing, doubting, undoubted}
use Rattle.client_session.specs.Leaving.{LeavesBehind}
use Rattle.client_session.specs.News.{EndsPollingBy, IsReplyHeard}
use Rattle.client_session.specs.Moment.{IsPrinted, Moment}

-- ---- a drawing

pub said_on : (after : ℕ) (spec : EditSpec) (m n : Moment) (result : Result Outcome CommandFault) → SaysDrawing after spec m n result → DrawsWaiting false after spec m n result
said_on after spec m n (Ok came) says = inr says
said_on after spec m n (Err fault) says = inr (inr says)

refused_in : (after : ℕ) (spec : EditSpec) (m n : Moment) (result : Result Outcome CommandFault) → RefusesDrawing after spec m n result → DrawsWaiting false after spec m n result
refused_in after spec m n (Ok came) refuses = inl refuses
refused_in after spec m n (Err fault) refuses = inr (inl refuses)

-- there is no such edit, and the line is as it was
refuses : (S : Says) (m n : Moment) (line : LineState) (fault : Fault) (result : Result Outcome CommandFault) → line ≡ m.line
    → S m.line line m.workspace.replica (Ok (saying.Refused fault)) → (base : Moment → Moment) → IsPrinted outcome.Refused (reply_line (reply.Refused fault)) (base (record m { line = line })) n result
    → RefusesSaying S m (base m) n result
refuses S m n line fault result same said base told = record {
  fault = fault;
  refused = subst (λ (l : LineState). S m.line l m.workspace.replica (Ok (saying.Refused fault))) same said;
  told = subst (λ (l : LineState). IsPrinted outcome.Refused (reply_line (reply.Refused fault)) (base (record m { line = l })) n result) same told;
}

pub refused_on : (after : ℕ) (spec : EditSpec) (m n : Moment) (line : LineState) (fault : Fault) (result : Result Outcome CommandFault)
    → IsDrawingSaid after spec m.line line m.workspace.replica (Ok (saying.Refused fault)) → IsPrinted outcome.Refused (reply_line (reply.Refused fault)) (record m { line = line }) n result
    → DrawsWaiting false after spec m n result
refused_on after spec m n line fault result said told = refused_in after spec m n result (refuses (IsDrawingSaid after spec) m n line fault result said.2.1 said (λ x. x) told)

-- ---- the same where no poll waits

pub ended_by : (S : Says) (m base n : Moment) (result : Result Outcome CommandFault) → EndsSaid S m n result → DrawsBy S m base n result
ended_by S m base n (Ok came) says = inr says
ended_by S m base n (Err fault) says = inr (inr says)

refused_by : (S : Says) (m base n : Moment) (result : Result Outcome CommandFault) → RefusesSaying S m base n result → DrawsBy S m base n result
refused_by S m base n (Ok came) says = inl says
refused_by S m base n (Err fault) says = inr (inl says)

pub refused_alone : (after : ℕ) (spec : EditSpec) (m n : Moment) (line : LineState) (fault : Fault) (result : Result Outcome CommandFault)
    → IsDrawingSaid after spec m.line line m.workspace.replica (Ok (saying.Refused fault)) → IsPrinted outcome.Refused (reply_line (reply.Refused fault)) (record m { line = line }) n result
    → DrawsBy (IsDrawingSaid after spec) m m n result
refused_alone after spec m n line fault result said told = refused_by (IsDrawingSaid after spec) m m n result (refuses (IsDrawingSaid after spec) m n line fault result said.2.1 said (λ x. x) told)

-- ---- an edit in doubt

unsaid_anew : (d : PushedEdit) (a b : LineState) (r : ReplicaState) (fault : Fault) → IsAnewSaid d a b r (Ok (saying.Refused fault)) → b ≡ a
unsaid_anew d a b r fault (inl said) = said.1.2.1
unsaid_anew d a b r fault (inr another) = another.unsaid

pub refused_anew : (d : PushedEdit) (m n : Moment) (line : LineState) (fault : Fault) (result : Result Outcome CommandFault)
    → IsAnewSaid d m.line line m.workspace.replica (Ok (saying.Refused fault)) → IsPrinted outcome.Refused (reply_line (reply.Refused fault)) (undoubted (record m { line = line })) n result
    → DrawsBy (IsAnewSaid d) m (undoubted m) n result
refused_anew d m n line fault result said told =
    refused_by (IsAnewSaid d) m (undoubted m) n result (refuses (IsAnewSaid d) m n line fault result (unsaid_anew d m.line line m.workspace.replica fault said) said undoubted told)

-- the edit is in doubt where the client ends at the reply before its answer, by no refusal
pub doubted_at_reply : (p : PushedEdit) (fault : CommandFault) (m mid same : Moment) → ((number : ℕ) → fault ≡ Refused number → ⊥) → mid ≡ same → EndsPollingBy IsReplyHeard fault m mid
    → EndsAtReply p fault m (doubting p same)
doubted_at_reply p (Client fault) m mid same never is ends = (same, subst (λ (x : Moment). EndsPollingBy IsReplyHeard (Client fault) m x) is ends, refl)
doubted_at_reply p (Refused number) m mid same never is ends = never number refl
doubted_at_reply p Memory m mid same never is ends = (same, subst (λ (x : Moment). EndsPollingBy IsReplyHeard Memory m x) is ends, refl)
doubted_at_reply p StoreFull m mid same never is ends = (same, subst (λ (x : Moment). EndsPollingBy IsReplyHeard StoreFull m x) is ends, refl)

-- ---- a farewell

pub both_heard : (m : Moment) (said line end : LineState) (took : ReplicaState) (heard : Polling) (result : Result Pushing ClientFault)
    → IsSaidOrWanting {A = Unit {0}} bye_request m.line said (Ok tt) → IsReplyTaken [] said line m.workspace.replica took (Ok heard) → IsAnswering [] line end result
    → LeavesBehind m (record { line = end; workspace = record m.workspace { replica = took; awaited = None }; out = m.out }) result
both_heard m said line end took heard (Ok answer) farewell reply answered = record { said = said; farewell = farewell; heard = heard; line = line; reply = reply; answer = answered; left = refl }
both_heard m said line end took heard (Err fault) farewell reply answered = inr (inr (record { said = said; farewell = farewell; heard = heard; line = line; reply = reply; answer = answered; left = refl }))
