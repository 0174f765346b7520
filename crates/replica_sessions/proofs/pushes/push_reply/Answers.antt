use Rattle.std.proofs.Common.{◌∙◌, ap}
use Rattle.session_hub.specs.HubCall.{Pushes}
use Rattle.session_hub.specs.Replies.{refusal}
use Rattle.replica_sessions.specs.SessionFault.{session_fault_number}
use Rattle.replica_sessions.proofs.AnswerLaws.{by_call, by_none, refused_push, done_push, unread_push}
use Rattle.replica_sessions.proofs.pushes.push_reply.Goals as goal

pub returns-in-Err-clause-answer : goal.returns-in-Err-clause-answer
returns-in-Err-clause-answer g c =
    λ kept. by_none _ _ _ _ _ kept kept _ (unread_push (g.H.Hub.rule_of c.args.hub.now) (g.H.Hub.number_of c.args.hub.now) kept c.args.text.now (session_fault_number c.in-Err.fault) _ (c.refusal.ensures ∙ ap refusal c.number.ensures) (rw c.rule-rule.ensures.value at c.in-Err.ensures))

pub returns-in-Err-push-clause-answer : goal.returns-in-Err-push-clause-answer
returns-in-Err-push-clause-answer g c =
    λ kept. by_call _ _ _ _ _ (Pushes c.in-Ok.edit) _ _ _ kept kept _ c.in-Err-push.is c.push.ensures.allowed
    (refused_push (g.H.Hub.rule_of c.args.hub.now) (g.H.Hub.number_of c.args.hub.now) kept c.args.text.now c.in-Ok.edit c.in-Err-push.fault _ _ (rw c.rule-rule.ensures.value at c.in-Ok.ensures) c.number-in-Err-push.ensures c.refusal-in-Err-push.ensures)

pub returns-in-Ok-push-clause-answer : goal.returns-in-Ok-push-clause-answer
returns-in-Ok-push-clause-answer g c =
    λ kept. by_call _ _ _ _ _ (Pushes c.in-Ok.edit) _ _ _ kept kept _ c.in-Ok-push.is c.push.ensures.allowed
    (done_push (g.H.Hub.rule_of c.args.hub.now) (g.H.Hub.number_of c.args.hub.now) kept c.args.text.now c.in-Ok.edit c.in-Ok-push.field-0 _ (rw c.rule-rule.ensures.value at c.in-Ok.ensures) c.refusal-in-Ok-push.ensures)
