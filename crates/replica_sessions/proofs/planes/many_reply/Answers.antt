use Rattle.std.proofs.Common.{drop, ◌∙◌, ap}
use Rattle.session_hub.specs.HubCall.{Shows}
use Rattle.session_hub.specs.Replies.{refusal}
use Rattle.session_hub.specs.Request.{numbers}
use Rattle.replica_sessions.proofs.AnswerLaws.{by_call, refused_many, shown_many, wanting_many}
use Rattle.replica_sessions.proofs.planes.many_reply.Goals as goal

pub returns-in-Err-clause-answer : goal.returns-in-Err-clause-answer
returns-in-Err-clause-answer g c =
    λ kept. by_call _ _ _ _ _ Shows _ _ _ kept kept _ c.in-Err.is c.plane.ensures.allowed (refused_many (g.H.Hub.rule_of c.args.hub.now) (g.H.Hub.number_of c.args.hub.now) kept (numbers c.args.count (drop 2 c.args.rest.now)) c.in-Err.fault _ _ c.number-in-Err.ensures c.refusal-in-Err.ensures)

pub returns-in-Err-many_frames-clause-answer : goal.returns-in-Err-many_frames-clause-answer
returns-in-Err-many_frames-clause-answer g c =
    λ kept. by_call _ _ _ _ _ Shows _ _ _ kept kept _ c.in-Ok-plane.is c.plane.ensures.allowed (wanting_many (g.H.Hub.rule_of c.args.hub.now) (g.H.Hub.number_of c.args.hub.now) kept c.in-Ok-plane.plane _ (numbers c.args.count (drop 2 c.args.rest.now)) (c.refusal-in-Err-many_frames.ensures ∙ ap refusal c.number-in-Err-many_frames.ensures))

pub returns-in-Ok-many_frames-clause-answer : goal.returns-in-Ok-many_frames-clause-answer
returns-in-Ok-many_frames-clause-answer g c =
    λ kept. by_call _ _ _ _ _ Shows _ _ _ kept kept _ c.in-Ok-plane.is c.plane.ensures.allowed
    (shown_many (g.H.Hub.rule_of c.args.hub.now) (g.H.Hub.number_of c.args.hub.now) kept c.in-Ok-plane.plane _ (numbers c.args.count (drop 2 c.args.rest.now)) (rw (c.rule-rule.ensures.value, c.deref.ensures.value, c.in-Ok.ensures.numbers, c.split_at.ensures.back) at c.in-Ok-many_frames.ensures))
