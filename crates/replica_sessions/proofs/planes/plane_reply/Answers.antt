use Rattle.std.proofs.Common.{◌∙◌, ap, sym, subst}
use Rattle.std.specs.Prelude.{unwrap_or}
use Rattle.session_hub.specs.HubCall.{Shows}
use Rattle.session_hub.specs.Replies.{IsPlaneReply, refusal}
use Rattle.replica_sessions.proofs.AnswerLaws.{by_call, refused_plane, shown_plane, wanting_plane}
use Rattle.replica_sessions.proofs.planes.plane_reply.Goals as goal

pub returns-in-Err-clause-answer : goal.returns-in-Err-clause-answer
returns-in-Err-clause-answer g c =
    λ kept. by_call _ _ _ _ _ Shows _ _ _ kept kept _ c.in-Err.is c.plane.ensures.allowed (refused_plane (g.H.Hub.rule_of c.args.hub.now) (g.H.Hub.number_of c.args.hub.now) kept c.in-Err.fault _ _ c.number.ensures c.refusal.ensures)

pub returns-in-Err-plane_frames-clause-answer : goal.returns-in-Err-plane_frames-clause-answer
returns-in-Err-plane_frames-clause-answer g c =
    λ kept. by_call _ _ _ _ _ Shows _ _ _ kept kept _ c.in-Ok.is c.plane.ensures.allowed (wanting_plane (g.H.Hub.rule_of c.args.hub.now) (g.H.Hub.number_of c.args.hub.now) kept c.in-Ok.plane _ (c.refusal-in-Err-plane_frames.ensures ∙ ap refusal c.number-in-Err-plane_frames.ensures))

pub returns-in-Ok-None-clause-answer : goal.returns-in-Ok-None-clause-answer
returns-in-Ok-None-clause-answer g c =
    let reply = subst (λ o. IsPlaneReply c.rule-rule.result c.in-Ok.plane (unwrap_or o (refusal 21))) c.in-Ok-None.field-0-is c.in-Ok-None.ensures in
    let told = subst (λ out. IsPlaneReply c.rule-rule.result c.in-Ok.plane out) (sym (c.refusal-in-Ok-None.ensures ∙ ap refusal c.number-in-Ok-None.ensures)) reply in
    λ kept. by_call _ _ _ _ _ Shows _ _ _ kept kept _ c.in-Ok.is c.plane.ensures.allowed (shown_plane (g.H.Hub.rule_of c.args.hub.now) (g.H.Hub.number_of c.args.hub.now) kept c.in-Ok.plane _ (rw c.rule-rule.ensures.value at told))

pub returns-in-Ok-Some-clause-answer : goal.returns-in-Ok-Some-clause-answer
returns-in-Ok-Some-clause-answer g c =
    let told = subst (λ o. IsPlaneReply c.rule-rule.result c.in-Ok.plane (unwrap_or o (refusal 21))) c.in-Ok-Some.field-0-is c.in-Ok-Some.ensures in
    λ kept. by_call _ _ _ _ _ Shows _ _ _ kept kept _ c.in-Ok.is c.plane.ensures.allowed (shown_plane (g.H.Hub.rule_of c.args.hub.now) (g.H.Hub.number_of c.args.hub.now) kept c.in-Ok.plane _ (rw c.rule-rule.ensures.value at told))
