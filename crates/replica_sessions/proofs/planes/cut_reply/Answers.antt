use Rattle.std.proofs.Common.{◌∙◌, ap, sym, subst}
use Rattle.std.specs.Prelude.{unwrap_or}
use Rattle.session_hub.specs.HubCall.{Shows}
use Rattle.session_hub.specs.Replies.{IsCutReply, refusal}
use Rattle.replica_sessions.proofs.AnswerLaws.{by_call, refused_cut, shown_cut, wanting_cut}
use Rattle.replica_sessions.proofs.planes.cut_reply.Goals as goal

pub returns-in-Err-clause-answer : goal.returns-in-Err-clause-answer
returns-in-Err-clause-answer g c =
    λ kept. by_call _ _ _ _ _ Shows _ _ _ kept kept _ c.in-Err.is c.plane.ensures.allowed (refused_cut (g.H.Hub.rule_of c.args.hub.now) (g.H.Hub.number_of c.args.hub.now) kept c.args.asked.window c.args.asked.generation c.in-Err.fault _ _ c.number.ensures c.refusal.ensures)

pub returns-in-Err-cut_frames-clause-answer : goal.returns-in-Err-cut_frames-clause-answer
returns-in-Err-cut_frames-clause-answer g c =
    λ kept. by_call _ _ _ _ _ Shows _ _ _ kept kept _ c.in-Ok.is c.plane.ensures.allowed (wanting_cut (g.H.Hub.rule_of c.args.hub.now) (g.H.Hub.number_of c.args.hub.now) kept c.in-Ok.plane _ c.args.asked.window c.args.asked.generation (c.refusal-in-Err-cut_frames.ensures ∙ ap refusal c.number-in-Err-cut_frames.ensures))

pub returns-in-Ok-None-clause-answer : goal.returns-in-Ok-None-clause-answer
returns-in-Ok-None-clause-answer g c =
    let reply = subst (λ o. IsCutReply c.rule-rule.result c.in-Ok.plane c.args.asked.window c.args.asked.generation (unwrap_or o (refusal 21))) c.in-Ok-None.field-0-is c.in-Ok-None.ensures in
    let told = subst (λ out. IsCutReply c.rule-rule.result c.in-Ok.plane c.args.asked.window c.args.asked.generation out) (sym (c.refusal-in-Ok-None.ensures ∙ ap refusal c.number-in-Ok-None.ensures)) reply in
    λ kept. by_call _ _ _ _ _ Shows _ _ _ kept kept _ c.in-Ok.is c.plane.ensures.allowed (shown_cut (g.H.Hub.rule_of c.args.hub.now) (g.H.Hub.number_of c.args.hub.now) kept c.in-Ok.plane _ c.args.asked.window c.args.asked.generation (rw c.rule-rule.ensures.value at told))

pub returns-in-Ok-Some-clause-answer : goal.returns-in-Ok-Some-clause-answer
returns-in-Ok-Some-clause-answer g c =
    let told = subst (λ o. IsCutReply c.rule-rule.result c.in-Ok.plane c.args.asked.window c.args.asked.generation (unwrap_or o (refusal 21))) c.in-Ok-Some.field-0-is c.in-Ok-Some.ensures in
    λ kept. by_call _ _ _ _ _ Shows _ _ _ kept kept _ c.in-Ok.is c.plane.ensures.allowed (shown_cut (g.H.Hub.rule_of c.args.hub.now) (g.H.Hub.number_of c.args.hub.now) kept c.in-Ok.plane _ c.args.asked.window c.args.asked.generation (rw c.rule-rule.ensures.value at told))
