use Rattle.std.proofs.Common.{Ok, Err, refl, ap, sym, subst, ◌∙◌}
use Rattle.std.specs.Prelude.{unwrap_or}
use Rattle.session_hub.specs.HubCall.{Hands}
use Rattle.session_hub.specs.Replies.{IsInPiecesReply, refusal}
use Rattle.replica_sessions.specs.KeptNews.{kept_of}
use Rattle.replica_sessions.proofs.AnswerLaws.{by_call}
use Rattle.replica_sessions.proofs.PieceLaws.{refused_pieces, told_pieces, wanting_pieces}
use Rattle.replica_sessions.proofs.PollLaws.{none_kept, same_kept}
use Rattle.replica_sessions.proofs.pieces.pieces_reply.Goals as goal

pub returns-in-Err-clause-answer : goal.returns-in-Err-clause-answer
returns-in-Err-clause-answer g c =
    by_call _ _ _ _ _ Hands _ (Err c.in-Err.fault) _ (kept_of c.args.kept.now) _ _ c.in-Err.is c.hand_out.ensures.allowed
    (refused_pieces (g.H.Hub.rule_of c.args.hub.now) (g.H.Hub.number_of c.args.hub.now) (kept_of c.args.kept.now) _ _ c.in-Err.fault _ c.number.ensures c.refusal.ensures refl)

pub returns-in-Err-plane_frames-clause-answer : goal.returns-in-Err-plane_frames-clause-answer
returns-in-Err-plane_frames-clause-answer g c =
    let none = none_kept c.new-nothing.result.edits.items c.new-nothing.result.late.items c.new-nothing.ensures.edits c.new-nothing.ensures.late in
    by_call _ _ _ _ _ Hands _ (Ok (c.in-Ok.plane, c.in-Ok.count)) _ (kept_of c.args.kept.now) _ _ c.in-Ok.is c.hand_out.ensures.allowed
    (wanting_pieces (g.H.Hub.rule_of c.args.hub.now) (g.H.Hub.number_of c.args.hub.now) (kept_of c.args.kept.now) _ _ (c.in-Ok.plane, c.in-Ok.count)
    (c.refusal-in-Err-plane_frames.ensures ∙ ap refusal c.number-in-Err-plane_frames.ensures) (same_kept _ _ _ _ none refl))

pub returns-in-Ok-None-clause-answer : goal.returns-in-Ok-None-clause-answer
returns-in-Ok-None-clause-answer g c =
    let none = none_kept c.new-nothing.result.edits.items c.new-nothing.result.late.items c.new-nothing.ensures.edits c.new-nothing.ensures.late in
    let reply = subst (λ o. IsInPiecesReply c.rule-rule.result c.in-Ok.plane c.in-Ok.count (unwrap_or o (refusal 21))) c.in-Ok-None.field-0-is c.in-Ok-None.ensures in
    let told = subst (λ out. IsInPiecesReply c.rule-rule.result c.in-Ok.plane c.in-Ok.count out) (sym (c.refusal-in-Ok-None.ensures ∙ ap refusal c.number-in-Ok-None.ensures)) reply in
    by_call _ _ _ _ _ Hands _ (Ok (c.in-Ok.plane, c.in-Ok.count)) _ (kept_of c.args.kept.now) _ _ c.in-Ok.is c.hand_out.ensures.allowed
    (told_pieces (g.H.Hub.rule_of c.args.hub.now) (g.H.Hub.number_of c.args.hub.now) (kept_of c.args.kept.now) _ _ (c.in-Ok.plane, c.in-Ok.count)
    (rw c.rule-rule.ensures.value at told) (same_kept _ _ _ _ none c.new-nothing.ensures.plane))

pub returns-in-Ok-Some-clause-answer : goal.returns-in-Ok-Some-clause-answer
returns-in-Ok-Some-clause-answer g c =
    let none = none_kept c.new-nothing.result.edits.items c.new-nothing.result.late.items c.new-nothing.ensures.edits c.new-nothing.ensures.late in
    let told = subst (λ o. IsInPiecesReply c.rule-rule.result c.in-Ok.plane c.in-Ok.count (unwrap_or o (refusal 21))) c.in-Ok-Some.field-0-is c.in-Ok-Some.ensures in
    by_call _ _ _ _ _ Hands _ (Ok (c.in-Ok.plane, c.in-Ok.count)) _ (kept_of c.args.kept.now) _ _ c.in-Ok.is c.hand_out.ensures.allowed
    (told_pieces (g.H.Hub.rule_of c.args.hub.now) (g.H.Hub.number_of c.args.hub.now) (kept_of c.args.kept.now) _ _ (c.in-Ok.plane, c.in-Ok.count)
    (rw c.rule-rule.ensures.value at told) (same_kept _ _ _ _ none c.new-nothing.ensures.plane))
