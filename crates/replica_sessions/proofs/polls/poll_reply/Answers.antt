use Rattle.std.proofs.Common.{◌≡◌, ◌++◌, Some, None, Err, Ok, ap, ◌∙◌}
use Rattle.session_hub.specs.HubCall.{Polls}
use Rattle.poll_news.specs.declared.news.News.TheVariants.{Edits, Whole}
use Rattle.replica_sessions.specs.KeptNews.{kept_of}
use Rattle.replica_sessions.proofs.AnswerLaws.{by_call, by_none}
use Rattle.replica_sessions.proofs.PollLaws.{kept_whole, refused_poll, polled_edits, polled_whole, same_kept, settled}
use Rattle.replica_sessions.proofs.polls.poll_reply.Goals as goal

pub returns-in-Some-clause-answer : goal.returns-in-Some-clause-answer
returns-in-Some-clause-answer g c =
    let at : c.args.kept.now.plane ≡ Some c.in-Some.plane = cc (c.take.ensures.value, c.in-Some.is) in
    by_none _ _ _ _ _ (kept_of c.args.kept.now) _ _ (kept_whole (g.H.Hub.rule_of c.args.hub.now) (g.H.Hub.number_of c.args.hub.now) (kept_of c.args.kept.now) _ _ c.in-Some.plane at (rw c.rule-rule.ensures.value at c.plane_handed_out.ensures))

pub returns-in-Err-poll-clause-answer : goal.returns-in-Err-poll-clause-answer
returns-in-Err-poll-clause-answer g c =
    let none : c.args.kept.now.plane ≡ None = cc (c.take.ensures.value, c.in_default.is) in
    let plane : c.settle.new.self.plane ≡ c.args.kept.now.plane = cc (c.settle.ensures.plane, c.take.ensures.after, none) in
    by_call _ _ _ _ _ Polls _ (Err c.in-Err-poll.fault) _ (kept_of c.args.kept.now) _ _ c.in-Err-poll.is c.poll.ensures.allowed
    (refused_poll (g.H.Hub.rule_of c.args.hub.now) (g.H.Hub.number_of c.args.hub.now) (kept_of c.args.kept.now) _ _ none c.in-Err-poll.fault _ c.number-in-Err-poll.ensures c.refusal-in-Err-poll.ensures (same_kept _ _ _ _ c.settle.ensures.all plane))

pub returns-in-Ok-Edits-clause-answer : goal.returns-in-Ok-Edits-clause-answer
returns-in-Ok-Edits-clause-answer g c =
    let none : c.args.kept.now.plane ≡ None = cc (c.take.ensures.value, c.in_default.is) in
    let plane : c.settle.new.self.plane ≡ None = cc (c.settle.ensures.plane, c.take.ensures.after) in
    let front = settled c.settle.new.self.edits.items c.settle.new.self.late.items (c.args.kept.now.edits.items ++ c.args.kept.now.late.items) c.in-Ok.ensures.ok c.settle.ensures.all in
    let all : c.settle.new.self.edits.items ++ c.into_vec.result.items ≡ (c.args.kept.now.edits.items ++ c.args.kept.now.late.items) ++ c.in-Ok-Edits.edits =
    ap (λ l. l ++ c.into_vec.result.items) front ∙ ap (λ l. (c.args.kept.now.edits.items ++ c.args.kept.now.late.items) ++ l) c.into_vec.ensures in
    let same : c.poll.result ≡ Ok (Edits c.in-Ok-Edits.edits) = c.in-Ok-Edits.is ∙ ap Ok c.in-Ok-Edits.field-0-is in
    by_call _ _ _ _ _ Polls _ (Ok (Edits c.in-Ok-Edits.edits)) _ (kept_of c.args.kept.now) _ _ same c.poll.ensures.allowed
    (polled_edits (g.H.Hub.rule_of c.args.hub.now) (g.H.Hub.number_of c.args.hub.now) (kept_of c.args.kept.now) _ _ none c.in-Ok-Edits.edits (c.settle.new.self.edits.items ++ c.into_vec.result.items) all (rw (c.rule-rule.ensures.value, plane) at c.edits_handed_out.ensures))

pub returns-in-Ok-Whole-clause-answer : goal.returns-in-Ok-Whole-clause-answer
returns-in-Ok-Whole-clause-answer g c =
    let none : c.args.kept.now.plane ≡ None = cc (c.take.ensures.value, c.in_default.is) in
    let same : c.poll.result ≡ Ok (Whole c.in-Ok-Whole.plane c.in-Ok-Whole.field-0-1) = c.in-Ok-Whole.is ∙ ap Ok c.in-Ok-Whole.field-0-is in
    by_call _ _ _ _ _ Polls _ (Ok (Whole c.in-Ok-Whole.plane c.in-Ok-Whole.field-0-1)) _ (kept_of c.args.kept.now) _ _ same c.poll.ensures.allowed
    (polled_whole (g.H.Hub.rule_of c.args.hub.now) (g.H.Hub.number_of c.args.hub.now) (kept_of c.args.kept.now) _ _ none c.in-Ok-Whole.plane c.in-Ok-Whole.field-0-1 (rw (c.rule-rule.ensures.value, c.new-nothing.ensures.edits, c.new-nothing.ensures.late) at c.plane_handed_out-in-Ok-Whole.ensures))
