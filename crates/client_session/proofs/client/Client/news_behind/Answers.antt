use Rattle.std.proofs.Common.{Some, inl, inr, subst}
use Rattle.client_session.specs.Moment.{Moment}
use Rattle.client_session.specs.News.{EndsPollingAs, IsNewsAs}
use Rattle.client_session.proofs.FollowLaws.{news_on}
use Rattle.client_session.proofs.client.Client.news_behind.Goals as goal

pub returns-in-Err-told_reply : goal.returns-in-Err-told_reply
returns-in-Err-told_reply g c =
    subst (λ (m : Moment). EndsPollingAs (Some c.args.milliseconds) c.in-Err-told_reply.fault m c.told_reply.new.self) c.self.view_is
    (inr (inl (record { line = c.say_poll.new.self; said = c.in-Ok.ensures; ends = c.in-Err-told_reply.ensures.told })))

pub returns : goal.returns
returns g c =
    subst (λ (m : Moment). IsNewsAs (Some c.args.milliseconds) m c.news_awaited.new.self c.news_awaited.result) c.self.view_is
    (news_on c.args.milliseconds _ _ _ c.news_awaited.result
    (record { line = c.say_poll.new.self; said = c.in-Ok.ensures; heard = c.in-Ok-told_reply.field-0; reply = c.in-Ok-told_reply.ensures.told }) c.news_awaited.ensures)
