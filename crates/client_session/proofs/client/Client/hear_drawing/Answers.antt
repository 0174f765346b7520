use Rattle.std.proofs.Common.{Err, inl, subst, sym}
use Rattle.client_session.specs.Drawing.{HearsDrawing, doubting}
use Rattle.client_session.specs.Moment.{Moment}
use Rattle.client_session.specs.News.{answered}
use Rattle.client_session.proofs.BehindLaws.{doubted_at_reply}
use Rattle.client_session.proofs.client.Client.hear_drawing.Goals as goal

pub returns-in_default : goal.returns-in_default
returns-in_default g c =
    let mid : Moment = record { line = c.self-in_default.inside.server; workspace = c.self-in_default.inside.workspace; out = c.self-in_default.inside.out.items } in
    subst (λ (m : Moment). HearsDrawing c.args.pushed (answered m.line m) (doubting c.args.pushed mid) (Err c.in-Err.fault)) c.self.view_is
    (inl (doubted_at_reply c.args.pushed c.in-Err.fault _ c.told_reply.new.self mid c.in_default.not-Refused (sym c.self-in_default.view_is) c.in-Err.ensures.told))
