use Rattle.std.proofs.Common.{◌≡◌, ◌∙◌, ap, subst, List}
use Rattle.std.specs.Result.{IfOk}
use Rattle.edit_stamps.specs.Edit.{PlaneEdit}
use Rattle.client_session.specs.Returning.{doubted, news_in}
use Rattle.client_session.proofs.ReturnLaws.{news_noted}
use Rattle.client_session.proofs.workspace.Workspace.news_in.Goals as goal

pub returns : goal.returns
returns c =
    subst (λ (news : List PlaneEdit). IfOk c.unknown_edits.result (λ made. made.items ≡ news))
    (ap (λ (known : List PlaneEdit). news_in known c.args.edits.now) c.in_ok-known.ensures ∙ news_noted (doubted c.args.self.now.doubt) c.args.self.now.replica.journal c.args.edits.now) c.unknown_edits.ensures
