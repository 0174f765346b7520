use Rattle.std.proofs.Common.{◌≡◌, ◌∙◌, ap, sym, length, rules}
use Rattle.client_session.specs.declared.workspace.Workspace.{Workspace}
use Rattle.client_session.specs.Moment.{Moment}
use Rattle.client_session.proofs.DrawnLaws.{drawn_told, drawn_untold}
use Rattle.client_session.proofs.client.Client.end_drawn.Goals as goal

pub returns-in-Err-tell_drawing : goal.returns-in-Err-tell_drawing
returns-in-Err-tell_drawing g c =
    drawn_untold c.args.pushed _ (record { line = c.self.inside.server; workspace = c.self.inside.workspace; out = c.self.inside.out.items }) _ c.end_or_doubt.new.replica (length c.journal-known.result.now) c.in-Ok.drawing
    c.self.view_is c.in-Ok.ensures.ends (ap length c.journal-known.ensures.value) c.in-Err-tell_drawing.ensures.replica c.end_or_doubt.new.doubt c.in-Ok.ensures.doubt c.in-Err-tell_drawing.fault c.in-Err-tell_drawing.ensures.want c.in-Err-tell_drawing.ensures.cut

pub returns : goal.returns
returns g c =
    let m : Moment = record { line = c.self.inside.server; workspace = c.self.inside.workspace; out = c.self.inside.out.items } in
    let kept = c.note_drawing.ensures.kept in
    let by : c.stamp-stamp.result ≡ c.args.pushed.edit.stamp = search rules in
    drawn_told c.args.pushed _ m _ c.end_or_doubt.new.replica (length c.journal-known.result.now) c.in-Ok.drawing
    c.self.view_is c.in-Ok.ensures.ends (ap length c.journal-known.ensures.value) (ap (λ (s : Workspace). s.replica) kept ∙ c.in-Ok-tell_drawing.ensures.replica) c.end_or_doubt.new.doubt c.in-Ok.ensures.doubt
    c.tell_drawing.new.self kept c.in-Ok-tell_drawing.ensures.making c.watch_push-watched.result c.stamp-stamp.result by
    c.args.self.now.workspace.replica.plane (sym (ap (λ (x : Moment). x.workspace.replica.plane) c.self.view_is))
    c.outcome_of.result c.in-Ok-tell_drawing.ensures.told c.watch_push-watched.ensures c.note_drawing.ensures.noted c.outcome_of.ensures
