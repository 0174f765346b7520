use Rattle.std.proofs.Common.{◌≡◌, ◌∙◌, ap}
use Rattle.crossbeam_queue.specs.Passes.{view as view_of}
use Rattle.board.specs.Origins.{origin}
use Rattle.board.specs.Sights.{label_of}
use Rattle.test_board.proofs.answers.taken.Goals as goal

-- no step changes which board the inbox is for
pub returns : goal.returns
returns g c =
    let made : (view_of c.in-Ok.drain.pass).label ≡ label_of (origin c.args.front.now) = ap (λ v. v.label) c.in-Ok.ensures.fresh.1 in
    let posts : (view_of c.post-2.new.self.pass).label ≡ (view_of c.in-Ok.drain.pass).label = c.post-2.ensures.kept.3 ∙ c.post.ensures.kept.3 in
    c.in_ok-take-2.ensures.label ∙ (c.take.ensures.same ∙ (posts ∙ made))
