use Rattle.std.proofs.Common.{map, ◌∙◌}
use Rattle.kept_log.proofs.Moments.{cut_back_done, cut_back_failed, cut_behind, untouched}
use Rattle.kept_log.proofs.log.Log.commit.Goals as goal

pub returns-in-Empty-clause-crash : goal.returns-in-Empty-clause-crash
returns-in-Empty-clause-crash g c list keeps = untouched list (map (λ v. v.items) c.args.bodies.now) _ keeps

pub returns-in-Failed-clause-crash : goal.returns-in-Failed-clause-crash
returns-in-Failed-clause-crash g c list keeps = untouched list (map (λ v. v.items) c.args.bodies.now) _ keeps

pub returns-in_default-clause-crash : goal.returns-in_default-clause-crash
returns-in_default-clause-crash g c list keeps = untouched list (map (λ v. v.items) c.args.bodies.now) _ keeps

pub returns-in-Ok-cut_back-clause-back : goal.returns-in-Ok-cut_back-clause-back
returns-in-Ok-cut_back-clause-back g c list keeps is =
    (cut_back_done list (map (λ v. v.items) c.args.bodies.now) _ _ (c.in-Err.ensures.behind list (map (λ v. v.items) c.args.bodies.now) keeps c.in-Ok.ensures.bodies (c.deref.ensures.value ∙ c.in-Ok.ensures.text)) c.in-Ok-cut_back.ensures.held).kept

pub returns-in-Ok-cut_back-clause-crash : goal.returns-in-Ok-cut_back-clause-crash
returns-in-Ok-cut_back-clause-crash g c list keeps =
    cut_behind list (map (λ v. v.items) c.args.bodies.now) _ _ _ (c.in-Err.ensures.crash list (map (λ v. v.items) c.args.bodies.now) keeps c.in-Ok.ensures.bodies (c.deref.ensures.value ∙ c.in-Ok.ensures.text))
    (cut_back_done list (map (λ v. v.items) c.args.bodies.now) _ _ (c.in-Err.ensures.behind list (map (λ v. v.items) c.args.bodies.now) keeps c.in-Ok.ensures.bodies (c.deref.ensures.value ∙ c.in-Ok.ensures.text)) c.in-Ok-cut_back.ensures.held).crash

pub returns-clause-crash : goal.returns-clause-crash
returns-clause-crash g c list keeps =
    cut_behind list (map (λ v. v.items) c.args.bodies.now) _ _ _ (c.in-Err.ensures.crash list (map (λ v. v.items) c.args.bodies.now) keeps c.in-Ok.ensures.bodies (c.deref.ensures.value ∙ c.in-Ok.ensures.text))
    (cut_back_failed list (map (λ v. v.items) c.args.bodies.now) _ _ (c.in-Err.ensures.behind list (map (λ v. v.items) c.args.bodies.now) keeps c.in-Ok.ensures.bodies (c.deref.ensures.value ∙ c.in-Ok.ensures.text)) c.in-Err-cut_back.ensures.held)
