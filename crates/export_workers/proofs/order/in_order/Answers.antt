use Rattle.std.proofs.Common.{◌≡◌, ℕ, length, arith, subst}
use Rattle.export_workers.specs.Exports.{AreAnswered, IsJobAnswer}
use Rattle.export_workers.proofs.JobLemmas.{turn, in_order, has_answer}
use Rattle.export_workers.proofs.order.in_order.Goals as goal

pub loop-job-preserved : goal.loop-job-preserved
loop-job-preserved c =
    let h = turn _ _ _ _ _ _ _ _ _ _ _ _ c.loop-job.invariant.answers c.loop-job.invariant.queue c.loop-job.invariant.count
    c.in-Some.ensures.items c.in-Some-take.ensures.taken c.in_ok-push.ensures.items c.in_ok-push_back.ensures.items in
    record { answers = h.0; queue = h.1; count = h.2 }

pub returns : goal.returns
returns c =
    let past : c.loop-job._job ≡ length c.args.generations.now = omega arith in
    let F : ℕ → Type 0 = λ job. AreAnswered (IsJobAnswer c.args.rule.now c.args.plane.now c.args.generations.now) (length c.args.generations.now) 1 job 0 c.loop-job.answers.items in
    rw c.of_vec.ensures (in_order _ _ _ 0 _ (subst F past c.loop-job.invariant.answers))

pub unreachable-requires-in_default-take : goal.unreachable-requires-in_default-take
unreachable-requires-in_default-take c = has_answer _ _ _ _ _ _ _ c.loop-job.invariant.queue c.in-Some.ensures.items c.loop-job-test.true (c.take.ensures.none c.in_default-take.is)
