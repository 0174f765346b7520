use Rattle.std.proofs.Common.{◌≡◌, length, vec_len}
use Rattle.export_workers.specs.Exports.{AreAnswered, AreQueued, IsJobAnswer}
use Rattle.export_workers.proofs.order.in_order.Given as goal

abbrev pub invariant-loop-job : goal.invariant-loop-job
invariant-loop-job l = record {
  answers : AreAnswered (IsJobAnswer l.rule l.plane l.generations) (length l.generations) 1 l._job 0 l.answers.items;
  queue : AreQueued (IsJobAnswer l.rule l.plane l.generations) (length l.generations) (vec_len l.fn.shares) l._job l.queue.items;
  count : length l.queue.items ≡ vec_len l.fn.shares;
}
