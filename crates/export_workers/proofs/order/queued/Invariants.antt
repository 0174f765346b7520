use Rattle.std.proofs.Common.{◌≡◌, ◌+◌, length, vec_len}
use Rattle.std.specs.Vec.Iter.{into_iter_items}
use Rattle.export_workers.specs.Exports.{AreQueued, AreQueuedOks, IsJobAnswer}
use Rattle.export_workers.proofs.order.queued.Given as goal

abbrev pub invariant-loop-share : goal.invariant-loop-share
invariant-loop-share l = record {
  queue : AreQueued (IsJobAnswer l.rule l.plane l.generations) (length l.generations) (vec_len l.fn.shares) 0 l.queue.items;
  rest : AreQueuedOks (IsJobAnswer l.rule l.plane l.generations) (length l.generations) (vec_len l.fn.shares) (length l.queue.items) (into_iter_items l.share-iterator);
  all : length l.queue.items + length (into_iter_items l.share-iterator) ≡ vec_len l.fn.shares;
}
