use Rattle.std.proofs.Common.{◌∙◌, ap, arith, subst}
use Rattle.replica_core.specs.Replica.{IsReplica, ReplicaState}
use Rattle.replica_core.proofs.AgainLaws.{none_at, taken_again, tellable_at, told_at}
use Rattle.replica_core.proofs.replica.Replica.has_at.Goals as goal

pub returns-then-place-journal-clause-value : goal.returns-then-place-journal-clause-value
returns-then-place-journal-clause-value c =
    told_at c.as_slice-journal.result.now c.args.self.now.journal c.args.place c.index-journal-place.result c.args.edit.now c.same.result
    (c.as_slice-journal.ensures.edits ∙ ap (λ (r : ReplicaState). r.journal) c.self.view_is) c.same.ensures (omega (arith, c.if-place-journal.true)) c.index-journal-place.is

pub returns-then-place-journal-clause-taken : goal.returns-then-place-journal-clause-taken
returns-then-place-journal-clause-taken c = λ same.
    taken_again c.args.self.now c.args.place c.args.edit.now (subst IsReplica c.self.view_is c.self.invariant)
    ((told_at c.as_slice-journal.result.now c.args.self.now.journal c.args.place c.index-journal-place.result c.args.edit.now c.same.result
    (c.as_slice-journal.ensures.edits ∙ ap (λ (r : ReplicaState). r.journal) c.self.view_is) c.same.ensures (omega (arith, c.if-place-journal.true)) c.index-journal-place.is).0 same)

pub returns-then-place-journal-clause-tellable : goal.returns-then-place-journal-clause-tellable
returns-then-place-journal-clause-tellable c = λ same.
    tellable_at c.args.self.now c.args.place c.args.edit.now (subst IsReplica c.self.view_is c.self.invariant)
    ((told_at c.as_slice-journal.result.now c.args.self.now.journal c.args.place c.index-journal-place.result c.args.edit.now c.same.result
    (c.as_slice-journal.ensures.edits ∙ ap (λ (r : ReplicaState). r.journal) c.self.view_is) c.same.ensures (omega (arith, c.if-place-journal.true)) c.index-journal-place.is).0 same)

pub returns-else-place-journal-clause-value : goal.returns-else-place-journal-clause-value
returns-else-place-journal-clause-value c =
    none_at c.as_slice-journal.result.now c.args.self.now.journal c.args.place c.args.edit.now (c.as_slice-journal.ensures.edits ∙ ap (λ (r : ReplicaState). r.journal) c.self.view_is)
    (omega (arith, c.if-place-journal.false))
