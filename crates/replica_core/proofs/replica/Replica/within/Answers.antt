use Rattle.std.proofs.Common.{sym, subst, arith}
use Rattle.edit_stamps.specs.Edit.{HaveStatesBelow}
use Rattle.stamped_tree.specs.Plane.{map_of}
use Rattle.replica_core.specs.Replica.{IsJournalOf}
use Rattle.replica_core.proofs.NotedEdits.{no_journal}
use Rattle.replica_core.proofs.replica.Replica.within.Goals as goal

pub invariant_of-result : goal.invariant_of-result
invariant_of-result c = record {
  number = c.requires.number;
  few = c.ranges.number.fits;
  states = λ at. rw (c.in_ok-plane.ensures.map at) (omega (arith, c.states-rule.ensures.rule.least));
  journal = subst (IsJournalOf (map_of c.in_ok-plane.plane)) (sym c.with_key.ensures) (no_journal (map_of c.in_ok-plane.plane));
  noted = subst (HaveStatesBelow c.args.rule.states) (sym c.with_key.ensures) tt;
}
