use Rattle.std.proofs.Common.{sym, ◌∙◌, subst}
use Rattle.std.specs.Prelude.{IsTrue}
use Rattle.edit_stamps.specs.Edit.{HaveStatesBelow}
use Rattle.stamped_tree.specs.Plane.{map_of}
use Rattle.replica_core.specs.Replica.{IsJournalOf}
use Rattle.replica_core.proofs.NotedEdits.{below_same, below_taken, kept, taken_journal}
use Rattle.edit_stamps.proofs.StateLaws.{states_kept}
use Rattle.replica_core.proofs.StateLaws.{states_taken}
use Rattle.replica_core.proofs.replica.Replica.take_noting_change.Goals as goal

pub invariant_of-self : goal.invariant_of-self
invariant_of-self c =
    let err = c.in_err-changed.ensures in
    let before = map_of c.self.inside.plane in
    let behind = map_of c.take_into.new.plane in
    record {
      number = c.self.invariant.number;
      few = c.self.invariant.few;
      states = states_kept c.self.inside.rule.states before behind err.before.map c.self.invariant.states;
      journal = kept before behind c.self.inside.journal c.take_into.new.journal err.before.map err.unnoted c.self.invariant.journal;
      noted = subst (HaveStatesBelow c.self.inside.rule.states) (sym err.unnoted) c.self.invariant.noted;
    }

pub invariant_of-self-2 : goal.invariant_of-self-2
invariant_of-self-2 c =
    let same : IsTrue c.same.result = (cc) in
    let told = c.in_ok-changed.ensures in
    let before = map_of c.self.inside.plane in
    let behind = map_of c.take_into.new.plane in
    let below = below_same c.self.inside.rule c.args.message.now.rule c.content.result.now c.args.message.now.content
    (c.same.ensures.0 same ∙ c.rule.ensures.value) c.content.ensures.value c.content.ensures.states in
    record {
      number = c.self.invariant.number;
      few = c.self.invariant.few;
      states = states_taken c.self.inside.rule.states before behind c.content.result.now told.map c.self.invariant.states below;
      journal = subst (IsJournalOf behind) (sym told.noted) (taken_journal before behind c.content.result.now c.self.inside.journal told.edits told.map c.self.invariant.journal);
      noted = subst (HaveStatesBelow c.self.inside.rule.states) (sym told.noted) (below_taken c.self.inside.rule.states c.self.inside.journal c.content.result.now c.self.invariant.noted below);
    }
