use Rattle.std.proofs.Common.{refl, sym, ◌≡◌, ◌∙◌, ap, subst, Ok, Err}
use Rattle.std.proofs.lemmas.Result.{err_from_is_err_and}
use Rattle.delta_exchange.specs.declared.message.Content.TheVariants.{Edits}
use Rattle.edit_stamps.specs.Edit.{HaveStatesBelow}
use Rattle.stamped_tree.specs.Plane.{map_of}
use Rattle.replica_core.specs.Exchange.{IsTakingOf}
use Rattle.replica_core.specs.Replica.{ReplicaState, IsJournalOf}
use Rattle.replica_core.proofs.NotedEdits.{below_taken, kept, taken_journal}
use Rattle.edit_stamps.proofs.StateLaws.{states_kept}
use Rattle.replica_core.proofs.StateLaws.{states_taken}
use Rattle.replica_core.proofs.replica.Replica.take_edits.Goals as goal

pub returns-in_err-take_edits : goal.returns-in_err-take_edits
returns-in_err-take_edits c =
    let is = err_from_is_err_and c.from_residual.result c.from_residual.ensures.1 in
    let new : ReplicaState = record { rule = c.self.inside.rule; number = c.self.inside.number; plane = c.take_edits.new.plane; journal = c.take_edits.new.journal } in
    subst (λ r. IsTakingOf r new (λ content. content ≡ Edits c.args.edits.now) c.from_residual.result) c.self.view_is
    (subst (IsTakingOf (record { rule = c.self.inside.rule; number = c.self.inside.number; plane = c.self.inside.plane; journal = c.self.inside.journal }) new (λ content. content ≡ Edits c.args.edits.now)) (sym (is.1 ∙ ap Err is.2)) (record {
      want = c.in_err-take_edits.ensures.err;
      unchanged = record { one = record { rule = refl; number = refl; room = c.take_edits.ensures.room }; map = c.in_err-take_edits.ensures.before.map; journal = c.in_err-take_edits.ensures.unnoted };
      full = λ full. (Edits c.args.edits.now, refl, c.in_err-take_edits.ensures.full full);
    }))

pub returns : goal.returns
returns c =
    let new : ReplicaState = record { rule = c.self.inside.rule; number = c.self.inside.number; plane = c.take_edits.new.plane; journal = c.take_edits.new.journal } in
    subst (λ r. IsTakingOf {A = Unit {0}} r new (λ content. content ≡ Edits c.args.edits.now) (Ok (tt {0}))) c.self.view_is (
      Edits c.args.edits.now,
      refl,
      record { one = record { rule = refl; number = refl; room = c.take_edits.ensures.room }; map = c.in_ok-take_edits.ensures.map; journal = c.in_ok-take_edits.ensures.noted },
    )

pub invariant_of-self : goal.invariant_of-self
invariant_of-self c =
    let err = c.in_err-take_edits.ensures in
    let before = map_of c.self.inside.plane in
    let behind = map_of c.take_edits.new.plane in
    record {
      number = c.self.invariant.number;
      few = c.self.invariant.few;
      states = states_kept c.self.inside.rule.states before behind err.before.map c.self.invariant.states;
      journal = kept before behind c.self.inside.journal c.take_edits.new.journal err.before.map err.unnoted c.self.invariant.journal;
      noted = subst (HaveStatesBelow c.self.inside.rule.states) (sym err.unnoted) c.self.invariant.noted;
    }

pub invariant_of-self-2 : goal.invariant_of-self-2
invariant_of-self-2 c =
    let told = c.in_ok-take_edits.ensures in
    let before = map_of c.self.inside.plane in
    let behind = map_of c.take_edits.new.plane in
    let below : HaveStatesBelow c.self.inside.rule.states c.args.edits.now = subst (λ (r : ReplicaState). HaveStatesBelow r.rule.states c.args.edits.now) (sym c.self.view_is) c.requires in
    record {
      number = c.self.invariant.number;
      few = c.self.invariant.few;
      states = states_taken c.self.inside.rule.states before behind (Edits c.args.edits.now) told.map c.self.invariant.states below;
      journal = subst (IsJournalOf behind) (sym told.noted) (taken_journal before behind (Edits c.args.edits.now) c.self.inside.journal told.edits told.map c.self.invariant.journal);
      noted = subst (HaveStatesBelow c.self.inside.rule.states) (sym told.noted) (below_taken c.self.inside.rule.states c.self.inside.journal (Edits c.args.edits.now) c.self.invariant.noted below);
    }
