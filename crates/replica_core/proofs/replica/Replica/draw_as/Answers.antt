use Rattle.std.proofs.Common.{ℕ, [], ◌∷◌, sym, ◌∙◌, subst, ap, refl, Ok, Err}
use Rattle.std.proofs.Math.Nat.{zero-max}
use Rattle.std.proofs.lemmas.Result.{err_from_is_err_and}
use Rattle.edit_stamps.specs.Stamp.{counter_in}
use Rattle.edit_stamps.specs.Edit.{HaveStatesBelow, IsEdit}
use Rattle.edit_stamps.specs.PlaneMap.{IsGreatestStamp}
use Rattle.stamped_tree.specs.Plane.{map_of}
use Rattle.delta_exchange.specs.declared.message.Content.TheVariants.{Edits}
use Rattle.replica_core.specs.Replica.{ReplicaState, edit_drawn, IsDraw, IsJournalOf}
use Rattle.replica_core.proofs.DrawLaws.{draws, next_above, refuses_made, stops}
use Rattle.replica_core.proofs.NotedEdits.{below_drawn, drawn_behind, drawn_journal, kept}
use Rattle.edit_stamps.proofs.StateLaws.{states_kept}
use Rattle.replica_core.proofs.StateLaws.{states_drawn}
use Rattle.replica_core.proofs.replica.Replica.draw_as.Goals as goal

pub returns-in_err-edit : goal.returns-in_err-edit
returns-in_err-edit c =
    let told = c.next_stamp.ensures in
    let stamped = rw (zero-max (counter_in told.0)) at told.2 in
    let is = err_from_is_err_and c.from_residual-in_err-edit.result c.from_residual-in_err-edit.ensures.1 in
    let old : ReplicaState = record { rule = c.self.inside.rule; number = c.self.inside.number; plane = c.self.inside.plane; journal = c.self.inside.journal } in
    subst (λ r. (n : ℕ) × IsGreatestStamp n (map_of r.plane) × IsDraw r r (edit_drawn r.rule (counter_in n) r.number c.args.spec.now) c.from_residual-in_err-edit.result)
    c.self.view_is (
      told.0,
      told.1,
      subst (IsDraw old old (edit_drawn old.rule (counter_in told.0) old.number c.args.spec.now)) (sym (is.1 ∙ ap Err is.2))
          (refuses_made old told.0 c.in_ok-stamp.stamp c.args.spec.now c.in_err-edit.field-0.0 (sym stamped ∙ c.in_ok-stamp.was) c.in_err-edit.ensures.edit c.in_err-edit.ensures.want c.in_err-edit.ensures.room),
    )

pub returns : goal.returns
returns c =
    let told = c.next_stamp.ensures in
    let stamped = rw (zero-max (counter_in told.0)) at told.2 in
    let old : ReplicaState = record { rule = c.self.inside.rule; number = c.self.inside.number; plane = c.self.inside.plane; journal = c.self.inside.journal } in
    let new : ReplicaState = record { rule = c.self.inside.rule; number = c.self.inside.number; plane = c.draw_into.new.plane; journal = c.draw_into.new.journal } in
    subst (λ r. (n : ℕ) × IsGreatestStamp n (map_of r.plane) × IsDraw r new (edit_drawn r.rule (counter_in n) r.number c.args.spec.now) (Ok c.in_ok-edit.edit))
    c.self.view_is (
      told.0,
      told.1,
      draws old new told.0 c.in_ok-stamp.stamp c.args.spec.now c.in_ok-edit.edit told.1 (sym stamped ∙ c.in_ok-stamp.was) c.in_ok-edit.ensures.edit
          c.in_ok-edit.ensures.states (record { rule = refl; number = refl; room = c.draw_into.ensures.room }) c.in_ok-draw_into.ensures.map
          (drawn_behind told.0 (map_of old.plane) old.journal new.journal c.in_ok-edit.edit told.1
          (next_above told.0 old.number c.in_ok-stamp.stamp old.rule c.args.spec.now c.in_ok-edit.edit (sym stamped ∙ c.in_ok-stamp.was) c.in_ok-edit.ensures.edit)
          c.self.invariant.journal c.in_ok-draw_into.ensures.noted),
    )

pub returns-in_err-draw_into : goal.returns-in_err-draw_into
returns-in_err-draw_into c =
    let told = c.next_stamp.ensures in
    let stamped = rw (zero-max (counter_in told.0)) at told.2 in
    let is = err_from_is_err_and c.from_residual-in_err-draw_into.result c.from_residual-in_err-draw_into.ensures.1 in
    let old : ReplicaState = record { rule = c.self.inside.rule; number = c.self.inside.number; plane = c.self.inside.plane; journal = c.self.inside.journal } in
    let new : ReplicaState = record { rule = c.self.inside.rule; number = c.self.inside.number; plane = c.draw_into.new.plane; journal = c.draw_into.new.journal } in
    subst (λ r. (n : ℕ) × IsGreatestStamp n (map_of r.plane) × IsDraw r new (edit_drawn r.rule (counter_in n) r.number c.args.spec.now) c.from_residual-in_err-draw_into.result)
    c.self.view_is (
      told.0,
      told.1,
      subst (IsDraw old new (edit_drawn old.rule (counter_in told.0) old.number c.args.spec.now)) (sym (is.1 ∙ ap Err is.2))
          (stops old new told.0 c.in_ok-stamp.stamp c.args.spec.now c.in_ok-edit.edit c.in_err-draw_into.field-0.0 (sym stamped ∙ c.in_ok-stamp.was) c.in_ok-edit.ensures.edit
          (record {
            want = c.in_err-draw_into.ensures.err;
            unchanged = record { one = record { rule = refl; number = refl; room = c.draw_into.ensures.room }; map = c.in_err-draw_into.ensures.before.map; journal = c.in_err-draw_into.ensures.unnoted };
            full = λ is. (Edits (c.in_ok-edit.edit ∷ []), refl, c.in_err-draw_into.ensures.full is);
          })),
    )

pub invariant_of-self : goal.invariant_of-self
invariant_of-self c =
    let err = c.in_err-draw_into.ensures in
    let before = map_of c.self.inside.plane in
    let behind = map_of c.draw_into.new.plane in
    record {
      number = c.self.invariant.number;
      few = c.self.invariant.few;
      states = states_kept c.self.inside.rule.states before behind err.before.map c.self.invariant.states;
      journal = kept before behind c.self.inside.journal c.draw_into.new.journal err.before.map err.unnoted c.self.invariant.journal;
      noted = subst (HaveStatesBelow c.self.inside.rule.states) (sym err.unnoted) c.self.invariant.noted;
    }

pub invariant_of-self-2 : goal.invariant_of-self-2
invariant_of-self-2 c =
    let told = c.next_stamp.ensures in
    let stamped = rw (zero-max (counter_in told.0)) at told.2 in
    let next = sym stamped ∙ c.in_ok-stamp.was in
    let before = map_of c.self.inside.plane in
    let behind = map_of c.draw_into.new.plane in
    let above = next_above told.0 c.self.inside.number c.in_ok-stamp.stamp c.self.inside.rule c.args.spec.now c.in_ok-edit.edit next c.in_ok-edit.ensures.edit in
    let last = drawn_behind told.0 before c.self.inside.journal c.draw_into.new.journal c.in_ok-edit.edit told.1 above c.self.invariant.journal c.in_ok-draw_into.ensures.noted in
    record {
      number = c.self.invariant.number;
      few = c.self.invariant.few;
      states = states_drawn c.self.inside.rule.states before behind c.in_ok-edit.edit c.in_ok-draw_into.ensures.map c.self.invariant.states c.in_ok-edit.ensures.states;
      journal = subst (IsJournalOf behind) (sym last)
          (drawn_journal told.0 before behind c.self.inside.journal c.in_ok-edit.edit told.1 above
          (subst IsEdit c.edit.view_is c.edit.invariant) c.in_ok-draw_into.ensures.map c.self.invariant.journal);
      noted = subst (HaveStatesBelow c.self.inside.rule.states) (sym last)
          (below_drawn c.self.inside.rule.states c.self.inside.journal c.in_ok-edit.edit c.self.invariant.noted c.in_ok-edit.ensures.states);
    }
