use Rattle.std.proofs.Common.{◌∙◌, sym, ap, subst}
use Rattle.std.proofs.lemmas.Result.{IfOk-weaker}
use Rattle.std.specs.Prelude.{IsTrue}
use Rattle.generations_rule.specs.Rule.{GenerationsRule}
use Rattle.edit_stamps.specs.Edit.{IsEdit, greatest_counter, has_states_below}
use Rattle.replica_core.specs.Replica.{edit_drawn}
use Rattle.replica_core.specs.declared.event.Reply.TheVariants as replies
use Rattle.replica_core.proofs.StandingLaws.{draws_at_clock, draws_edit, given_ok, given_err, refused_as_meant}
use Rattle.replica_core.proofs.RoomLaws.{draw_full, wants_room}
use Rattle.replica_core.proofs.world.draw_at.Goals as goal

pub returns-in-Ok-clause-step : goal.returns-in-Ok-clause-step
returns-in-Ok-clause-step c = λ rule h valid stands.
    let told = c.in-Ok.ensures in
    given_ok _ _ (edit_drawn rule (greatest_counter h.taken) c.args.replica.now.number c.args.spec.now) c.in-Ok.edit
    (sym (draws_at_clock rule c.args.replica.now.number told.0 h c.args.replica.now c.args.spec.now valid stands told.1) ∙ told.2.0) (
      ap replies.Drawn c.stamp.ensures,
      draws_edit rule c.args.replica.now.number h c.args.replica.now c.draw_as.new.self c.in-Ok.edit stands told.2.1,
      record {
        edit = subst IsEdit c.edit.view_is c.edit.invariant;
        states = subst (λ (g : GenerationsRule). IsTrue (has_states_below g.states c.in-Ok.edit)) stands.same_rule told.2.1.states;
      },
    )

pub returns-in-Err-clause-step : goal.returns-in-Err-clause-step
returns-in-Err-clause-step c = IfOk-weaker c.refused.result _ _ (λ reply is_refusal rule h valid stands.
    let told = c.in-Err.ensures in
    let is = refused_as_meant c.args.replica.now c.draw_as.new.self _ c.in-Err.fault told.2 is_refusal.0 in
    given_err _ _ (edit_drawn rule (greatest_counter h.taken) c.args.replica.now.number c.args.spec.now) c.in-Err.fault
    (sym (draws_at_clock rule c.args.replica.now.number told.0 h c.args.replica.now c.args.spec.now valid stands told.1) ∙ is.0)
    (is_refusal.1, is.1)) c.refused.ensures.reply

pub returns-in-Err-clause-full : goal.returns-in-Err-clause-full
returns-in-Err-clause-full c = λ is rule h valid stands.
    let told = c.in-Err.ensures in
    draw_full rule told.0 h c.args.replica.now c.draw_as.new.self c.args.spec.now c.in-Err.fault valid stands told.1 told.2
    (wants_room c.in-Err.fault c.refused.result c.refused.ensures.err is)
