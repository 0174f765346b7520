use Rattle.std.proofs.Common.{◌≡◌, ◌∙◌, ap, sym, subst, Err, true}
use Rattle.std.specs.Prelude.{◌⊎◌, Some}
use Rattle.stamped_tree.specs.Plane.{map_of}
use Rattle.generation_engine.specs.Universe.{states_in_writes}
use Rattle.genedit_view.specs.declared.fault.ViewFault.{ViewFault}
use Rattle.genedit_view.specs.Reading.{state_rule}
use Rattle.genedit_view.specs.Seeing.{IsNotSeen, IsWantAt}
use Rattle.genedit_view.specs.Universes.{universe_view}
use Rattle.genedit_view.proofs.SeenLaws.{at_end, state_late, state_read, state_refused}
use Rattle.genedit_view.proofs.universe.universe_of_state.Goals as goal

pub returns-in_err-message-clause-fault : goal.returns-in_err-message-clause-fault
returns-in_err-message-clause-fault c =
    let o = universe_view c.args.given c.args.generation in
    let rule : state_rule c.args.given c.args.text.now ≡ Some c.in-Some.rule = sym c.state_rule.ensures ∙ c.in-Some.is in
    at_end c.from_residual.result _ _ c.from_residual.ensures.1
    (λ e told. state_refused o c.args.text.now c.in-Some.rule c.in_err-message.field-0.0 e c.requires rule
    (λ full. c.in_err-message.ensures.full (ap Err full)) (λ map tellable spelt full. c.in_err-message.ensures.too_large map tellable spelt (ap Err full)) c.in_err-message.ensures.exact told)

pub returns-in_err-engine-clause-fault : goal.returns-in_err-engine-clause-fault
returns-in_err-engine-clause-fault c =
    let o = universe_view c.args.given c.args.generation in
    let text = c.args.text.now in
    let r = c.in-Some.rule in
    let rule : state_rule o.rule text ≡ Some r = sym c.state_rule.ensures ∙ c.in-Some.is in
    let read = state_read true o.rule text r c.in_ok-message.message.content c.in-Some-plane.plane.now c.requires rule c.in-Some-plane.ensures.value c.in_ok-message.ensures.found.1 in
    at_end c.from_residual-in_err-engine.result _ _ c.from_residual-in_err-engine.ensures.1
    (λ e told. subst (λ (x : ViewFault). IsNotSeen o text x ⊎ IsWantAt o text x) (sym told)
    (state_late o text r (states_in_writes (map_of c.in-Some-plane.plane.now)) c.in_err-engine.field-0.0 c.requires read c.in_err-engine.ensures.full c.in_err-engine.ensures.fault))

pub returns-clause-seen : goal.returns-clause-seen
returns-clause-seen c =
    let text = c.args.text.now in
    let r = c.in-Some.rule in
    let rule : state_rule c.args.given text ≡ Some r = sym c.state_rule.ensures ∙ c.in-Some.is in
    record {
      states = states_in_writes (map_of c.in-Some-plane.plane.now);
      read = state_read true c.args.given text r c.in_ok-message.message.content c.in-Some-plane.plane.now c.requires rule c.in-Some-plane.ensures.value c.in_ok-message.ensures.found.1;
      run = c.in_ok-engine.ensures.run;
      at = c.in_ok-engine.ensures.at;
    }
