use Rattle.std.proofs.Common.{◌≡◌, ◌∙◌, ap, inl, inr, sym, Err, true}
use Rattle.std.specs.Prelude.{◌⊎◌, Some}
use Rattle.stamped_tree.specs.Plane.{map_of}
use Rattle.generation_engine.specs.Universe.{states_in_writes}
use Rattle.genedit_view.specs.Reading.{state_rule}
use Rattle.genedit_view.specs.Universes.{universe_view}
use Rattle.genedit_view.proofs.SeenLaws.{at_end, state_read, state_refused}
use Rattle.genedit_view.proofs.samples.samples_of_state.Goals as goal

with_search : {A B C : Type 0} → A ⊎ B → A ⊎ (B ⊎ C)
with_search (inl a) = inl a
with_search (inr b) = inr (inl b)

pub returns-in_err-message-clause-fault : goal.returns-in_err-message-clause-fault
returns-in_err-message-clause-fault c =
    let o = universe_view c.args.given c.args.range.first in
    let rule : state_rule c.args.given c.args.text.now ≡ Some c.in-Some.rule = sym c.state_rule.ensures ∙ c.in-Some.is in
    at_end c.from_residual.result _ _ c.from_residual.ensures.1
    (λ e told. with_search (state_refused o c.args.text.now c.in-Some.rule c.in_err-message.field-0.0 e c.requires rule
    (λ full. c.in_err-message.ensures.full (ap Err full)) (λ map tellable spelt full. c.in_err-message.ensures.too_large map tellable spelt (ap Err full)) c.in_err-message.ensures.exact told))

pub returns-in_err-samples-clause-fault : goal.returns-in_err-samples-clause-fault
returns-in_err-samples-clause-fault c =
    let text = c.args.text.now in
    let r = c.in-Some.rule in
    let rule : state_rule c.args.given text ≡ Some r = sym c.state_rule.ensures ∙ c.in-Some.is in
    at_end c.from_residual-in_err-samples.result _ _ c.from_residual-in_err-samples.ensures.1
    (λ e told. inr (inr (record {
      rule = r;
      states = states_in_writes (map_of c.in-Some-plane.plane.now);
      read = state_read true c.args.given text r c.in_ok-message.message.content c.in-Some-plane.plane.now c.requires rule c.in-Some-plane.ensures.value c.in_ok-message.ensures.found.1;
      refusal = c.in_err-samples.field-0.0;
      refused = c.in_err-samples.ensures.refused;
      told = told;
    })))

pub returns-clause-samples : goal.returns-clause-samples
returns-clause-samples c =
    let text = c.args.text.now in
    let r = c.in-Some.rule in
    let rule : state_rule c.args.given text ≡ Some r = sym c.state_rule.ensures ∙ c.in-Some.is in
    record {
      states = states_in_writes (map_of c.in-Some-plane.plane.now);
      read = state_read true c.args.given text r c.in_ok-message.message.content c.in-Some-plane.plane.now c.requires rule c.in-Some-plane.ensures.value c.in_ok-message.ensures.found.1;
      within = c.in_ok-samples.ensures.range;
      are = c.in_ok-samples.ensures.samples;
    }
